-- `translator::translating::translate` meets its contract: the reader's refusal, or what the table's text gives for the chart that it read.
use Rattle.std.proofs.Common.{sym, arith}
use Rattle.translator.proofs.EntrySteps.{zeros-long, read-refused, Read, read-told, read-long, read-ready, translated}
use Rattle.translator.proofs.translating.translate.Goals as goal
use Rattle.translator.proofs.translating.translate.Goals.{In-Ok}

pub returns-in_default : goal.returns-in_default
returns-in_default c = read-refused _ _ c.read_chart-read.ensures zeros-long _ c.in_default.is

-- what is known once the chart was read
read : (c : In-Ok) → Read c.args.text.now c.read_chart-read.new.out c.in-Ok.count
read c = read-told _ _ c.read_chart-read.ensures c.in-Ok.is

pub overflow_mul-end : goal.overflow_mul-end
overflow_mul-end c = let known = read (goal.at.overflow_mul-end c).In-Ok in omega (arith, known.few)

pub slice_bounds-held-end : goal.slice_bounds-held-end
slice_bounds-held-end c =
    let known = read (goal.at.slice_bounds-held-end c).In-Ok in
    omega (arith, known.few, c.read_chart-read.auto.out)

pub slice_bounds-records-end : goal.slice_bounds-records-end
slice_bounds-records-end c = sym (read-long (read (goal.at.slice_bounds-records-end c).In-Ok))

pub write_image-requires-clause-ready : goal.write_image-requires-clause-ready
write_image-requires-clause-ready c = read-ready (read (goal.at.write_image-requires-clause-ready c).In-Ok)

pub returns : goal.returns
returns c = translated (read (goal.at.returns c).In-Ok) _ c.write_image.ensures
