use Rattle.words.proofs.lists.Fills.{pieces-none}
use Rattle.output.proofs.output_lines.Printed.{codes-turn, codes-end}
use Rattle.std.proofs.Common.{rules}
use Rattle.output.proofs.output_lines.put_codes.Goals as goal

pub loop-i-init : goal.loop-i-init
loop-i-init c = pieces-none _ _ _ _ _

pub loop-i-preserved : goal.loop-i-preserved
loop-i-preserved c =
    codes-turn c.args.codes.now c.args.out.now _ _ c.loop-i.invariant _ _ (search rules) (search rules)
    c.put_bytes.auto.out c.code_line-line.ensures c.put_bytes.ensures

pub returns : goal.returns
returns c = codes-end _ _ _ _ c.loop-i.invariant (search rules)
