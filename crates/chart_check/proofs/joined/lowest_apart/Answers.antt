-- `chart_check::joined::lowest_apart` meets its contract: the Begins are marked, the marks spread, by a sweep and then by the list; where
-- some node has none, the lowest is found.
use Rattle.std.proofs.Common.{rules, arith}
use Rattle.std.proofs.lemmas.Grind.{common_steps}
use Rattle.words.proofs.graph.Marking.{full-reach}
use Rattle.words.proofs.graph.MarkedNodes.{listed-lowest}
use Rattle.text.specs.frames.Frame.{size}
use Rattle.chart_check.proofs.node_marks.MarkCases.{spread-apart, all-marked}
use Rattle.chart_check.proofs.joined.lowest_apart.Goals as goal

pub returns-then-count-marks-clause-marks : goal.returns-then-count-marks-clause-marks
returns-then-count-marks-clause-marks c = grind (arith, common_steps, full-reach, spread-apart)

pub returns-then-count-marks-clause-lowest : goal.returns-then-count-marks-clause-lowest
returns-then-count-marks-clause-lowest c = all-marked c.sweep.new.marks (size c.args.records.now) (search rules) (search rules)

pub join-joined-requires : goal.join-joined-requires
join-joined-requires c =
    let told = c.list_marked-count.ensures in
    record { long = search rules; room = search rules; listed = listed-lowest _ _ _ _ (told.listed, told.counted) }

pub returns-then-joined-marks-clause-lowest : goal.returns-then-joined-marks-clause-lowest
returns-then-joined-marks-clause-lowest c = all-marked c.join-joined.new.marks (size c.args.records.now) (search rules) (search rules)
