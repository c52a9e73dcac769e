-- `chart_check::circles::leads_back` meets its contract: the marks are those of the definition, read at the node.
use Rattle.std.proofs.Common.{◌≡◌, ◌∙◌, arith, length}
use Rattle.std.proofs.lemmas.Grind.{common_steps}
use Rattle.words.proofs.graph.Enlisted.{enlisted-first}
use Rattle.text.specs.frames.Frame.{size}
use Rattle.chart_check.proofs.node_marks.MarkCases.{blank-long, blank-lent, spread-back}
use Rattle.chart_check.proofs.circles.leads_back.Goals as goal

pub follow-count-requires : goal.follow-count-requires
follow-count-requires c = grind (arith, common_steps, blank-lent)

pub join-requires : goal.join-requires
join-requires c =
    let long : length c.follow-count.new.marks ≡ size c.args.records.now = c.follow-count.auto.marks ∙ blank-long _ _ _ c.requires.blank in
    record {
      long = long;
      room = omega (arith, c.requires.blank.room, c.follow-count.auto.list);
      listed = (enlisted-first _ _ _ _ _ c.requires.blank.none
          c.requires.blank.room c.follow-count.ensures).1;
    }

pub returns-clause-marks : goal.returns-clause-marks
returns-clause-marks c =
    let marks = (enlisted-first _ _ _ _ _ c.requires.blank.none c.requires.blank.room c.follow-count.ensures).0 in
    spread-back c.args.records.now c.args.v _ _ marks c.join.ensures.marks
