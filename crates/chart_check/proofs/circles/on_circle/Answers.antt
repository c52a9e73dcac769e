-- `chart_check::circles::on_circle` meets its contract: a condition, and whether it leads back.
use Rattle.std.proofs.Common.{false, rules}
use Rattle.text.specs.frames.Frame.{size}
use Rattle.chart_check.proofs.node_marks.MarkCases.{part-of}
use Rattle.chart_check.proofs.circles.on_circle.Goals as goal

pub leads_back-requires : goal.leads_back-requires
leads_back-requires c =
    record {
      inside = search rules;
      blank = record { none = part-of 256 (size c.args.records.now) false (search rules); room = search rules };
    }
