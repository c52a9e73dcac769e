-- `chart_check::joined::lowest_cut_off` meets its contract: the marks of all Begins serve every scheme.
use Rattle.std.proofs.Common.{◌∙◌}
use Rattle.chart_check.proofs.CutOff.{lowest-apart}
use Rattle.chart_check.proofs.joined.lowest_cut_off.Goals as goal

pub returns : goal.returns
returns c =
    c.lowest_apart.ensures.lowest ∙ lowest-apart c.args.records.now c.requires.passed _ c.lowest_apart.ensures.marks
