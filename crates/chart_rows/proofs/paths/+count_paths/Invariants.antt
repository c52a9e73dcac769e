-- `chart_rows::count_paths`: a stop is one path, a new condition has the paths of its two sides; the measure is the node's rank.
use Rattle.charts.proofs.Rank.{rank}
use Rattle.chart_rows.proofs.paths.+count_paths.Given as goal

abbrev pub decreases-count_paths : goal.decreases-count_paths
decreases-count_paths l = rank l.records.now l.node
