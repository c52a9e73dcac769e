-- `translator::path_text::put_forks`: the measure is the node's rank, which falls to both sides.
use Rattle.charts.proofs.Rank.{rank}
use Rattle.translator.proofs.path_text.+put_forks.Given as goal

abbrev pub decreases-put_forks : goal.decreases-put_forks
decreases-put_forks l = rank l.records.now l.node
