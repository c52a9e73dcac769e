-- `fillings::fill_counts::count_matching` meets its contract: the words below one are counted.
use Rattle.std.proofs.Common.{◌-◌, ◌≡◌, ◌≤◌}
use Rattle.words.specs.lists.Numbers.{count}
use Rattle.fillings.specs.inner.TallyContracts.{is_taking}
use Rattle.fillings.proofs.fill_counts.count_matching.Given as goal

abbrev pub invariant-loop-word : goal.invariant-loop-word
invariant-loop-word l = record {
  low : l.word ≤ l.words;
  few : l.matching ≤ l.word;
  part : l.matching ≡ count (is_taking l.table.bytes.now l.leaving) 0 l.word;
}

abbrev pub decreases-loop-word : goal.decreases-loop-word
decreases-loop-word l = l.words - l.word
