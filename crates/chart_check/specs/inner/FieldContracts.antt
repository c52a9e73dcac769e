-- What the pass for refusals 4 and 5 asks, and what it tells.
use Rattle.std.specs.Prelude.{ℕ, ◌+◌, ◌*◌, ◌≤◌, ◌<◌, ◌≡◌, List, length}
use Rattle.words.specs.lists.Numbers.{any}
use Rattle.text.specs.declared.frames.sizes.TheConstants.{RECORD, NODES, SCHEMES}
use Rattle.text.specs.declared.frames.refusals.TheConstants.{BAD_FIELD, BAD_SCHEME}
use Rattle.text.specs.frames.Frame.{size}
use Rattle.text.specs.frames.Verdict.{Verdict, next, when, at_lowest}
use Rattle.charts.specs.Chart.{Chart, scheme, schemes}
use Rattle.charts.specs.Check.{has_bad_field, is_bad_scheme}
use Rattle.chart_check.specs.inner.Counts.{counts_to}

-- 4 and 5
abbrev pub fields_verdict : Chart → Verdict
fields_verdict c = next (at_lowest BAD_FIELD (has_bad_field c) (size c)) λ _. when BAD_SCHEME (any (is_bad_scheme c) 1 (schemes c))

-- one of at most 256 nodes, of a scheme up to 16, and the counts of those before it
pub record NodeAsked (c : Chart) (v k : ℕ) (counts : List ℕ) : Type 0 where
  pub few : v < NODES
  pub whole : RECORD * v + RECORD ≤ length c
  pub low : scheme c v ≤ SCHEMES
  pub counted : counts ≡ counts_to c k v
