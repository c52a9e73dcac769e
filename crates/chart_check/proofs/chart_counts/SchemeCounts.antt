-- The counts of refusal 5: one node more, and a scheme by its counts.
use Rattle.std.proofs.Common.{◌≡◌, refl, ◌∙◌, ap, Bool, List, ℕ, zero, suc, ◌+◌, ◌≤◌, ◌<◌, arith, length, set, replicate, eq-eqb}
use Rattle.std.proofs.Common.{slice_index}
use Rattle.std.proofs.Common.{ne_eqb}
use Rattle.std.proofs.lemmas.Grind.{common_steps}
use Rattle.std.specs.List.{list_any, range_with_len}
use Rattle.words.specs.lists.Numbers.{any, count}
use Rattle.words.proofs.lists.Tests.{and-true, and-no}
use Rattle.words.proofs.lists.Counts.{count-le, count-yes, count-pass}
use Rattle.words.proofs.lists.Searches.{any-alike}
use Rattle.words.proofs.lists.Tabulated.{length-tabulate, get_d-tabulate, tabulate-alike, tabulate-set, tabulate-none}
use Rattle.text.specs.frames.Frame.{size}
use Rattle.charts.specs.Chart.{Chart, kind, scheme, is_of}
use Rattle.charts.specs.Check.{is_bad_scheme}
use Rattle.chart_check.specs.inner.Counts.{counts_to, is_not_one_of_each}

listed : (p : ℕ → Bool) (i n : ℕ) → list_any p (range_with_len i n) ≡ any p i n
unfolding any
listed p i zero = refl
listed p i (suc n) = grind (arith, common_steps, listed p (suc i) n)

-- ---- the counts of the first v nodes
module _ (c : Chart) (k : ℕ) where
  pub counts-start : (counts : List ℕ) → counts ≡ replicate 17 0 → counts ≡ counts_to c k 0
  unfolding count
  counts-start counts e = e ∙ tabulate-none (λ h. count (is_of c k h) 0 0) 17 (λ u. refl)

  module _ (v : ℕ) (counts : List ℕ) (e : counts ≡ counts_to c k v) where
    pub counts-long : length counts ≡ 17
    counts-long = ap (λ (xs : List ℕ). length xs) e ∙ length-tabulate (λ h. count (is_of c k h) 0 v) 17

    pub counts-at : (h : ℕ) → h < 17 → slice_index counts h ≡ count (is_of c k h) 0 v
    counts-at h l = ap (λ (xs : List ℕ). slice_index xs h) e ∙ get_d-tabulate (λ h. count (is_of c k h) 0 v) 17 h l

    pub counts-low : (h : ℕ) → h < 17 → slice_index counts h ≤ v
    counts-low h l = omega (arith, counts-at h l, count-le (is_of c k h) 0 v)

    -- the scheme of a good node has its place
    pub counts-inside : (h : ℕ) → h ≡ scheme c v → scheme c v ≤ 16 → h < length counts
    counts-inside h s l = omega (arith, counts-long)

    -- a node of another kind
    pub counts-pass : (x : ℕ) → x ≡ kind c v → (x ≡ k → ⊥) → counts ≡ counts_to c k (v + 1)
    counts-pass x p n = grind (arith, common_steps, ne_eqb, count-pass, tabulate-alike)

    -- one of this kind counts for its scheme alone
    pub counts-more : (x h : ℕ) → x ≡ kind c v → x ≡ k → h ≡ scheme c v → h < 17
        → set counts h (slice_index counts h + 1) ≡ counts_to c k (v + 1)
    counts-more x h p q s l = grind (arith, common_steps, eq-eqb, ne_eqb, and-no, count-pass, and-true, tabulate-set, count-yes, counts-at)

-- ---- the schemes by their counts
pub bad-counts : (c : Chart) (begins ends : List ℕ) (n : ℕ) → begins ≡ counts_to c 0 (size c) → ends ≡ counts_to c 1 (size c) → n < 17
    → list_any (is_not_one_of_each begins ends) (range_with_len 1 n) ≡ any (is_bad_scheme c) 1 n
bad-counts c begins ends n e f l = grind (arith, common_steps, listed, any-alike, counts-at)

pub ruleset scheme_counts = (counts-pass, counts-more, bad-counts)
