-- 23 label by label: the loop over the labels, whose rows stand one after the other.
use Rattle.std.proofs.Common.{ℕ, ◌+◌, ◌-◌, ◌≤◌, ◌<◌, ◌≡◌, ap, Bool, true, false, List, arith, eqb-true, eq-eqb, Option, find, unwrap_or}
use Rattle.std.proofs.lemmas.Grind.{common_steps}
use Rattle.std.specs.List.{range_with_len}
use Rattle.words.specs.lists.Numbers.{any, lowest}
use Rattle.words.proofs.lists.Tests.{no_both, not-false, not-true, split}
use Rattle.words.proofs.lists.Searches.{any-here, any-on, any-over, lowest-hit, lowest-above, lowest-most, lowest-before}
use Rattle.text.specs.frames.Frame.{size, field}
use Rattle.image.specs.Decode.{last_label, rows_from, decoded_image}
use Rattle.image.proofs.Accepted.{labels-count, rows-count}
use Rattle.image.proofs.Rising.{rises-on}
use Rattle.covering.specs.Matched.{is_uneven_label, is_uneven}
use Rattle.covering.specs.inner.CoveringContracts.{SoundTable, has_uneven_rows, is_other}
use Rattle.covering.proofs.Chains.{lowest-chain}
use Rattle.covering.proofs.LabelRows.{from-low, rows-decide}

-- labels below l are tried, and the rows of the others begin at frame first
pub record Trying (b : List ℕ) (last first l : ℕ) : Type 0 where
  pub table : SoundTable b
  pub is : last ≡ last_label b
  pub small : last < 256
  pub low : 2 ≤ l
  pub high : l ≤ last + 1
  pub from : rows_from b ≤ first
  pub to : first ≤ size b
  pub before : (f : ℕ) → rows_from b ≤ f → f < first → field b f 1 < l
  pub after : (f : ℕ) → first ≤ f → f < size b → l ≤ field b f 1
  pub left : any (is_uneven_label (decoded_image b)) l (last + 1 - l) ≡ is_uneven (decoded_image b)

pub trying-start : (b : List ℕ) → SoundTable b → (last first : ℕ) → last ≡ last_label b → first ≡ rows_from b → Trying b last first 2
unfolding is_uneven
trying-start b T last first e q = grind (arith, common_steps, from-low, labels-count)

-- the first row behind those of a label is of a label above
behind : (b : List ℕ) (l first end : ℕ) → end ≡ lowest (is_other b l) first (size b - first) → first ≤ end
    → ((f : ℕ) → first ≤ f → f < size b → l ≤ field b f 1) → end < size b → l < field b end 1
behind b l first end e from after h = grind (arith, common_steps, not-true, lowest-hit, eq-eqb, no_both)

module _ (b : List ℕ) (last first l : ℕ) (t : Trying b last first l) (h : l ≤ last) (other : Option ℕ)
    (found : other ≡ find (is_other b l) (range_with_len first (size b - first))) (end : ℕ) (or-all : end ≡ unwrap_or other (size b)) where
  abbrev n : ℕ
  n = end - first

  first-to : first ≤ size b
  first-to = t.to

  e : end ≡ lowest (is_other b l) first (size b - first)
  e = grind (arith, common_steps, lowest-chain (is_other b l) first (size b - first), first-to)

  first-from : rows_from b ≤ first
  first-from = t.from

  pub end-after : first ≤ end
  end-after = omega (arith, e, lowest-above (is_other b l) first (size b - first))

  pub end-inside : end ≤ size b
  end-inside = omega (arith, e, first-to, lowest-most (is_other b l) first (size b - first))

  pub end-near : end - first ≤ 1024
  end-near = omega (arith, end-inside, first-from, t.table.all, t.table.image.few, rows-count b)

  own : (f : ℕ) → first ≤ f → f < end → field b f 1 ≡ l
  own f p q = grind (arith, e, eqb-true, not-false, lowest-before (is_other b l) first (size b - first) f)

  beyond : (f : ℕ) → end ≤ f → f < size b → l < field b f 1
  beyond f p q =
      let same : field b (end + (f - end)) 1 ≡ field b f 1 = ap (λ (k : ℕ). field b k 1) (omega arith) in
      let over = behind b l first end e end-after t.after (omega arith) in
      omega (arith, same, over, rises-on b t.table.all t.table.image end (f - end) (omega (arith, end-after, first-from)) (omega arith))

  label-is : has_uneven_rows b first n ≡ is_uneven_label (decoded_image b) l
  label-is = grind (arith, common_steps, rows-decide, split, first-from, end-after, end-inside, own, beyond)

  module _ (u : Bool) (g : u ≡ has_uneven_rows b first (end - first)) where
    pub trying-hit : u ≡ true → true ≡ is_uneven (decoded_image b)
    trying-hit z = grind (arith, any-here (is_uneven_label (decoded_image b)) (last + 1) l, label-is, t.left)

    pub trying-on : u ≡ false → Trying b last end (l + 1)
    trying-on z = grind (arith, common_steps, split, any-on, first-from, end-after, end-inside, own, beyond, label-is)

pub trying-over : (b : List ℕ) (last first l : ℕ) → Trying b last first l → last < l → false ≡ is_uneven (decoded_image b)
trying-over b last first l t h = grind (arith, any-over (is_uneven_label (decoded_image b)) (last + 1) l, t.left)
