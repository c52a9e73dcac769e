-- The labels of a chart's table: 0 and 1, one from 2 on for each numbered stop, and the entries.
use Rattle.std.proofs.Common.{if◌then◌else◌, ◌≡◌, refl, ◌∙◌, ap, subst, ◌⊎◌, inl, inr, Bool, true, false, not, ℕ, zero, suc, ◌+◌, ◌-◌, ◌≤◌}
use Rattle.std.proofs.Common.{◌==◌, slice_index}
use Rattle.std.proofs.Common.{◌<◌, zero-add, add-one, arith, length, eq-eqb}
use Rattle.std.proofs.Math.ListN.{length-map}
use Rattle.std.proofs.lemmas.Grind.{common_steps}
use Rattle.words.specs.lists.Numbers.{count}
use Rattle.std.proofs.lemmas.Bool.{cond-true}
use Rattle.words.proofs.lists.Tests.{and-no, split}
use Rattle.words.proofs.lists.Counts.{count-le, count-below, count-apart, count-yes, count-pass, count-miss2}
use Rattle.words.proofs.lists.Ranges.{length-map-range, get_or-map-range, length-filter, get_or-filter}
use Rattle.text.specs.frames.Frame.{size}
use Rattle.charts.specs.Chart.{Chart, kind, scheme, is, schemes, begin, end}
use Rattle.walk.specs.Stops.{is_stop}
use Rattle.walk.proofs.Facts.{Facts}
use Rattle.walk.proofs.Follow.{stops-begin}
use Rattle.image.specs.inner.Sound.{no_label, nth_label}
use Rattle.chart_rows.specs.Labels.{is_numbered, numbered_nodes, label, entry, home_label, return_label, stop_label}
use Rattle.chart_rows.specs.Rows.{rows}
use Rattle.translator.specs.Table.{table}

-- a numbered stop below n that has label l
pub record Bearer (c : Chart) (n l : ℕ) : Type 0 where
  pub node : ℕ
  pub inside : node < n
  pub own : is_numbered c node ≡ true
  pub is : label c node ≡ l

module _ (c : Chart) where
  pub label-is : (v : ℕ) → is_numbered c v ≡ true → label c v ≡ suc (suc (count (is_numbered c) 0 v))
  unfolding label
  label-is v e = cond-true (is_numbered c v) (2 + count (is_numbered c) 0 v) (if scheme c v == 1 then 0 else 1) e ∙ omega arith

  pub length-labels : length (table c).labels ≡ suc (suc (count (is_numbered c) 0 (size c)))
  unfolding table
  length-labels = ap (λ (n : ℕ). suc (suc n)) (length-map (numbered_nodes c) (stop_label c) ∙ length-filter (is_numbered c) 0 (size c))

  pub label-low : (v : ℕ) → is_numbered c v ≡ true → 2 ≤ label c v
  label-low v e = omega (arith, label-is v e)

  pub label-inside : (v : ℕ) → v < size c → is_numbered c v ≡ true → label c v < length (table c).labels
  label-inside v l e = omega (arith, label-is v e, length-labels, count-below (is_numbered c) v (size c) l e)

  pub label-holds : (v : ℕ) → v < size c → is_numbered c v ≡ true → nth_label (table c) (label c v) ≡ stop_label c v
  label-holds v l e = ap (nth_label (table c)) (label-is v e) ∙ at
    where
      at : nth_label (table c) (suc (suc (count (is_numbered c) 0 v))) ≡ stop_label c v
      at = unfold table in
          get_or-filter (stop_label c) no_label (is_numbered c) 0 (size c) v l (ap (is_numbered c) (zero-add v) ∙ e)
          ∙ ap (stop_label c) (zero-add v)

  pub labels-apart : (u v : ℕ) → is_numbered c u ≡ true → is_numbered c v ≡ true → label c u ≡ label c v → u ≡ v
  labels-apart u v a b e = count-apart (is_numbered c) u v a b (omega (arith, label-is u a, label-is v b, e))

  -- from 2 up each label is that of a stop
  bearer-below : (n k : ℕ) → k < count (is_numbered c) 0 n → Bearer c n (suc (suc k))
  bearer-below zero k h = absurd (omega (arith, count-le (is_numbered c) 0 0))
  bearer-below (suc n) k h = go (split k (count (is_numbered c) 0 n)) (is_numbered c n) refl (bearer-below n k)
    where
      next : k < count (is_numbered c) 0 (n + 1)
      next = omega (arith, h, ap (count (is_numbered c) 0) (add-one n))

      go : (k < count (is_numbered c) 0 n) ⊎ (count (is_numbered c) 0 n ≤ k) → (t : Bool) → is_numbered c n ≡ t
          → (k < count (is_numbered c) 0 n → Bearer c n (suc (suc k))) → Bearer c (suc n) (suc (suc k))
      go (inl g) t e ih = let x = ih g in record { node = x.node; inside = omega (arith, x.inside); own = x.own; is = x.is }
      go (inr g) true e ih = record {
        node = n;
        inside = omega arith;
        own = e;
        is = label-is n e
            ∙ omega (arith, next, count-yes (is_numbered c) n e);
      }
      go (inr g) false e ih = absurd (omega (arith, next, count-pass (is_numbered c) n e))

  pub bearer : (l : ℕ) → 2 ≤ l → l < length (table c).labels → Bearer c (size c) l
  bearer l low h = subst (Bearer c (size c)) (omega arith) (bearer-below (size c) (l - 2) (omega (arith, length-labels)))

  pub label-home : nth_label (table c) 0 ≡ home_label
  unfolding table
  label-home = refl

  pub label-return : nth_label (table c) 1 ≡ return_label
  unfolding table
  label-return = refl

  pub labels-two : 2 ≤ length (table c).labels
  labels-two = omega (arith, length-labels)

  -- the Begin and the End of scheme 1 have no label of their own, so a byte holds every label
  first-unnumbered : (v : ℕ) → kind c v ≡ 0 → scheme c v ≡ 1 → is_numbered c v ≡ false
  first-unnumbered v k s = grind (arith, common_steps, stops-begin, eq-eqb)

  end-unnumbered : (v : ℕ) → kind c v ≡ 1 → is_numbered c v ≡ false
  end-unnumbered v k = and-no (is_stop c v) (not (is c 1 v)) (ap not (eq-eqb (kind c v) 1 k))

  pub labels-few : Facts c → length (table c).labels ≤ 256
  labels-few F =
      let b = F.begins 1 (omega arith) F.first in
      let e = F.ends 1 (omega arith) F.first in
      let m : count (is_numbered c) 0 (size c) + 2 ≤ size c = count-miss2 (is_numbered c) (size c) (begin c 1) (end c 1) b.0 e.0
      (λ q. omega (arith, ap (kind c) q, b.1, e.1)) (first-unnumbered (begin c 1) b.1 b.2) (end-unnumbered (end c 1) e.1) in
      omega (arith, length-labels, F.few)

  -- entries
  pub length-entries : length (table c).entries ≡ schemes c
  unfolding table
  length-entries = length-map-range (entry c) 1 (schemes c)

  pub entry-holds : (h : ℕ) → h < schemes c → slice_index (table c).entries h ≡ entry c (suc h)
  unfolding table
  entry-holds h l = get_or-map-range (entry c) 0 1 (schemes c) h l ∙ ap (entry c) (omega arith)

  pub rows-are : (table c).rows ≡ rows c
  unfolding table
  rows-are = refl
