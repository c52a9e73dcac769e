-- Labels: their number is small, a label of a node's own is 2 or more, and the steps of the functions that lay them out.
use Rattle.std.proofs.Common.{if◌then◌else◌, cond, ◌≡◌, refl, sym, ◌∙◌, ap, ◌⊎◌, ⊎_elim, Bool, true, false, ◌&&◌, not, List, [], ◌∷◌, ◌++◌}
use Rattle.std.proofs.Common.{◌==◌}
use Rattle.std.proofs.Common.{map, ℕ, ◌+◌, ◌≤◌, ◌<◌, zero-add, add-one, arith, length, set, length-set, eq-eqb, ne_eqb}
use Rattle.std.proofs.lemmas.Grind.{common_steps}
use Rattle.words.specs.lists.Numbers.{range, count}
use Rattle.words.specs.lists.Sequences.{written}
use Rattle.std.proofs.lemmas.Bool.{cond-true, cond-false}
use Rattle.words.proofs.lists.Tests.{cases, and-no}
use Rattle.words.proofs.lists.Counts.{count-snoc, count-below, count-miss2}
use Rattle.words.proofs.lists.Ranges.{length-map-range, get_or-map-range, map-range-snoc}
use Rattle.words.proofs.lists.Written.{written-none, written-snoc, written-front}
use Rattle.text.specs.frames.Frame.{size}
use Rattle.charts.specs.Chart.{Chart, kind, scheme, next0, is, begin, end}
use Rattle.walk.specs.Stops.{is_stop}
use Rattle.walk.proofs.Facts.{Facts}
use Rattle.chart_rows.specs.Labels.{is_numbered, label}
use Rattle.chart_rows.specs.inner.ChartContracts.{Ready, Labelled}
use Rattle.chart_rows.proofs.chart_labels.ReadyLaws.{ready-facts}
use Rattle.walk.proofs.Follow.{stops-begin}

pub label-own : (c : Chart) (v : ℕ) → is_numbered c v ≡ true → label c v ≡ 2 + count (is_numbered c) 0 v
unfolding label
label-own c v e = cond-true (is_numbered c v) (2 + count (is_numbered c) 0 v) (if scheme c v == 1 then 0 else 1) e

pub label-shared : (c : Chart) (v : ℕ) → is_numbered c v ≡ false → label c v ≡ (if scheme c v == 1 then 0 else 1)
unfolding label
label-shared c v e = cond-false (is_numbered c v) (2 + count (is_numbered c) 0 v) (if scheme c v == 1 then 0 else 1) e

low : (b : Bool) → cond {A = ℕ} b 0 1 < 2
low true = omega arith
low false = omega arith

-- a label of 2 or more is the node's own
pub own-label : (c : Chart) (v : ℕ) → 2 ≤ label c v → is_numbered c v ≡ true
own-label c v l = grind (arith, common_steps, cases, label-shared, low)

pub no-own-label : (c : Chart) (v : ℕ) → label c v < 2 → is_numbered c v ≡ false
no-own-label c v l = grind (arith, common_steps, cases, label-own)

-- Begin and End of scheme 1 have none of their own
pub few-numbered : (c : Chart) → Facts c → count (is_numbered c) 0 (size c) + 2 ≤ size c
few-numbered c F =
    let b = F.begins 1 (omega arith) F.first in
    let e = F.ends 1 (omega arith) F.first in
    count-miss2 (is_numbered c) (size c) (begin c 1) (end c 1) b.0 e.0
    (λ q. omega (arith, ap (kind c) q, b.1, e.1))
    (ap (λ x. x && not (is c 1 (begin c 1)))
    (stops-begin c (begin c 1) b.1
    ∙ ap (λ x. not x && is c 3 (next0 c (begin c 1))) (eq-eqb (scheme c (begin c 1)) 1 b.2)))
    (and-no (is_stop c (end c 1)) (not (is c 1 (end c 1))) (ap not (eq-eqb (kind c (end c 1)) 1 e.1)))

pub own-small : (c : Chart) → Ready c → (v own : ℕ) → v < size c → own ≡ count (is_numbered c) 0 v → is_numbered c v ≡ true → own + 2 < 256
own-small c ready v own l e t = omega (arith, count-below (is_numbered c) v (size c) l t, few-numbered c (ready-facts ready), ready.few)

-- ---- one node's label
module _ (c : Chart) (v : ℕ) where
  pub own-done : (own : ℕ) → own ≡ count (is_numbered c) 0 v → is_numbered c v ≡ true → own + 2 ≡ label c v
  own-done own e t = omega (arith, label-own c v t)

  pub first-done : is_numbered c v ≡ false → scheme c v ≡ 1 → 0 ≡ label c v
  first-done f e = sym (label-shared c v f ∙ cond-true (scheme c v == 1) 0 1 (eq-eqb (scheme c v) 1 e))

  pub other-done : is_numbered c v ≡ false → (scheme c v ≡ 1 → ⊥) → 1 ≡ label c v
  other-done f e = sym (label-shared c v f ∙ cond-false (scheme c v == 1) 0 1 (ne_eqb (scheme c v) 1 e))

pub ruleset one_label = (own-done, first-done, other-done)

-- ---- the labels of the first v nodes
pub record Labelling (c : Chart) (old labels : List ℕ) (own v : ℕ) : Type 0 where
  pub within : v ≤ size c
  pub owned : own ≡ count (is_numbered c) 0 v
  pub few : own ≤ v
  pub long : length labels ≡ length old
  pub done : labels ≡ written old 0 (map (label c) (range 0 v))

pub labelling-start : (c : Chart) (old : List ℕ) → Labelling c old old 0 0
labelling-start c old = record {
  within = omega arith;
  owned = unfold count in refl;
  few =
      omega arith;
  long = refl;
  done = sym (written-none old 0);
}

module _ (c : Chart) (old labels : List ℕ) (own v : ℕ) (room : size c ≤ length old) (t : Labelling c old labels own v)
    (l : v < size c) (x : ℕ) (e : x ≡ label c v) where
  labels-more : set labels v x ≡ written old 0 (map (label c) (range 0 (v + 1)))
  labels-more =
      let n : length (map (label c) (range 0 v)) ≡ v = length-map-range (label c) 0 v in
      ap (λ (ls : List ℕ). set ls v x) t.done
      ∙ ap (λ (k : ℕ). set (written old 0 (map (label c) (range 0 v))) k x) (omega arith)
      ∙ written-snoc old 0 (map (label c) (range 0 v)) x (omega arith)
      ∙ ap (λ (y : ℕ). written old 0 (map (label c) (range 0 v) ++ (y ∷ []))) (e ∙ ap (label c) (sym (zero-add v)))
      ∙ ap (written old 0) (sym (map-range-snoc (label c) 0 v) ∙ ap (λ (k : ℕ). map (label c) (range 0 k)) (sym (add-one v)))

  counted : (b : Bool) → is_numbered c v ≡ b → count (is_numbered c) 0 (v + 1) ≡ own + (if b then 1 else 0)
  counted b q = ap (count (is_numbered c) 0) (add-one v) ∙ count-snoc (is_numbered c) 0 v
      ∙ omega (arith, t.owned, ap (λ (y : Bool). cond {A = ℕ} y 1 0) (ap (is_numbered c) (zero-add v) ∙ q))

  pub labelling-on : (own' : ℕ) → ((2 ≤ x) × (own' ≡ own + 1)) ⊎ ((x < 2) × (own' ≡ own))
      → Labelling c old (set labels v x) own' (v + 1)
  labelling-on own' came = record {
    within = omega arith;
    owned = ⊎_elim
        (λ (p : (2 ≤ x) × (own' ≡ own + 1)). omega (arith, counted true (own-label c v (omega arith)), p.1))
        (λ (p : (x < 2) × (own' ≡ own)). omega (arith, counted false (no-own-label c v (omega arith)), p.1)) came;
    few = ⊎_elim (λ (p : (2 ≤ x) × (own' ≡ own + 1)). omega (arith, t.few, p.1))
        (λ (p : (x < 2) × (own' ≡ own)). omega (arith, t.few, p.1)) came;
    long = length-set labels v x ∙ t.long;
    done = labels-more;
  }

-- what the functions that read the labels ask
pub labelled : (c : Chart) (old labels : List ℕ) → size c ≤ length old → labels ≡ written old 0 (map (label c) (range 0 (size c)))
    → Labelled c labels
labelled c old labels room e = grind (arith, common_steps, zero-add, written-front, length-map-range, get_or-map-range)
