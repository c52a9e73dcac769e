-- The numbers of the conditions that paths test, at plain values: which nodes have one, what a word's bit at it tells, and how a loop
-- writes them behind the labels.
use Rattle.std.proofs.Common.{◌≡◌, refl, sym, ◌∙◌, ap, ⊎_elim, true, false, ◌&&◌, not, List, ℕ, ◌+◌, ◌≤◌, ◌<◌, arith, length, set}
use Rattle.std.proofs.Common.{slice_index}
use Rattle.std.proofs.Common.{length-set, get_or-set_same, get_or-set_other, eqb-true, eq-eqb, ne_eqb}
use Rattle.std.proofs.lemmas.Grind.{common_steps}
use Rattle.std.proofs.lemmas.Bool.{cond-true, cond-false}
use Rattle.words.proofs.lists.Tests.{no_both, and-l, and-true, cases, and-no}
use Rattle.std.specs.Int.{bit_at}
use Rattle.text.specs.frames.Frame.{size, field}
use Rattle.charts.specs.Chart.{Chart, kind, argument, is, arc_taken}
use Rattle.walk.specs.Stops.{is_stop}
use Rattle.walk.proofs.Follow.{goes-on, takes-0, takes-1}
use Rattle.chart_rows.specs.Labels.{is_numbered, label}
use Rattle.chart_rows.specs.inner.ChartContracts.{Ready, Charted, OfKind}
use Rattle.chart_rows.proofs.chart_labels.ReadyLaws.{ready-facts}
use Rattle.chart_rows.proofs.chart_labels.LabelSteps.{own-label, no-own-label}
use Rattle.chart_rows.specs.inner.NodeRows.{tested_number, is_known}
use Rattle.chart_rows.specs.inner.PathContracts.{Entered}

-- ---- the number of a node
module _ (c : Chart) (v : ℕ) where
  pub number-none : (is c 3 v && not (is_stop c v)) ≡ false → 16 ≡ tested_number c v
  number-none e = sym (cond-false (is c 3 v && not (is_stop c v)) (argument c v) 16 e)

  pub number-other : (kind c v ≡ 3 → ⊥) → 16 ≡ tested_number c v
  number-other n = number-none (ap (λ x. x && not (is_stop c v)) (ne_eqb (kind c v) 3 n))

  pub number-stop : is_stop c v ≡ true → 16 ≡ tested_number c v
  number-stop s = number-none (and-no (is c 3 v) (not (is_stop c v)) (ap not s))

  pub number-goes : kind c v ≡ 3 → is_stop c v ≡ false → tested_number c v ≡ argument c v
  number-goes k s = grind (arith, common_steps, eq-eqb, cond-true, and-true)

  pub low-condition : (i : ℕ) → i ≡ tested_number c v → i ≤ 15 → kind c v ≡ 3
  low-condition i e h = grind (arith, common_steps, eqb-true, cases, and-l, number-none)

-- a condition stops where it has a label of its own
module _ (c : Chart) (v own : ℕ) (e : own ≡ label c v) where
  pub own-stops : 2 ≤ own → is_stop c v ≡ true
  own-stops h = and-l (is_stop c v) (not (is c 1 v)) (own-label c v (omega arith))

  pub none-goes : kind c v ≡ 3 → own < 2 → is_stop c v ≡ false
  none-goes k h = ⊎_elim
      (λ (s : is_stop c v ≡ true). no_both (is_numbered c v)
      (and-true (is_stop c v) (not (is c 1 v)) s (ap not (ne_eqb (kind c v) 1 (λ q. omega arith)))) (no-own-label c v (omega arith)))
      (λ (s : is_stop c v ≡ false). s) (cases (is_stop c v))

pub ruleset own_number = (number-stop, number-goes, own-stops, none-goes)

-- ---- at a node that a path comes to
pub small-number : {c : Chart} {v i : ℕ} → OfKind c 3 v → i ≡ argument c v → i < 16
small-number {c} {v} node e = omega (arith, (ready-facts node.ready).conditions v node.inside node.kind)

module _ (c : Chart) (ready : Ready c) (v i : ℕ) (t : Entered c v) (e : i ≡ tested_number c v) where
  goes-small : is_stop c v ≡ false → (i ≡ argument c v) × (i < 16)
  goes-small s =
      let k : kind c v ≡ 3 = goes-on c v t.no_begin s in
      let q : i ≡ argument c v = e ∙ number-goes c v k s in
      (q, small-number (record { ready = ready; inside = t.inside; kind = k }) q)

  pub number-most : i ≤ 16
  number-most = grind (arith, common_steps, cases, number-stop, goes-small)

  pub high-stops : 15 < i → is_stop c v ≡ true
  high-stops h = grind (arith, common_steps, cases, goes-small)

  pub low-goes : i ≤ 15 → is_stop c v ≡ false
  low-goes h = grind (arith, common_steps, cases, number-stop)

  pub low-number : i ≤ 15 → i ≡ argument c v
  low-number h = (goes-small (low-goes h)).0

  -- the bit of a mask tells whether the condition was met before: at a stop it is bit 16, which a word has not
  module _ (care b : ℕ) (small : care < 65536) (eb : b ≡ bit_at care i) where
    pub bit-known : b ≡ 1 → is_known c care v ≡ true
    bit-known o = grind (arith, common_steps, eq-eqb, and-true, cases, number-stop, goes-small)

    pub bit-unknown : (b ≡ 1 → ⊥) → is_known c care v ≡ false
    bit-unknown n = grind (arith, common_steps, ne_eqb, cases, goes-small)

  -- the arc of a condition by the bit of the values
  pub side-taken : is_stop c v ≡ false → (values b r : ℕ) → b ≡ bit_at values i → r ≡ field c v (3 + b) → r ≡ arc_taken c values v
  side-taken s values b r eb er = grind (arith, common_steps, takes-1, takes-0, goes-small)

-- ---- the numbers of the first v nodes
pub record Numbering (c : Chart) (old notes : List ℕ) (v : ℕ) : Type 0 where
  pub within : v ≤ size c
  pub size : length notes ≡ length old
  pub chart : Charted c notes
  pub numbers : (u : ℕ) → u < v → slice_index notes (256 + u) ≡ tested_number c u

pub numbering-start : (c : Chart) (notes : List ℕ) → Charted c notes → Numbering c notes notes 0
numbering-start c notes chart = record { within = omega arith; size = refl; chart = chart; numbers = λ u l. absurd (omega arith) }

module _ (c : Chart) (old notes : List ℕ) (v : ℕ) (long : 512 ≤ length old) (t : Numbering c old notes v) where
  pub numbering-on : v < size c → (x : ℕ) → x ≡ tested_number c v → Numbering c old (set notes (256 + v) x) (v + 1)
  numbering-on l x e = grind (arith, common_steps, length-set, get_or-set_other, get_or-set_same)
