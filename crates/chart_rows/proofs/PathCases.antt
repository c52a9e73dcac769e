-- The steps of the functions that follow paths, at plain values: how the paths from a stop and from a new condition are made up, and how
-- many they are.
use Rattle.std.proofs.Common.{◌≡◌, sym, ◌∙◌, ap, subst, true, false, List, [], ◌∷◌, ◌++◌, ℕ, ◌+◌, ◌-◌, ◌^◌, ◌≤◌, ◌<◌, min, arith}
use Rattle.std.proofs.Common.{bit_and, slice_index}
use Rattle.std.proofs.Common.{bit_or, length, length-append}
use borrow.Author.Tests.{eqb-false}
use Rattle.std.proofs.lemmas.Grind.{common_steps}
use Rattle.words.proofs.lists.Tests.{and-false}
use Rattle.std.specs.Int.{bit_at}
use Rattle.words.proofs.bits.BitLaws.{add-is-or}
use Rattle.words.proofs.bits.MaskLaws.{more-within-0, more-within-1, within-lacks}
use Rattle.text.specs.frames.Frame.{size}
use Rattle.charts.specs.Chart.{Chart, kind, argument, next0, next1}
use Rattle.charts.proofs.Rank.{rank, rank-falls0, rank-falls1}
use Rattle.walk.specs.Stops.{is_stop}
use Rattle.image.specs.Image.{Row}
use Rattle.walk.proofs.Follow.{goes-on}
use Rattle.chart_rows.specs.inner.ChartContracts.{Ready}
use Rattle.chart_rows.specs.inner.PathContracts.{Entered, PathAt}
use Rattle.chart_rows.specs.inner.NodeRows.{paths_from, tested_number, settled_node}
use Rattle.chart_rows.proofs.chart_labels.ReadyLaws.{ready-sound}
use Rattle.chart_rows.proofs.PathSteps.{path_row, entered0, entered1, at-stop, at-new}
use Rattle.chart_rows.proofs.Settled.{Settled, is-settled}
use Rattle.chart_rows.proofs.NumberLaws.{high-stops, low-goes, low-number}
use Rattle.std.proofs.lemmas.Bool.Decides.{nat_tests}

-- a new condition: where its two sides go on, with which mask and values
pub record Fork (c : Chart) (care values v tested valued w0 w1 : ℕ) : Type 0 where
  pub entered0 : Entered c w0
  pub entered1 : Entered c w1
  pub falls0 : rank c w0 < rank c v
  pub falls1 : rank c w1 < rank c v
  pub within0 : bit_and values tested ≡ values
  pub within1 : bit_and valued tested ≡ valued
  pub all : (l f : ℕ)
      → paths_from (size c) c l f care values v ≡ paths_from (size c) c l f tested values w0 ++ paths_from (size c) c l f tested valued w1

-- ---- the paths from a node that is a stop
pub stop-paths : (c : Chart) → Ready c → (care values v u : ℕ) → Settled c care values v u → is_stop c u ≡ true → (l f : ℕ)
    → paths_from (size c) c l f care values v ≡ path_row c l f care values u ∷ []
stop-paths c ready care values v u st s l f = st.same l f ∙ at-stop c ready l f care values u st.entered s

-- ---- the paths from a condition that is new
pub record New (c : Chart) (care values v u i : ℕ) : Type 0 where
  pub ready : Ready c
  pub settled : Settled c care values v u
  pub goes : is_stop c u ≡ false
  pub within : bit_and values care ≡ values
  pub number : i ≡ argument c u

module _ (c : Chart) (care values v u i : ℕ) (new : New c care values v u i) where
  condition : kind c u ≡ 3
  condition = goes-on c u new.settled.entered.no_begin new.goes

  untested : bit_at care (argument c u) ≡ 1 → ⊥
  untested = grind (arith, common_steps, eqb-false, and-false)

  lacks-care : bit_at care i ≡ 0
  lacks-care = let n : bit_at care i ≡ 1 → ⊥ = λ q. untested (ap (bit_at care) (sym new.number) ∙ q) in omega arith

  lacks-values : bit_at values i ≡ 0
  lacks-values = within-lacks i values care new.within (λ q. untested (ap (bit_at care) (sym new.number) ∙ q))

  module _ (tested valued : ℕ) (et : tested ≡ bit_or care (2 ^ i)) (ev : valued ≡ bit_or values (2 ^ i)) where
    tested-is : tested ≡ care + 2 ^ i
    tested-is = et ∙ sym (add-is-or care i lacks-care)

    valued-is : valued ≡ values + 2 ^ i
    valued-is = ev ∙ sym (add-is-or values i lacks-values)

    fork-within0 : bit_and values tested ≡ values
    fork-within0 = ap (bit_and values) tested-is ∙ more-within-0 i values care (λ q. omega (arith, lacks-care)) new.within

    fork-within1 : bit_and valued tested ≡ valued
    fork-within1 = grind (arith, common_steps, nat_tests, more-within-1, lacks-care, tested-is, valued-is)

    module _ (w0 w1 : ℕ) (e0 : w0 ≡ next0 c u) (e1 : w1 ≡ next1 c u) where
      fork-paths : (l f : ℕ)
          → paths_from (size c) c l f care values v ≡ paths_from (size c) c l f tested values w0
          ++ paths_from (size c) c l f tested valued w1
      fork-paths l f =
          let t : care + 2 ^ argument c u ≡ tested = ap (λ (j : ℕ). care + 2 ^ j) (sym new.number) ∙ sym tested-is in
          let x : values + 2 ^ argument c u ≡ valued = ap (λ (j : ℕ). values + 2 ^ j) (sym new.number) ∙ sym valued-is in
          new.settled.same l f
          ∙ at-new c new.ready l f care values u new.settled.entered new.goes untested
          ∙ simp (t, x, e0, e1)

      pub fork : Fork c care values v tested valued w0 w1
      fork =
          let inside = new.settled.entered.inside in record {
            entered0 = subst (Entered c) (sym e0) (entered0 c new.ready u inside (λ q. omega (arith, condition)));
            entered1 = subst (Entered c) (sym e1) (entered1 c new.ready u inside (omega (arith, condition)));
            falls0 = omega (arith, ap (rank c) e0, new.settled.lower, rank-falls0 c (ready-sound new.ready) u inside condition);
            falls1 = omega (arith, ap (rank c) e1, new.settled.lower, rank-falls1 c (ready-sound new.ready) u inside condition);
            within0 = fork-within0;
            within1 = fork-within1;
            all = fork-paths;
          }

-- ---- a path by the notes: it ends at a node with number 16, and else goes on by both sides of a new condition
module _ {c : Chart} {notes : List ℕ} {care values v u : ℕ} (path : PathAt c notes care values v)
    (arrives : u ≡ settled_node (size c) c care values v) where
  ready : Ready c
  ready = path.noted.chart.ready

  arrived : Settled c care values v u
  arrived = is-settled c ready care values v u path.entered arrives

  pub arrived-inside : u < size c
  arrived-inside = arrived.entered.inside

  number : slice_index notes (256 + u) ≡ tested_number c u
  number = path.noted.numbers u arrived-inside

  pub paths-end : 15 < slice_index notes (256 + u) → (l f : ℕ) → paths_from (size c) c l f care values v ≡ path_row c l f care values u ∷ []
  paths-end high = stop-paths c ready care values v u arrived (high-stops c ready u _ arrived.entered number high)

  pub paths-fork : slice_index notes (256 + u) ≤ 15 → {tested valued w0 w1 : ℕ} → tested ≡ bit_or care (2 ^ slice_index notes (256 + u))
      → valued ≡ bit_or values (2 ^ slice_index notes (256 + u)) → w0 ≡ next0 c u → w1 ≡ next1 c u
      → Fork c care values v tested valued w0 w1
  paths-fork low {tested} {valued} {w0} {w1} et ev e0 e1 =
      let new : New c care values v u (slice_index notes (256 + u)) = record {
        ready = ready;
        settled = arrived;
        goes = low-goes c ready u _ arrived.entered number low;
        within = path.within;
        number = low-number c ready u _ arrived.entered number low;
      } in
      fork c care values v u _ new tested valued et ev w0 w1 e0 e1

module _ {c : Chart} {notes : List ℕ} {care values v : ℕ} (path : PathAt c notes care values v) {tested valued w0 w1 : ℕ}
    (k : Fork c care values v tested valued w0 w1) where
  pub side-0 : PathAt c notes tested values w0
  side-0 = record { noted = path.noted; entered = k.entered0; within = k.within0 }

  pub side-1 : PathAt c notes tested valued w1
  side-1 = record { noted = path.noted; entered = k.entered1; within = k.within1 }

-- ---- how many paths there are, counted up to a limit
module _ (c : Chart) (care values v most : ℕ) where
  abbrev P : ℕ → ℕ → ℕ → ℕ → ℕ → List Row
  P a b u l f = paths_from (size c) c l f a b u

  pub count-stop : (row : ℕ → ℕ → Row) → (most ≡ 0 → ⊥) → ((l f : ℕ) → P care values v l f ≡ row l f ∷ [])
      → (l f : ℕ) → 1 ≡ min most (length (P care values v l f))
  count-stop row n e l f = omega (arith, ap (λ (rs : List Row). length rs) (e l f))

  pub count-fork : (tested valued w0 w1 low high : ℕ) → Fork c care values v tested valued w0 w1
      → ((l f : ℕ) → low ≡ min most (length (P tested values w0 l f)))
      → ((l f : ℕ) → high ≡ min (most - low) (length (P tested valued w1 l f)))
      → (l f : ℕ) → low + high ≡ min most (length (P care values v l f))
  count-fork tested valued w0 w1 low high k a b l f = grind (arith, common_steps, length-append)
