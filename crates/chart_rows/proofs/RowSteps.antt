-- The steps of the functions that count and write the rows of labels, at plain values.
use Rattle.std.proofs.Common.{if◌then◌else◌, ◌≡◌, refl, sym, ◌∙◌, ap, ap₂, subst, Bool, true, false, List, [], ◌++◌, ℕ, zero, suc, ◌+◌, ◌-◌}
use Rattle.std.proofs.Common.{slice_index, flat_map, filter}
use Rattle.std.proofs.Common.{◌^◌, ◌≤◌, ◌<◌, min, zero-add, add-one, arith, bit_or, length, length-append}
use borrow.Author.Tests.{eqb-false}
use Rattle.std.proofs.lemmas.Grind.{common_steps}
use Rattle.words.specs.lists.Numbers.{range}
use Rattle.std.proofs.lemmas.Bool.{cond-true, cond-false}
use Rattle.words.proofs.lists.Tests.{and-r, not-true}
use Rattle.words.proofs.lists.Ranges.{filter-yes, filter-no}
use Rattle.words.proofs.lists.Joins.{concat-cons, concat-range-snoc}
use Rattle.words.proofs.bits.BitLaws.{add-is-or, bit-none}
use Rattle.text.specs.frames.Frame.{size}
use Rattle.charts.specs.Chart.{Chart, kind, argument, next0, next1}
use Rattle.image.specs.Image.{Row}
use Rattle.chart_rows.specs.Labels.{is_numbered, label}
use Rattle.chart_rows.specs.Rows.{rows_of, rows}
use Rattle.chart_rows.specs.inner.PathContracts.{NotedAt, Entered, SidesAt}
use Rattle.chart_rows.specs.inner.NodeRows.{paths_from, sides, node_rows}
use Rattle.chart_rows.proofs.chart_labels.ReadyLaws.{ready-facts}
use Rattle.chart_rows.proofs.chart_labels.LabelSteps.{own-label, no-own-label}
use Rattle.chart_rows.proofs.RowKinds.{function-rows, condition-rows, plain-rows}
use Rattle.chart_rows.proofs.PathSteps.{entered0, entered1}

-- ---- both arcs of a node
module _ {c : Chart} {notes : List ℕ} {care values v : ℕ} (s : SidesAt c notes care values v) where
  pub side-entered0 : {w : ℕ} → w ≡ next0 c v → Entered c w
  side-entered0 e = subst (Entered c) (sym e) (entered0 c s.noted.chart.ready v s.inside (λ q. omega (arith, s.two)))

  pub side-entered1 : {w : ℕ} → w ≡ next1 c v → Entered c w
  side-entered1 e = subst (Entered c) (sym e) (entered1 c s.noted.chart.ready v s.inside s.two)

pub count-sides : (c : Chart) (v care values most w0 w1 low high : ℕ) → w0 ≡ next0 c v → w1 ≡ next1 c v
    → ((l f : ℕ) → low ≡ min most (length (paths_from (size c) c l f care 0 w0)))
    → ((l f : ℕ) → high ≡ min (most - low) (length (paths_from (size c) c l f care values w1)))
    → (l f g : ℕ) → low + high ≡ min most (length (sides c l f g care values v))
count-sides c v care values most w0 w1 low high e0 e1 a b l f g =
    let p : paths_from (size c) c l f care 0 w0 ≡ paths_from (size c) c l f care 0 (next0 c v) = ap (paths_from (size c) c l f care 0) e0 in
    let q : paths_from (size c) c l g care values w1 ≡ paths_from (size c) c l g care values (next1 c v) =
    ap (paths_from (size c) c l g care values) e1 in
    omega (
      arith,
      a l f,
      b l g,
      ap (λ (rs : List Row). length rs) p,
      ap (λ (rs : List Row). length rs) q,
      length-append (paths_from (size c) c l f care 0 (next0 c v)) (paths_from (size c) c l g care values (next1 c v)),
    )

-- ---- the rows of one node: none without a label of its own, and with one by its kind
module _ {c : Chart} {notes : List ℕ} {v : ℕ} (node : NotedAt c notes v) where
  read : slice_index notes v ≡ label c v
  read = node.noted.chart.labelled.at v node.inside

  pub no-rows : slice_index notes v < 2 → node_rows c v ≡ []
  no-rows h = cond-false (is_numbered c v) (rows_of c v) [] (no-own-label c v (omega (arith, read)))

  module _ (own : 2 ≤ slice_index notes v) where
    own-number : is_numbered c v ≡ true
    own-number = own-label c v (omega (arith, read))

    own-rows : node_rows c v ≡ rows_of c v
    own-rows = cond-true (is_numbered c v) (rows_of c v) [] own-number

    pub other-entered : {w : ℕ} → w ≡ next0 c v → Entered c w
    other-entered e = grind (arith, common_steps, not-true, and-r, entered0, eqb-false, own-number)

    module _ {k : ℕ} (ek : k ≡ kind c v) where
      -- the kind after a condition's is a function's
      pub rows-function : 3 ≤ k → (k ≡ 3 → ⊥) → node_rows c v ≡ sides c (label c v) 0 1 0 0 v
      rows-function h n =
          own-rows ∙ function-rows c v (omega (arith, (ready-facts node.noted.chart.ready).kinds v node.inside))

      pub rows-condition : k ≡ 3 → {i mask : ℕ} → i ≡ argument c v → mask ≡ bit_or 0 (2 ^ i)
          → node_rows c v ≡ sides c (label c v) 2 2 mask mask v
      rows-condition e {i} {mask} ei m =
          let own-mask : mask ≡ 2 ^ argument c v =
          m ∙ sym (add-is-or 0 i (bit-none i)) ∙ zero-add (2 ^ i) ∙ ap (λ (j : ℕ). 2 ^ j) ei in
          own-rows ∙ condition-rows c v (sym ek ∙ e) ∙ ap (λ (x : ℕ). sides c (label c v) 2 2 x x v) (sym own-mask)

      pub rows-other : k < 3 → {w : ℕ} → w ≡ next0 c v → node_rows c v ≡ paths_from (size c) c (label c v) 2 0 0 w
      rows-other h e =
          own-rows ∙ plain-rows c v (λ q. omega arith) (λ q. omega arith) ∙ ap (paths_from (size c) c (label c v) 2 0 0) (sym e)

  pub count-nothing : slice_index notes v < 2 → (most : ℕ) → 0 ≡ min most (length (node_rows c v))
  count-nothing h most = omega (arith, ap (λ (rs : List Row). length rs) (no-rows h))

  pub count-rows : {rs : List Row} → node_rows c v ≡ rs → (most : ℕ) {r : ℕ} → r ≡ min most (length rs)
      → r ≡ min most (length (node_rows c v))
  count-rows e most q = q ∙ ap (λ (x : List Row). min most (length x)) (sym e)

-- ---- the rows of the nodes below v
abbrev pub rows_below : Chart → ℕ → List Row
rows_below c v = flat_map (node_rows c) (range 0 v)

pub below-more : (c : Chart) (v : ℕ) → rows_below c (v + 1) ≡ rows_below c v ++ node_rows c v
below-more c v = ap (rows_below c) (add-one v) ∙ concat-range-snoc (node_rows c) 0 v
    ∙ ap (λ (k : ℕ). rows_below c v ++ node_rows c k) (zero-add v)

-- the nodes without a label add nothing
picked : {A : Type 0} (p : ℕ → Bool) (f : ℕ → List A) (i n : ℕ)
    → flat_map (λ v. if p v then f v else []) (range i n) ≡ flat_map f (filter p (range i n))
picked p f i zero = refl
picked {A} p f i (suc n) = go (p i) refl (picked p f (suc i) n)
  where
    go : (b : Bool) → p i ≡ b → flat_map (λ v. if p v then f v else []) (range (suc i) n) ≡ flat_map f (filter p (range (suc i) n))
        → flat_map (λ v. if p v then f v else []) (range i (suc n)) ≡ flat_map f (filter p (range i (suc n)))
    go true e ih =
        concat-cons (λ v. if p v then f v else []) i (range (suc i) n) ∙ ap₂ (λ (x y : List A). x ++ y) (cond-true (p i) (f i) [] e) ih
        ∙ sym (ap (flat_map f) (filter-yes p i (range (suc i) n) e) ∙ concat-cons f i (filter p (range (suc i) n)))
    go false e ih =
        concat-cons (λ v. if p v then f v else []) i (range (suc i) n) ∙ ap₂ (λ (x y : List A). x ++ y) (cond-false (p i) (f i) [] e) ih
        ∙ sym (ap (flat_map f) (filter-no p i (range (suc i) n) e))

pub below-all : (c : Chart) (v : ℕ) → v ≡ size c → rows_below c v ≡ rows c
unfolding rows
below-all c v e = ap (rows_below c) e ∙ picked (is_numbered c) (rows_of c) 0 (size c)

pub record CountingRows (c : Chart) (most total v : ℕ) : Type 0 where
  pub within : v ≤ size c
  pub limited : total ≤ most
  pub counted : total ≡ min most (length (rows_below c v))

pub counting-start : {c : Chart} {most : ℕ} → CountingRows c most 0 0
counting-start = record { within = omega arith; limited = omega arith; counted = omega arith }

module _ {c : Chart} {most total v : ℕ} (t : CountingRows c most total v) where
  pub counting-on : v < size c → {more : ℕ} → more ≡ min (most - total) (length (node_rows c v))
      → CountingRows c most (total + more) (v + 1)
  counting-on l e = record {
    within = omega arith;
    limited = omega (arith, t.limited);
    counted = omega (arith, t.counted, ap (λ (rs : List Row). length rs) (below-more c v) ∙ length-append (rows_below c v) (node_rows c v));
  }

  pub counting-done : size c ≤ v → total ≡ min most (length (rows c))
  counting-done h = t.counted ∙ ap (λ (rs : List Row). min most (length rs)) (below-all c v (omega (arith, t.within)))

pub ruleset row_counting = (counting-start, counting-on, counting-done)
