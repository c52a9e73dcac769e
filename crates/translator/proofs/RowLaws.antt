-- For each numbered stop of a sound chart, every word and every bit just one row matches, and it leads to the label of the stop where the
-- walk goes.
use Rattle.std.proofs.Common.{if◌then◌else◌, ◌≡◌, refl, sym, ◌∙◌, ap, subst, ◌⊎◌, inl, inr, Bool, true, false, ◌&&◌, ◌||◌, not, List, []}
use Rattle.std.proofs.Common.{◌==◌, slice_index_or, filter}
use Rattle.std.proofs.Common.{◌∷◌, ◌++◌, ℕ, ◌+◌, ◌^◌, ◌≤◌, ◌<◌, zero-add, arith, length, eqb-true, eq-eqb, ne_eqb}
use Rattle.std.proofs.Math.ListN.{length-map}
use borrow.Author.Tests.{eqb-false}
use Rattle.std.proofs.lemmas.Grind.{common_steps}
use Rattle.words.specs.lists.Numbers.{range}
use Rattle.std.proofs.lemmas.Bool.{cond-true, cond-false}
use Rattle.words.proofs.lists.Tests.{and-l, and-r, not-true}
use Rattle.words.proofs.lists.Filters.{concat-only, one-passes}
use Rattle.std.specs.Int.{bit_at}
use Rattle.words.specs.bits.Word.{is_agreeing}
use Rattle.words.proofs.bits.BitLaws.{bit-none, bit-cases, Mask, Agree, Clash, mask-none, agree-none, mask-0, mask-1, agree-0, agree-1}
use Rattle.words.proofs.bits.BitLaws.{clash-here-0, clash-here-1}
use Rattle.text.specs.frames.Frame.{size}
use Rattle.charts.specs.Chart.{Chart, kind, scheme, argument, next0, next1, is}
use Rattle.charts.proofs.Accepted.{SoundChart}
use Rattle.charts.proofs.Nodes.{Target, conditions, arc0, arc1}
use Rattle.charts.proofs.Rank.{rank-le}
use Rattle.walk.specs.Stops.{is_stop, by_arc, by_word}
use Rattle.walk.proofs.Follow.{stops-other, stops-condition, stops-begin, follow-condition, takes-0, takes-1}
use Rattle.image.specs.Image.{Row, no_row}
use Rattle.chart_rows.specs.Labels.{is_numbered, label}
use Rattle.chart_rows.specs.Rows.{rows_of, rows}
use Rattle.chart_rows.proofs.RowKinds.{function-rows, condition-rows, plain-rows}
use Rattle.chart_rows.specs.inner.NodeRows.{paths_from}
use Rattle.translator.proofs.label_text.LabelPuts.{numbered-stop}
use Rattle.translator.proofs.LabelLaws.{labels-apart}
use Rattle.translator.proofs.Matching.{is_matching_row, targets, targets-concat, in-first, in-second, paths-none, paths-miss, paths-hit}
use Rattle.std.proofs.lemmas.Bool.Decides.{nat_tests}

-- rows of another node's label match nothing
rows-other : (c : Chart) (u m w b : ℕ) → (label c u ≡ m → ⊥) → targets m w b (rows_of c u) ≡ []
rows-other c u m w b ne =
    grind (arith, common_steps, nat_tests, paths-none, ne_eqb, condition-rows, plain-rows, in-second, targets, function-rows)

-- so among all rows those of the node itself decide
pub rows-here : (c : Chart) (v w b : ℕ) → v < size c → is_numbered c v ≡ true
    → targets (label c v) w b (rows c) ≡ targets (label c v) w b (rows_of c v)
unfolding rows
rows-here c v w b l e =
    targets-concat (label c v) w b (rows_of c) (filter (is_numbered c) (range 0 (size c)))
    ∙ concat-only (λ u. targets (label c v) w b (rows_of c u)) (is_numbered c) v 0 (size c) (omega arith) (omega arith) e
    (λ u x y n ne. rows-other c u (label c v) w b (λ q. ne (labels-apart c u v n e q)))

module _ (c : Chart) (a : SoundChart c) where
  -- all paths from an arc's end, with nothing tested yet
  from-arc : (l w f b : ℕ) → (f == 2 || f == b) ≡ true → (h u : ℕ) → Target c h u
      → targets l w b (paths_from (size c) c l f 0 0 u) ≡ label c (by_arc c w u) ∷ []
  from-arc l w f b suits h u t = paths-hit c a l w f b suits (size c) h 0 0 u t (rank-le c u) mask-none (agree-none w)

  -- a stop with one arc: an operation or a Begin
  row-straight : (v w b : ℕ) → v < size c → is_numbered c v ≡ true → (kind c v ≡ 4 → ⊥) → (kind c v ≡ 3 → ⊥)
      → targets (label c v) w b (rows c) ≡ label c (by_arc c w (next0 c v)) ∷ []
  row-straight v w b l e n k =
      rows-here c v w b l e ∙ ap (targets (label c v) w b) (plain-rows c v n k)
      ∙ from-arc (label c v) w 2 b refl (scheme c v) (next0 c v)
      (arc0 c a v l (eqb-false (kind c v) 1 (not-true (is c 1 v) (and-r (is_stop c v) (not (is c 1 v)) e))))

  pub row-plain : (v w b : ℕ) → v < size c → kind c v ≡ 2 → targets (label c v) w b (rows c) ≡ label c (by_arc c w (next0 c v)) ∷ []
  row-plain v w b l k = grind (arith, common_steps, numbered-stop, stops-other, row-straight)

  -- the node after a stopping Begin is a condition that is no stop
  pub row-begin : (v w b : ℕ) → v < size c → kind c v ≡ 0 → is_stop c v ≡ true
      → targets (label c v) w b (rows c) ≡ label c (by_word c w (next0 c v)) ∷ []
  row-begin v w b l k s =
      let t : Target c (scheme c v) (next0 c v) = arc0 c a v l (λ e. omega arith) in
      let x : (not (scheme c v == 1) && is c 3 (next0 c v)) ≡ true = sym (stops-begin c v k) ∙ s in
      let one : (scheme c v == 1) ≡ false = not-true (scheme c v == 1) (and-l (not (scheme c v == 1)) (is c 3 (next0 c v)) x) in
      let k₃ : kind c (next0 c v) ≡ 3 = eqb-true (kind c (next0 c v)) 3 (and-r (not (scheme c v == 1)) (is c 3 (next0 c v)) x) in
      let one' : (scheme c (next0 c v) == 1) ≡ false = ap (λ (h : ℕ). h == 1) t.same ∙ one in
      let on : is_stop c (next0 c v) ≡ false = stops-condition c (next0 c v) k₃ ∙ rw one' in
      row-straight v w b l (numbered-stop c v (λ e. omega arith) ∙ s) (λ e. omega arith) (λ e. omega arith)
      ∙ ap (λ (u : ℕ). label c u ∷ []) (follow-condition c a (next0 c v) w t.inside k₃ on)

  pub row-condition : (v w b : ℕ) → v < size c → kind c v ≡ 3 → is_stop c v ≡ true
      → targets (label c v) w b (rows c) ≡ label c (by_word c w v) ∷ []
  row-condition v w b l k s =
      rows-here c v w b l (numbered-stop c v (λ e. omega arith) ∙ s) ∙ ap (targets (label c v) w b) (condition-rows c v k)
      ∙ go (bit-cases w (argument c v))
    where
      two : 0 + 2 ^ argument c v ≡ 2 ^ argument c v
      two = zero-add (2 ^ argument c v)

      t₀ : Target c (scheme c v) (next0 c v)
      t₀ = arc0 c a v l (λ e. omega arith)

      t₁ : Target c (scheme c v) (next1 c v)
      t₁ = arc1 c a v l (omega arith)

      small : argument c v ≤ 15
      small = conditions c a v l k

      free : bit_at 0 (argument c v) ≡ 0
      free = bit-none (argument c v)

      mask₀ : Mask (2 ^ argument c v) 0
      mask₀ = subst (λ (x : ℕ). Mask x 0) two (mask-0 0 0 (argument c v) free mask-none small)

      mask₁ : Mask (2 ^ argument c v) (2 ^ argument c v)
      mask₁ = subst (λ (x : ℕ). Mask x x) two (mask-1 0 0 (argument c v) free mask-none small)

      go : (bit_at w (argument c v) ≡ 0) ⊎ (bit_at w (argument c v) ≡ 1)
          → targets (label c v) w b (paths_from (size c) c (label c v) 2 (2 ^ argument c v) 0 (next0 c v)
          ++ paths_from (size c) c (label c v) 2 (2 ^ argument c v) (2 ^ argument c v) (next1 c v))
          ≡ label c (by_word c w v) ∷ []
      go (inl z) =
          in-first (label c v) w b _ _ _
          (paths-hit c a (label c v) w 2 b refl (size c) (scheme c v) _ _ (next0 c v) t₀ (rank-le c (next0 c v)) mask₀
          (subst (λ (x : ℕ). Agree w x 0) two (agree-0 0 0 (argument c v) free mask-none w (agree-none w) z)))
          (paths-miss c a (label c v) w 2 b (size c) (scheme c v) _ _ (next1 c v) t₁ mask₁
          (subst (λ (x : ℕ). Clash w x x) two (clash-here-1 0 0 (argument c v) free mask-none w z)))
          ∙ ap (λ (u : ℕ). label c (by_arc c w u) ∷ []) (sym (takes-0 c w v z))
      go (inr o) =
          in-second (label c v) w b _ _ _
          (paths-miss c a (label c v) w 2 b (size c) (scheme c v) _ _ (next0 c v) t₀ mask₀
          (subst (λ (x : ℕ). Clash w x 0) two (clash-here-0 0 0 (argument c v) free mask-none w o)))
          (paths-hit c a (label c v) w 2 b refl (size c) (scheme c v) _ _ (next1 c v) t₁ (rank-le c (next1 c v)) mask₁
          (subst (λ (x : ℕ). Agree w x x) two (agree-1 0 0 (argument c v) free mask-none w (agree-none w) o)))
          ∙ ap (λ (u : ℕ). label c (by_arc c w u) ∷ []) (sym (takes-1 c w v o))

  -- the rows of the other bit match nothing
  pub row-function : (v w : ℕ) (b : Bool) → v < size c → kind c v ≡ 4
      → targets (label c v) w (if b then 1 else 0) (rows c) ≡ label c (by_arc c w (if b then next1 c v else next0 c v)) ∷ []
  row-function v w b l k =
      rows-here c v w (if b then 1 else 0) l (numbered-stop c v (λ e. omega arith) ∙ stops-other c v (λ e. omega arith) (λ e. omega arith))
      ∙ ap (targets (label c v) w (if b then 1 else 0)) (function-rows c v k) ∙ go b
    where
      none : (x y : Bool) → (x && (y && false)) ≡ false
      none true true = refl
      none true false = refl
      none false y = refl

      off : (f x : ℕ) → (f == 2 || f == x) ≡ false → (r : Row) → r.from ≡ label c v → r.bit ≡ f
          → is_matching_row (label c v) w x r ≡ false
      off f x q r e g =
          ap (λ (y : Bool). r.from == label c v && (is_agreeing w r.care r.values && y)) (ap (λ (y : ℕ). y == 2 || y == x) g ∙ q)
          ∙ none (r.from == label c v) (is_agreeing w r.care r.values)

      go : (b : Bool) → targets (label c v) w (if b then 1 else 0)
          (paths_from (size c) c (label c v) 0 0 0 (next0 c v) ++ paths_from (size c) c (label c v) 1 0 0 (next1 c v))
          ≡ label c (by_arc c w (if b then next1 c v else next0 c v)) ∷ []
      go false =
          in-first (label c v) w 0 _ _ _
          (from-arc (label c v) w 0 0 refl (scheme c v) (next0 c v) (arc0 c a v l (λ e. omega arith)))
          (paths-none (size c) c (label c v) (label c v) w 1 0 (off 1 0 refl) 0 0 (next1 c v))
      go true =
          in-second (label c v) w 1 _ _ _
          (paths-none (size c) c (label c v) (label c v) w 0 1 (off 0 1 refl) 0 0 (next0 c v))
          (from-arc (label c v) w 1 1 refl (scheme c v) (next1 c v) (arc1 c a v l (omega arith)))

-- ---- all kinds at once
-- the stop where the walk goes from the numbered stop v, by a word and, from a function, by the bit of the scheme called
unfoldable pub onward_stop : Chart → ℕ → Bool → ℕ → ℕ
onward_stop c w b v =
    if is c 4 v then by_arc c w (if b then next1 c v else next0 c v) else if is c 3 v then by_word c w v else by_arc c w (next0 c v)

module _ (c : Chart) (a : SoundChart c) (v w : ℕ) (b : Bool) (l : v < size c) (e : is_numbered c v ≡ true) where
  -- just one row matches, and this is where it leads
  pub one-row : targets (label c v) w (if b then 1 else 0) (rows c) ≡ label c (onward_stop c w b v) ∷ []
  unfolding onward_stop
  one-row = grind (arith, common_steps, ne_eqb, cond-true, targets, and-l, cond-false, eq-eqb, row-straight, row-condition, row-function)

  -- so two rows that match are the same row
  pub same-row : (i j : ℕ) → i < length (rows c) → j < length (rows c)
      → is_matching_row (label c v) w (if b then 1 else 0) (slice_index_or (rows c) i no_row) ≡ true
      → is_matching_row (label c v) w (if b then 1 else 0) (slice_index_or (rows c) j no_row) ≡ true → i ≡ j
  unfolding targets
  same-row = one-passes (is_matching_row (label c v) w (if b then 1 else 0)) no_row (rows c)
      (omega (
        arith,
        sym (length-map (filter (is_matching_row (label c v) w (if b then 1 else 0)) (rows c)) (λ (r : Row). r.next))
            ∙ ap (λ (us : List ℕ). length us) one-row,
      ))
