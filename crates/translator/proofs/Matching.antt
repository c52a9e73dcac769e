-- Which rows of a label match a word and a bit: of the paths from a node just one does, and it ends where the word leads.
use Rattle.std.proofs.Common.{if◌then◌else◌, ◌≡◌, refl, sym, ◌∙◌, ap, ap₂, ◌⊎◌, inl, inr, Bool, true, false, ◌&&◌, ◌||◌, List, [], ◌∷◌}
use Rattle.std.proofs.Common.{◌==◌, flat_map, filter}
use Rattle.std.proofs.Common.{◌++◌, map, ℕ, zero, suc, ◌+◌, ◌^◌, ◌≤◌, arith, bit_and, eq-eqb, ne_eqb}
use Rattle.std.proofs.lemmas.Grind.{common_steps}
use Rattle.words.proofs.lists.Tests.{and-true, cases}
use Rattle.words.proofs.lists.Ranges.{filter-yes, filter-no, map-append}
use Rattle.words.proofs.lists.Joins.{concat-cons}
use Rattle.words.proofs.lists.Filters.{filter-none, filter-append}
use Rattle.std.specs.Int.{bit_at}
use Rattle.words.specs.bits.Word.{is_agreeing}
use Rattle.words.proofs.bits.BitLaws.{bit-cases, Mask, Agree, Clash, agree-match, clash-match, mask-0, mask-1, agree-0, agree-1, clash-0}
use Rattle.words.proofs.bits.BitLaws.{clash-1, clash-here-0, clash-here-1}
use Rattle.charts.specs.Chart.{Chart, kind, argument, next0, next1, arc_taken}
use Rattle.charts.proofs.Accepted.{SoundChart}
use Rattle.charts.proofs.Nodes.{Target, conditions}
use Rattle.charts.proofs.Rank.{rank, rank-some}
use Rattle.walk.specs.Stops.{is_stop, next_stop}
use Rattle.walk.proofs.Follow.{goes-on, follow-stays, follow-goes, takes-0, takes-1, condition-arc0, condition-arc1, taken-end, taken-falls}
use Rattle.image.specs.Image.{Row}
use Rattle.chart_rows.specs.Labels.{label}
use Rattle.chart_rows.specs.Rows.{paths}
use Rattle.chart_rows.specs.inner.NodeRows.{paths_from}
use Rattle.chart_rows.proofs.PathSteps.{path_row, paths-stop, paths-known, paths-new}
use Rattle.std.proofs.lemmas.Bool.Decides.{nat_tests}

-- a row of label l that matches word w and bit b
abbrev pub is_matching_row : ℕ → ℕ → ℕ → Row → Bool
is_matching_row l w b r = r.from == l && (is_agreeing w r.care r.values && (r.bit == 2 || r.bit == b))

-- where the rows lead that match, in their order
unfoldable pub targets : ℕ → ℕ → ℕ → List Row → List ℕ
targets l w b rs = map (λ (r : Row). r.next) (filter (is_matching_row l w b) rs)

module _ (l w b : ℕ) where
  pub targets-none : targets l w b [] ≡ []
  unfolding targets
  targets-none = ap (map (λ (r : Row). r.next)) (filter-none (is_matching_row l w b))

  pub targets-append : (xs ys : List Row) → targets l w b (xs ++ ys) ≡ targets l w b xs ++ targets l w b ys
  unfolding targets
  targets-append xs ys = grind (arith, common_steps, filter-append, map-append)

  pub targets-concat : {A : Type 0} (f : A → List Row) (xs : List A)
      → targets l w b (flat_map f xs) ≡ flat_map (λ x. targets l w b (f x)) xs
  targets-concat f [] = grind (arith, common_steps, nat_tests, targets-none)
  targets-concat f (x ∷ xs) = grind (arith, common_steps, nat_tests, targets-concat f xs, concat-cons, targets-append)

  -- of two lists just one has a match
  pub in-first : (xs ys : List Row) (u : ℕ) → targets l w b xs ≡ u ∷ [] → targets l w b ys ≡ [] → targets l w b (xs ++ ys) ≡ u ∷ []
  in-first xs ys u p q = targets-append xs ys ∙ ap₂ ◌++◌ p q

  pub in-second : (xs ys : List Row) (us : List ℕ) → targets l w b xs ≡ [] → targets l w b ys ≡ us → targets l w b (xs ++ ys) ≡ us
  in-second xs ys us p q = targets-append xs ys ∙ ap₂ ◌++◌ p q

  -- a row in front
  pub targets-own : (r : Row) (rs : List Row) → is_matching_row l w b r ≡ true → targets l w b (r ∷ rs) ≡ r.next ∷ targets l w b rs
  unfolding targets
  targets-own r rs e = ap (map (λ (r : Row). r.next)) (filter-yes (is_matching_row l w b) r rs e)

  pub targets-other : (r : Row) (rs : List Row) → is_matching_row l w b r ≡ false → targets l w b (r ∷ rs) ≡ targets l w b rs
  unfolding targets
  targets-other r rs e = ap (map (λ (r : Row). r.next)) (filter-no (is_matching_row l w b) r rs e)

  one-yes : (r : Row) → is_matching_row l w b r ≡ true → targets l w b (r ∷ []) ≡ r.next ∷ []
  one-yes r e = targets-own r [] e ∙ ap (λ us. r.next ∷ us) targets-none

  one-no : (r : Row) → is_matching_row l w b r ≡ false → targets l w b (r ∷ []) ≡ []
  one-no r e = targets-other r [] e ∙ targets-none

-- rows of another label, or for the other bit of a function
pub paths-none : (n : ℕ) (c : Chart) (l m w f b : ℕ) → ((r : Row) → r.from ≡ l → r.bit ≡ f → is_matching_row m w b r ≡ false)
    → (care values v : ℕ) → targets m w b (paths_from n c l f care values v) ≡ []
paths-none zero c l m w f b q care values v = unfold paths in targets-none m w b
paths-none (suc n) c l m w f b q care values v = go (cases (is_stop c v)) (bit-cases care (argument c v)) (paths-none n c l m w f b q)
  where
    go : (is_stop c v ≡ true) ⊎ (is_stop c v ≡ false) → (bit_at care (argument c v) ≡ 0) ⊎ (bit_at care (argument c v) ≡ 1)
        → ((care values v : ℕ) → targets m w b (paths_from n c l f care values v) ≡ [])
        → targets m w b (paths_from (suc n) c l f care values v) ≡ []
    go (inl s) x ih =
        ap (targets m w b) (paths-stop n c l f care values v s)
        ∙ one-no m w b (path_row c l f care values v) (q (path_row c l f care values v) refl refl)
    go (inr s) (inr k) ih = ap (targets m w b) (paths-known n c l f care values v s k) ∙ ih care values (arc_taken c values v)
    go (inr s) (inl k) ih =
        let i : ℕ = argument c v in
        ap (targets m w b) (paths-new n c l f care values v s (λ q. omega (arith, k, q)))
        ∙ in-second m w b _ _ [] (ih (care + 2 ^ i) values (next0 c v)) (ih (care + 2 ^ i) (values + 2 ^ i) (next1 c v))

module _ (c : Chart) (a : SoundChart c) (l w f b : ℕ) where
  -- a word that has not the values of the path so far matches none of its rows
  pub paths-miss : (n h care values v : ℕ) → Target c h v → Mask care values → Clash w care values
      → targets l w b (paths_from n c l f care values v) ≡ []
  paths-miss zero h care values v t m k = unfold paths in targets-none l w b
  paths-miss (suc n) h care values v t m k = go (cases (is_stop c v)) (bit-cases care (argument c v)) (paths-miss n h)
    where
      go : (is_stop c v ≡ true) ⊎ (is_stop c v ≡ false) → (bit_at care (argument c v) ≡ 0) ⊎ (bit_at care (argument c v) ≡ 1)
          → ((care values v : ℕ) → Target c h v → Mask care values → Clash w care values
          → targets l w b (paths_from n c l f care values v) ≡ [])
          → targets l w b (paths_from (suc n) c l f care values v) ≡ []
      go (inl s) x ih =
          let q : (bit_and w care == values) ≡ false = ne_eqb (bit_and w care) values (clash-match w care values k) in
          ap (targets l w b) (paths-stop n c l f care values v s) ∙ one-no l w b (path_row c l f care values v) (rw (eq-eqb l l refl, q))
      go (inr s) (inr o) ih =
          ap (targets l w b) (paths-known n c l f care values v s o)
          ∙ ih care values (arc_taken c values v) (taken-end c a h values v t (goes-on c v t.entered s)) m k
      go (inr s) (inl z) ih =
          let i : ℕ = argument c v in
          let e : kind c v ≡ 3 = goes-on c v t.entered s in
          let small : i ≤ 15 = conditions c a v t.inside e in
          ap (targets l w b) (paths-new n c l f care values v s (λ q. omega (arith, z, q)))
          ∙ in-second l w b _ _ []
          (ih _ _ (next0 c v) (condition-arc0 c a h v t e) (mask-0 care values i z m small) (clash-0 care values i z m w k))
          (ih _ _ (next1 c v) (condition-arc1 c a h v t e) (mask-1 care values i z m small) (clash-1 care values i z m w k))

  -- a word that has them matches one row: that of the stop which following the arcs reaches
  pub paths-hit : (f == 2 || f == b) ≡ true → (n h care values v : ℕ) → Target c h v
      → rank c v ≤ n → Mask care values → Agree w care values
      → targets l w b (paths_from n c l f care values v) ≡ label c (next_stop n c w v) ∷ []
  paths-hit suits zero h care values v t r m g = absurd (omega (arith, rank-some c v t.inside))
  paths-hit suits (suc n) h care values v t r m g =
      go (cases (is_stop c v)) (bit-cases care (argument c v)) (bit-cases w (argument c v)) (paths-hit suits n h)
    where
      on : is_stop c v ≡ false → (u : ℕ) → arc_taken c w v ≡ u → label c (next_stop n c w u) ∷ [] ≡ label c (next_stop (suc n) c w v) ∷ []
      on s u q = ap (λ (x : ℕ). label c x ∷ []) (ap (next_stop n c w) (sym q) ∙ sym (follow-goes n c w v s))

      lower : kind c v ≡ 3 → (u : ℕ) → arc_taken c w v ≡ u → rank c u ≤ n
      lower e u q = omega (arith, ap (rank c) q, taken-falls c a w v t.inside e)

      go : (is_stop c v ≡ true) ⊎ (is_stop c v ≡ false) → (bit_at care (argument c v) ≡ 0) ⊎ (bit_at care (argument c v) ≡ 1)
          → (bit_at w (argument c v) ≡ 0) ⊎ (bit_at w (argument c v) ≡ 1)
          → ((care values v : ℕ) → Target c h v → rank c v ≤ n → Mask care values → Agree w care values
          → targets l w b (paths_from n c l f care values v) ≡ label c (next_stop n c w v) ∷ [])
          → targets l w b (paths_from (suc n) c l f care values v) ≡ label c (next_stop (suc n) c w v) ∷ []
      go (inl s) x y ih =
          let z : is_matching_row l w b (path_row c l f care values v) ≡ true =
          and-true (l == l) (is_agreeing w care values && (f == 2 || f == b)) (eq-eqb l l refl)
          (and-true (is_agreeing w care values) (f == 2 || f == b) (eq-eqb (bit_and w care) values
          (agree-match w care values m g)) suits) in
          ap (targets l w b) (paths-stop n c l f care values v s) ∙ one-yes l w b (path_row c l f care values v) z
          ∙ ap (λ (u : ℕ). label c u ∷ []) (sym (follow-stays n c w v s))
      go (inr s) (inr o) y ih =
          let e : kind c v ≡ 3 = goes-on c v t.entered s in
          let q : arc_taken c w v ≡ arc_taken c values v =
          ap (λ (x : ℕ). if x == 0 then next0 c v else next1 c v) (g.agrees (argument c v) o) in
          ap (targets l w b) (paths-known n c l f care values v s o)
          ∙ ih care values (arc_taken c values v) (taken-end c a h values v t e) (lower e (arc_taken c values v) q) m g
          ∙ on s (arc_taken c values v) q
      go (inr s) (inl z) (inl w0) ih =
          let i : ℕ = argument c v in
          let e : kind c v ≡ 3 = goes-on c v t.entered s in
          let small : i ≤ 15 = conditions c a v t.inside e in
          let q : arc_taken c w v ≡ next0 c v = takes-0 c w v w0 in
          ap (targets l w b) (paths-new n c l f care values v s (λ q. omega (arith, z, q)))
          ∙ in-first l w b _ _ _
          (ih _ _ (next0 c v) (condition-arc0 c a h v t e) (lower e (next0 c v) q) (mask-0 care values i z m small)
          (agree-0 care values i z m w g w0))
          (paths-miss n h _ _ (next1 c v) (condition-arc1 c a h v t e) (mask-1 care values i z m small)
          (clash-here-1 care values i z m w w0))
          ∙ on s (next0 c v) q
      go (inr s) (inl z) (inr w1) ih =
          let i : ℕ = argument c v in
          let e : kind c v ≡ 3 = goes-on c v t.entered s in
          let small : i ≤ 15 = conditions c a v t.inside e in
          let q : arc_taken c w v ≡ next1 c v = takes-1 c w v w1 in
          ap (targets l w b) (paths-new n c l f care values v s (λ q. omega (arith, z, q)))
          ∙ in-second l w b _ _ _
          (paths-miss n h _ _ (next0 c v) (condition-arc0 c a h v t e) (mask-0 care values i z m small)
          (clash-here-0 care values i z m w w1))
          (ih _ _ (next1 c v) (condition-arc1 c a h v t e) (lower e (next1 c v) q) (mask-1 care values i z m small)
          (agree-1 care values i z m w g w1))
          ∙ on s (next1 c v) q
