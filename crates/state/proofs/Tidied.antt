-- The loop that writes each result byte as it is stored, 0 or 1.
use Rattle.std.proofs.Common.{ℕ, ◌+◌, ◌≤◌, ◌<◌, ◌≡◌, refl, sym, ap, ap₂, ◌∙◌, List, [], ◌∷◌, map, ◌++◌, take, drop, length, set, slice_index, arith}
use Rattle.std.proofs.lemmas.Grind.{common_steps, get_or_default_zero}
use Rattle.std.proofs.lemmas.List.Edits.{map_over_more}
use Rattle.std.proofs.Math.ListN.{length-map, length-append, length-take, length-drop}
use mir.Val.{bool_byte}
use Rattle.state.specs.declared.State.{State as Kept}
use Rattle.state.specs.Kept.{is_set, result_byte, view, stored}
use Rattle.state.proofs.Stored.{byte-is}

abbrev pub tidy : ℕ → ℕ
tidy r = bool_byte (is_set r)

maps : (rs : List ℕ) → map tidy rs ≡ map result_byte (map is_set rs)
maps [] = refl
maps (r ∷ rs) = ap₂ (λ (x : ℕ) (xs : List ℕ). x ∷ xs) (byte-is (is_set r)) (maps rs)

-- after k results
abbrev pub tidied : Kept → ℕ → Kept
tidied s k = record s { results = map tidy (take k s.results) ++ drop k s.results }

module _ (s now : Kept) (k : ℕ) (e : now ≡ tidied s k) where
  pub tidied-turn : k < length s.results → record now { results = set now.results k (tidy (slice_index now.results k)) } ≡ tidied s (k + 1)
  tidied-turn l =
      let passed : List ℕ = map tidy (take k s.results) ++ drop k s.results in
      let inside : k < length passed = omega (
        arith,
        length-append (map tidy (take k s.results)) (drop k s.results),
        length-map (take k s.results) tidy,
        length-take k s.results,
        length-drop k s.results,
      ) in
      ap (λ (n : Kept). record n { results = set n.results k (tidy (slice_index n.results k)) }) e
      ∙ ap (λ (r : List ℕ). record s { results = r }) (map_over_more tidy s.results passed k (slice_index passed k) l refl
      (sym (get_or_default_zero passed k (slice_index passed k) inside)))

  pub tidied-all : length s.results ≤ k → now ≡ stored (view s)
  tidied-all l = grind (arith, common_steps, maps)
