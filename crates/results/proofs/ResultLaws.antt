-- A result bit that is 0 stays 0 under every call, and under every result but a 1 written to it.
use Rattle.std.proofs.Common.{if◌then◌else◌, ℕ, zero, suc, ◌-◌, ◌≤◌, Bool, true, false, ◌≡◌, refl, ap, ◌∙◌, [], ◌∷◌, set, ◌==◌, slice_index_or}
use Rattle.std.proofs.Common.{get_or-set_other, arith, eqb-true}
use borrow.Author.Tests.{eqb-false}
use Rattle.results.specs.Results.{Results, result_of, with_result, cleared_results}

-- past the end every bit reads as 0
set-false : (b : Results) (k : ℕ) → slice_index_or (set b k false) k false ≡ false
set-false [] k = refl
set-false (x ∷ b) zero = refl
set-false (x ∷ b) (suc k) = set-false b k

-- the bit of the scheme called, and any other
pub cleared-own : (h : ℕ) (b : Results) → result_of h (cleared_results h b) ≡ false
cleared-own h b = set-false b (h - 1)

pub cleared-keeps : (g h : ℕ) (b : Results) → result_of h b ≡ false → result_of h (cleared_results g b) ≡ false
cleared-keeps g h b e = go (h - 1 == g - 1) refl
  where
    go : (t : Bool) → (h - 1 == g - 1) ≡ t → result_of h (cleared_results g b) ≡ false
    go true q = let i : h - 1 ≡ g - 1 = eqb-true (h - 1) (g - 1) q in
        ap (λ (k : ℕ). slice_index_or (set b (g - 1) false) k false) i ∙ set-false b (g - 1)
    go false q = get_or-set_other b (g - 1) (h - 1) false false (eqb-false (h - 1) (g - 1) q) ∙ e

pub result-keeps : (r g h : ℕ) (b : Results) → 2 ≤ h → (g ≡ h → r ≡ 2 → ⊥) → result_of h b ≡ false → result_of h (with_result r g b) ≡ false
result-keeps r g h b l other e = by_result (r == 0)
  where
    by-two : (t : Bool) → (r == 2) ≡ t → result_of h (set b (g - 1) t) ≡ false
    by-two false q = cleared-keeps g h b e
    by-two true q = get_or-set_other b (g - 1) (h - 1) true false (λ i. other (omega arith) (eqb-true r 2 q)) ∙ e

    by_result : (t : Bool) → result_of h (if t then b else set b (g - 1) (r == 2)) ≡ false
    by_result true = e
    by_result false = by-two (r == 2) refl
