-- Loops that write: one value after the other, or one piece after the other, from a place of a buffer on.
use Rattle.std.proofs.Common.{◌≡◌, refl, sym, ◌∙◌, ap, List, map, ℕ, ◌+◌, ◌*◌, ◌≤◌, ◌<◌, add-one, arith, length, set, slice_index, flat_map}
use Rattle.std.proofs.Common.{length-set}
use Rattle.std.proofs.lemmas.Grind.{common_steps}
use Rattle.words.specs.lists.Numbers.{range}
use Rattle.words.specs.lists.Sequences.{written}
use Rattle.words.proofs.lists.Joins.{concat-range-snoc, length-concat-range}
use Rattle.words.proofs.lists.Ranges.{map-range-snoc, length-map-range, map-places}
use Rattle.words.proofs.lists.Written.{written-none, written-snoc, written-more}

-- the values of f at 0 to k - 1, of n in all, stand from `at` on
pub record ValuesFrom (f : ℕ → ℕ) (out₀ out : List ℕ) (at n k : ℕ) : Type 0 where
  pub low : k ≤ n
  pub size : length out ≡ length out₀
  pub buffer : out ≡ written out₀ at (map f (range 0 k))

module _ (f : ℕ → ℕ) (out₀ : List ℕ) (at n : ℕ) where
  pub values-none : ValuesFrom f out₀ out₀ at n 0
  values-none = record { low = omega arith; size = refl; buffer = sym (written-none out₀ at) }

  pub values-turn : (out : List ℕ) (k v : ℕ) → at + n ≤ length out₀ → ValuesFrom f out₀ out at n k → k < n
      → v ≡ f k → ValuesFrom f out₀ (set out (at + k) v) at n (k + 1)
  values-turn out k v room w h e = grind (arith, common_steps, length-map-range, length-set, map-range-snoc, written-snoc, add-one)

  pub values-all : (out : List ℕ) (k : ℕ) → ValuesFrom f out₀ out at n k → n ≤ k → out ≡ written out₀ at (map f (range 0 n))
  values-all out k w h = let e : k ≡ n = omega arith in w.buffer ∙ ap (λ (j : ℕ). written out₀ at (map f (range 0 j))) e

-- the pieces f 0 to f (k - 1), of n in all and each of m elements, stand from `at` on
pub record Pieces (f : ℕ → List ℕ) (m : ℕ) (out₀ out : List ℕ) (at n k : ℕ) : Type 0 where
  pub low : k ≤ n
  pub size : length out ≡ length out₀
  pub buffer : out ≡ written out₀ at (flat_map f (range 0 k))

module _ (f : ℕ → List ℕ) (m : ℕ) (out₀ : List ℕ) (at n : ℕ) where
  pub pieces-none : Pieces f m out₀ out₀ at n 0
  pieces-none = record { low = omega arith; size = refl; buffer = sym (written-none out₀ at) }

  pub pieces-turn : ((k : ℕ) → length (f k) ≡ m) → (out out' : List ℕ) (k place : ℕ) → Pieces f m out₀ out at n k
      → k < n → place ≡ at + m * k → place ≤ length out₀
      → length out' ≡ length out → out' ≡ written out place (f k) → Pieces f m out₀ out' at n (k + 1)
  pieces-turn each out out' k place w h p room s e = grind (arith, common_steps, written-more, concat-range-snoc, add-one, length-concat-range)

  pub pieces-all : (out : List ℕ) (k : ℕ) → Pieces f m out₀ out at n k → n ≤ k → out ≡ written out₀ at (flat_map f (range 0 n))
  pieces-all out k w h = let e : k ≡ n = omega arith in w.buffer ∙ ap (λ (j : ℕ). written out₀ at (flat_map f (range 0 j))) e

-- the values are those of a list
pub values-list : (xs out₀ out : List ℕ) (at k : ℕ) → ValuesFrom (λ i. slice_index xs i) out₀ out at (length xs) k
    → length xs ≤ k → out ≡ written out₀ at xs
values-list xs out₀ out at k w h =
    values-all (λ i. slice_index xs i) out₀ at (length xs) out k w h
    ∙ ap (written out₀ at) (map-places (λ i. slice_index xs i) 0 xs 0 (λ i l. ap (λ (j : ℕ). slice_index xs j) (omega arith)))
