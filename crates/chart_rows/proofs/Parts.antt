-- A buffer that was written from a place on, place by place.
use Rattle.std.proofs.Common.{◌≡◌, sym, ◌∙◌, List, ◌++◌, ℕ, ◌+◌, ◌-◌, ◌≤◌, ◌<◌, ap, arith, length, take, drop, slice_index}
use Rattle.std.proofs.Common.{length-take, get_or-take, ext_get_or}
use Rattle.std.proofs.Math.ListN.{get_or-append}
use Rattle.std.proofs.Math.Decide.{dec_lt}
use Rattle.std.proofs.lemmas.Grind.{common_steps}
use Rattle.words.specs.lists.Sequences.{written}
use Rattle.words.proofs.lists.Written.{written-length}

module _ (old xs : List ℕ) (at : ℕ) (room : at + length xs ≤ length old) where
  front : length (take at old) ≡ at
  front = simp length-take (omega arith)

  pub part-before : (k : ℕ) → k < at → slice_index (written old at xs) k ≡ slice_index old k
  unfolding written
  part-before k l = get_or-append (take at old) (xs ++ drop (at + length xs) old) 0 k (omega (arith, front)) ∙ get_or-take at old k 0 l

  pub part-within : (k : ℕ) → k < length xs → slice_index (written old at xs) (at + k) ≡ slice_index xs k
  unfolding written
  part-within k l = grind (arith, common_steps)

  pub part-behind : (k : ℕ) → at + length xs ≤ k → slice_index (written old at xs) k ≡ slice_index old k
  unfolding written
  part-behind k l = grind (arith, common_steps)

  -- a list that has them there, and elsewhere what the buffer had
  pub written-is : (new : List ℕ) → length new ≡ length old → ((k : ℕ) → k < length xs → slice_index new (at + k) ≡ slice_index xs k)
      → ((k : ℕ) → (at ≤ k → k < at + length xs → ⊥) → slice_index new k ≡ slice_index old k) → new ≡ written old at xs
  written-is new e within others = ext_get_or 0 new (written old at xs) (e ∙ sym (written-length old at xs room)) (λ k l. here k)
    where
      here : (k : ℕ) → slice_index new k ≡ slice_index (written old at xs) k
      here k = go (dec_lt k at) (dec_lt k (at + length xs))
        where
          go : Dec (k < at) → Dec (k < at + length xs) → slice_index new k ≡ slice_index (written old at xs) k
          go (yes p) q = others k (λ a b. omega arith) ∙ sym (part-before k p)
          go (no n) (yes q) =
              let j : at + (k - at) ≡ k = omega arith in
              ap (λ (i : ℕ). slice_index new i) (sym j) ∙ within (k - at) (omega arith) ∙ sym (part-within (k - at) (omega arith))
              ∙ ap (λ (i : ℕ). slice_index (written old at xs) i) j
          go (no n) (no m) = others k (λ a b. m b) ∙ sym (part-behind k (omega arith))
