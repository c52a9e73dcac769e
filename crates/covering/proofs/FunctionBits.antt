-- Where no row asks for a function's bit, as many words match with bit 1 as with bit 0.
use Rattle.std.proofs.Common.{ℕ, true, false, ◌≡◌, List, ◌==◌, arith}
use Rattle.std.specs.List.{list_any, range_with_len}
use Rattle.words.proofs.lists.Sums.{sum-same}
use Rattle.words.proofs.lists.Tests.{not-false}
use Rattle.text.specs.frames.Frame.{field}
use Rattle.image.specs.Decode.{row_in_frame}
use Rattle.covering.specs.inner.CoveringContracts.{words_with, words_in, has_bit}
use Rattle.covering.proofs.Chains.{chain-false}

module _ (b : List ℕ) (first n : ℕ) where
  pub bits-alike : list_any (has_bit b) (range_with_len first n) ≡ false → words_in b 1 first n ≡ words_in b 0 first n
  bits-alike e = sum-same (λ f. words_with 1 (row_in_frame b f)) (λ f. words_with 0 (row_in_frame b f)) first n (λ k u v.
      let none : (field b k 6 == 2) ≡ true = not-false (field b k 6 == 2) (chain-false (has_bit b) first n e k u v) in
      grind (arith, none))
