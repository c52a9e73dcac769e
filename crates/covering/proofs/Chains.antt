-- A search as a chain over a range finds what the words of definitions say.
use Rattle.std.proofs.Common.{◌≡◌, refl, sym, ◌∙◌, Bool, true, false, ℕ, zero, suc, ◌+◌, ◌≤◌, ◌<◌, add-one, arith, find, unwrap_or, count_by}
use Rattle.std.specs.List.{list_any, range_with_len}
use Rattle.std.proofs.lemmas.Grind.{common_steps}
use Rattle.words.specs.lists.Numbers.{any, lowest, count}
use Rattle.words.proofs.lists.Searches.{any-false, any-none, any-true, any-some}

pub any-chain : (p : ℕ → Bool) (i n : ℕ) → list_any p (range_with_len i n) ≡ any p i n
unfolding any
any-chain p i zero = refl
any-chain p i (suc n) = rw (any-chain p (i + 1) n, add-one)

pub lowest-chain : (p : ℕ → Bool) (i n : ℕ) → unwrap_or (find p (range_with_len i n)) (i + n) ≡ lowest p i n
unfolding lowest
lowest-chain p i zero = grind (arith, common_steps)
lowest-chain p i (suc n) = grind (arith, common_steps, lowest-chain p (i + 1) n, add-one)

pub count-chain : (p : ℕ → Bool) (i n : ℕ) → count_by p (range_with_len i n) ≡ count p i n
unfolding count
count-chain p i zero = grind (arith, common_steps)
count-chain p i (suc n) = grind (arith, common_steps, count-chain p (i + 1) n, add-one)

-- ---- what a chain of `any` tells
module _ (p : ℕ → Bool) (i n : ℕ) where
  pub chain-false : list_any p (range_with_len i n) ≡ false → (k : ℕ) → i ≤ k → k < i + n → p k ≡ false
  chain-false e = any-false p i n (sym (any-chain p i n) ∙ e)

  pub chain-none : ((k : ℕ) → k < n → p (i + k) ≡ false) → list_any p (range_with_len i n) ≡ false
  chain-none h = any-chain p i n ∙ any-none p i n h

  pub chain-true : (k : ℕ) → i ≤ k → k < i + n → p k ≡ true → list_any p (range_with_len i n) ≡ true
  chain-true k a b t = any-chain p i n ∙ any-true p i n k a b t

  pub chain-some : list_any p (range_with_len i n) ≡ true → (k : ℕ) × (i ≤ k) × (k < i + n) × (p k ≡ true)
  chain-some e = any-some p i n (sym (any-chain p i n) ∙ e)
