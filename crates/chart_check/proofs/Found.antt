-- The lowest number that passes a test, as the library's `find` has it: the same as `lowest`, and what it tells of a verdict.
use Rattle.std.proofs.Common.{if◌then◌else◌, ◌≡◌, Bool, true, ◌||◌, ℕ, zero, suc, ◌+◌, ◌≤◌, ◌<◌, arith, Option, None, Some, nat_lt, find}
use Rattle.std.proofs.Common.{lt-ltb, le-ltb}
use Rattle.std.proofs.lemmas.Grind.{common_steps}
use Rattle.std.specs.Bool.{then_some}
use Rattle.std.specs.List.{range_with_len}
use Rattle.words.specs.lists.Numbers.{lowest}
use Rattle.words.proofs.lists.Tests.{cases}
use Rattle.words.proofs.lists.Searches.{any-here, any-on, any-over, Searching, searching-first, searching-found, searching-over}
use Rattle.words.proofs.lists.Searches.{lowest-alike}
use Rattle.text.specs.frames.Verdict.{fine, refused, at_lowest}

-- the lowest of n numbers from i on, if one passes
pub lowest-found : (p : ℕ → Bool) (i n : ℕ)
    → find p (range_with_len i n) ≡ (if nat_lt (lowest p i n) (i + n) then Some (lowest p i n) else None)
unfolding lowest
lowest-found p i zero = grind (arith, common_steps, le-ltb)
lowest-found p i (suc n) = grind (arith, common_steps, lowest-found p (suc i) n, lt-ltb)

pub found-below : (p : ℕ → Bool) (n r : ℕ) → r ≡ lowest p 0 n → then_some (nat_lt r n) r ≡ find p (range_with_len 0 n)
found-below p n r e = grind (arith, common_steps, lowest-found, lt-ltb, le-ltb)

-- two tests that agree
pub found-alike : (p q : ℕ → Bool) (n : ℕ) → ((k : ℕ) → k < n → p k ≡ q k) → find p (range_with_len 0 n) ≡ find q (range_with_len 0 n)
found-alike p q n h =
    let same : lowest p 0 n ≡ lowest q 0 n = lowest-alike p q 0 n (λ k a l. h k (omega arith)) in
    grind (arith, common_steps, lowest-found)

-- ---- two tests in one search
pub neither-found : (p q : ℕ → Bool) (i n : ℕ) → find (λ v. p v || q v) (range_with_len i n) ≡ None
    → (find p (range_with_len i n) ≡ None) × (find q (range_with_len i n) ≡ None)
neither-found p q i zero e = grind (arith, common_steps)
neither-found p q i (suc n) e = grind (arith, common_steps, neither-found p q (suc i) n, cases)

-- where the first finds nothing, the second has found it
pub second-found : (p q : ℕ → Bool) (i n : ℕ) → find p (range_with_len i n) ≡ None
    → find (λ v. p v || q v) (range_with_len i n) ≡ find q (range_with_len i n)
second-found p q i zero e = grind (arith, common_steps)
second-found p q i (suc n) e = grind (arith, common_steps, second-found p q (suc i) n, cases)

module _ (k : ℕ) (p : ℕ → Bool) (n : ℕ) (r : Option ℕ) (e : r ≡ find p (range_with_len 0 n)) where
  pub found-refused : (v : ℕ) → r ≡ Some v → at_lowest k p n ≡ refused k v
  found-refused v s = grind (arith, common_steps, lowest-found)

  pub none-fine : r ≡ None → at_lowest k p n ≡ fine
  none-fine s = grind (arith, common_steps, lowest-found)

pub ruleset judging = (found-refused, none-fine)

-- ---- a loop that has come to v, and what it tells
module _ (p : ℕ → Bool) (n v : ℕ) (s : Searching p n v (lowest p 0 n)) where
  pub searching-some : v < n → p v ≡ true → Some v ≡ find p (range_with_len 0 n)
  searching-some l t = grind (arith, common_steps, searching-found, lowest-found, lt-ltb)

  pub searching-none : n ≤ v → None ≡ find p (range_with_len 0 n)
  searching-none l = grind (arith, common_steps, searching-over, lowest-found, le-ltb)

pub ruleset searching = (searching-first, searching-some, searching-none)

pub ruleset trying = (any-here, any-on, any-over)
