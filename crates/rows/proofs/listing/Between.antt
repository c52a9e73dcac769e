-- Laws of a test that holds from one number up to another and nowhere else: how many numbers pass, and the lowest that does.
use Rattle.std.proofs.Common.{ℕ, zero, suc, ◌+◌, ◌-◌, ◌≤◌, ◌<◌, min, max, Bool, true, false, ◌≡◌, ◌⊎◌, inl, inr, arith}
use Rattle.std.proofs.lemmas.Grind.{common_steps}
use Rattle.words.specs.lists.Numbers.{lowest, count}
use Rattle.std.proofs.lemmas.Bool.{cond-true, cond-false}
use Rattle.words.proofs.lists.Tests.{no_both, split}
use Rattle.words.proofs.lists.Counts.{count-suc}
use Rattle.words.proofs.lists.Searches.{lowest-hit, lowest-before}

pub record Between (p : ℕ → Bool) (n a e : ℕ) : Type 0 where
  pub order : a ≤ e
  pub most : e ≤ n
  pub inner : (k : ℕ) → a ≤ k → k < e → p k ≡ true
  pub outer : (k : ℕ) → k < n → (k < a) ⊎ (e ≤ k) → p k ≡ false

module _ (p : ℕ → Bool) (all a e : ℕ) (t : Between p all a e) where
  count-from : (n i : ℕ) → i + n ≤ all → count p i n ≡ min e (i + n) - max a i
  unfolding count
  count-from zero i h = grind (arith, common_steps)
  count-from (suc n) i h = grind (arith, common_steps, count-from n (suc i) (omega arith), split, cond-false, count-suc, cond-true)

  pub count-between : count p 0 all ≡ e - a
  count-between = omega (arith, count-from all 0 (omega arith), t.order, t.most)

  pub lowest-between : a < e → lowest p 0 all ≡ a
  lowest-between h = go (split (lowest p 0 all) a) (split a (lowest p 0 all))
    where
      go : (lowest p 0 all < a) ⊎ (a ≤ lowest p 0 all) → (a < lowest p 0 all) ⊎ (lowest p 0 all ≤ a) → lowest p 0 all ≡ a
      go (inl g) x =
          no_both (p (lowest p 0 all)) (lowest-hit p 0 all (omega (arith, t.order, t.most)))
          (t.outer (lowest p 0 all) (omega (arith, t.order, t.most)) (inl g))
      go (inr g) (inl m) = no_both (p a) (t.inner a (omega arith) h) (lowest-before p 0 all a (omega arith) m)
      go (inr g) (inr m) = omega arith
