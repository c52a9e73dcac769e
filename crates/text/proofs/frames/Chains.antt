-- How a function answers by a chain of verdicts: one law for each way that a link can go, and what an answer tells of its verdict.
use Rattle.std.proofs.Common.{◌≡◌, refl, sym, ◌∙◌, ap, Bool, true, false, ℕ, ◌≤◌, ◌<◌, arith, lt-ltb, le-ltb, Ok, Err, nat_lt}
use Rattle.std.proofs.lemmas.Grind.{common_steps}
use Rattle.words.specs.lists.Numbers.{lowest}
use Rattle.std.proofs.lemmas.Bool.{cond-true, cond-false}
use Rattle.text.specs.frames.Verdict.{Verdict, fine, refused, next, when, at_lowest}
use Rattle.text.specs.declared.frames.refusals.Refusal.{Refusal}
use Rattle.text.specs.frames.Refusal.{number_of, index_of, ticks_of}
use Rattle.text.specs.frames.Answer.{Answer, success, refusal, reply_count, reply, counted_reply, verdict_reply}

-- ---- one link
pub when-holds : (k : ℕ) (b : Bool) → b ≡ true → when k b ≡ refused k 0
when-holds k b e = ap (when k) e

pub when-fails : (k : ℕ) (b : Bool) → b ≡ false → when k b ≡ fine
when-fails k b e = ap (when k) e

-- a search that ended at r, before the end or not
module _ (k : ℕ) (p : ℕ → Bool) (n r : ℕ) (found : r ≡ lowest p 0 n) where
  pub lowest-refused : r < n → at_lowest k p n ≡ refused k r
  lowest-refused h = grind (arith, common_steps, lt-ltb, cond-true)

  pub lowest-fine : n ≤ r → at_lowest k p n ≡ fine
  lowest-fine h = cond-false (nat_lt (lowest p 0 n) n) (refused k (lowest p 0 n)) fine (le-ltb (lowest p 0 n) n (omega arith))

-- ---- the chain
module _ (v : Verdict) (rest : Unit {0} → Verdict) where
  -- the first link refuses, and so does the chain
  pub next-refused : (k i : ℕ) → v ≡ refused k i → next v rest ≡ refused k i
  next-refused k i e = ap (λ w. next w rest) e

  -- the first link passes, and the rest decides
  pub next-on : v ≡ fine → next v rest ≡ rest tt
  next-on e = ap (λ w. next w rest) e

-- ---- replies: a refusal is no success, and the count is the one given
pub no-success : {A : Type 0} (k i m n : ℕ) → refusal k i m ≡ success n → A
no-success k i m n e = absurd (let z : ◌≡◌ {A = ℕ} 0 1 = cc in omega arith)

pub replied-count : (v : Verdict) (n : ℕ) → reply_count (counted_reply v n) ≡ n
replied-count fine n = refl
replied-count (refused k i) n = refl

-- ---- the answer
pub judged-refused : (v : Verdict) (k i n : ℕ) → v ≡ refused k i → refusal k i 0 ≡ verdict_reply v n
judged-refused v k i n e = sym (ap (λ w. verdict_reply w n) e)

-- the same of a refusal that is handed on
pub err-judged : (v : Verdict) (r : Refusal) (n : ℕ) → v ≡ refused (number_of r) (index_of r) → ticks_of r ≡ 0
    → reply (Err r) ≡ verdict_reply v n
err-judged v r n e t = ap (refusal (number_of r) (index_of r)) t ∙ judged-refused v (number_of r) (index_of r) n e

pub judged-fine : (v : Verdict) (n : ℕ) → v ≡ fine → success n ≡ verdict_reply v n
judged-fine v n e = sym (ap (λ w. verdict_reply w n) e)

-- an answer that is Ok, or Err: what it tells of the verdict
module _ (a : Answer) (v : Verdict) (n : ℕ) (gives : reply a ≡ verdict_reply v n) where
  pub ok-fine : (m : ℕ) → a ≡ Ok m → (v ≡ fine) × (m ≡ n)
  ok-fine m e = grind (arith, common_steps)

  pub err-refused : (r : Refusal) → a ≡ Err r → (v ≡ refused (number_of r) (index_of r)) × (ticks_of r ≡ 0)
  err-refused r e = grind (arith, common_steps)
