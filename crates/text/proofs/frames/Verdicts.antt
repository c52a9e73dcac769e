-- Laws of verdicts: what it tells that no test refuses.
use Rattle.std.proofs.Common.{if◌then◌else◌, ◌≡◌, refl, Bool, true, false, ℕ, ◌≤◌, ◌<◌, arith, ltb-false, le-ltb, nat_lt}
use Rattle.std.proofs.lemmas.Grind.{common_steps}
use Rattle.words.specs.lists.Numbers.{lowest}
use Rattle.words.proofs.lists.Searches.{lowest-past, lowest-none}
use Rattle.text.specs.frames.Verdict.{Verdict, fine, refused, next, when, at_lowest}

pub next-first : (v : Verdict) (f : Unit {0} → Verdict) → next v f ≡ fine → v ≡ fine
next-first fine f e = refl
next-first (refused n i) f e = e

pub next-rest : (v : Verdict) (f : Unit {0} → Verdict) → next v f ≡ fine → f tt ≡ fine
next-rest fine f e = e
next-rest (refused n i) f e = absurd (let z : ◌≡◌ {A = ℕ} 0 1 = cc in omega arith)

pub when-fine : (n : ℕ) (b : Bool) → when n b ≡ fine → b ≡ false
when-fine n false e = refl
when-fine n true e = absurd (let z : ◌≡◌ {A = ℕ} 0 1 = cc in omega arith)

picked-fine : (n i : ℕ) (b : Bool) → (if b then refused n i else fine) ≡ fine → b ≡ false
picked-fine n i false e = refl
picked-fine n i true e = absurd (let z : ◌≡◌ {A = ℕ} 0 1 = cc in omega arith)

pub at-lowest-fine : (n : ℕ) (p : ℕ → Bool) (k : ℕ) → at_lowest n p k ≡ fine → (v : ℕ) → v < k → p v ≡ false
at-lowest-fine n p k e v l =
    let h : k ≤ lowest p 0 k = ltb-false (lowest p 0 k) k (picked-fine n (lowest p 0 k) (nat_lt (lowest p 0 k) k) e) in
    lowest-past p 0 k (omega arith) v (omega arith) (omega arith)

pub at-none : (m : ℕ) (p : ℕ → Bool) (n : ℕ) → ((k : ℕ) → k < n → p k ≡ false) → at_lowest m p n ≡ fine
at-none m p n h = grind (arith, common_steps, le-ltb, lowest-none)
