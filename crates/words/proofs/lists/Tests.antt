-- Laws of tests and of a choice by a test.
use Rattle.std.proofs.Common.{if◌then◌else◌, ◌≡◌, refl, sym, ◌⊎◌, inl, inr, Bool, true, false, ◌&&◌, ◌||◌, not, ℕ, ◌≤◌, ◌<◌, arith, nat_lt}
use Rattle.std.proofs.Common.{lt-ltb, le-ltb}
use Rattle.std.proofs.Math.Decide.{dec_lt}
use Rattle.std.proofs.lemmas.Grind.{common_steps}

pub no_both {ℓ} : {A : Type ℓ} (b : Bool) → b ≡ true → b ≡ false → A
no_both b p q = absurd (let z : ◌≡◌ {A = ℕ} 0 1 = cc in omega arith)

pub or-l : (a b : Bool) → (a || b) ≡ false → a ≡ false
or-l true b e = e
or-l false b e = refl

pub or-r : (a b : Bool) → (a || b) ≡ false → b ≡ false
or-r true b e = no_both true refl e
or-r false b e = e

pub or-cases : (a b : Bool) → (a || b) ≡ true → (a ≡ true) ⊎ (b ≡ true)
or-cases true b e = inl refl
or-cases false b e = inr e

pub or-true-l : (a b : Bool) → a ≡ true → (a || b) ≡ true
or-true-l a b e = rw e

pub or-true-r : (a b : Bool) → b ≡ true → (a || b) ≡ true
or-true-r true b e = refl
or-true-r false b e = e

pub or-none : (a b : Bool) → a ≡ false → b ≡ false → (a || b) ≡ false
or-none a b p q = rw p q

pub or-no : (a : Bool) → (a || false) ≡ a
or-no true = refl
or-no false = refl

pub and-l : (a b : Bool) → (a && b) ≡ true → a ≡ true
and-l true b e = refl
and-l false b e = no_both false e refl

pub and-r : (a b : Bool) → (a && b) ≡ true → b ≡ true
and-r true b e = e
and-r false b e = no_both false e refl

pub and-true : (a b : Bool) → a ≡ true → b ≡ true → (a && b) ≡ true
and-true a b p q = rw p q

-- a guarded test that fails where the guard holds
pub and-false : (a b : Bool) → (a && b) ≡ false → a ≡ true → b ≡ false
and-false true b e g = e
and-false false b e g = no_both false g refl

pub not-false : (a : Bool) → not a ≡ false → a ≡ true
not-false true e = refl
not-false false e = sym e

pub not-true : (a : Bool) → not a ≡ true → a ≡ false
not-true true e = sym e
not-true false e = refl

pub cases : (b : Bool) → (b ≡ true) ⊎ (b ≡ false)
cases true = inl refl
cases false = inr refl

-- one number is below another, or not
pub split : (a b : ℕ) → (a < b) ⊎ (b ≤ a)
split a b = grind (arith, common_steps, dec_lt)

-- a test `a && b` of the code: where a holds it is b, else it is a
pub and-second : (a b r : Bool) → a ≡ true → r ≡ b → r ≡ (a && b)
and-second a b r p q = rw p q

pub and-first : (a b r : Bool) → a ≡ false → r ≡ a → r ≡ (a && b)
and-first a b r p q = rw p (rw p at q)

pub and-no : (a b : Bool) → b ≡ false → (a && b) ≡ false
and-no true b e = e
and-no false b e = refl

-- two comparisons that hold together
pub same-ltb : (a b c d : ℕ) → (a < b → c < d) → (c < d → a < b) → nat_lt a b ≡ nat_lt c d
same-ltb a b c d f g = grind (arith, common_steps, lt-ltb, le-ltb, split)

-- a test as a bit
pub bit-low : (b : Bool) → (if b then 1 else 0) < 2
bit-low true = omega arith
bit-low false = omega arith
