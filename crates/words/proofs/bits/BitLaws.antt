-- A word under a care mask equals the values just where each condition in the mask has its value.
use Rattle.std.proofs.Common.{◌≡◌, refl, sym, ◌∙◌, ap, subst, ◌⊎◌, ℕ, zero, suc, ◌+◌, ◌*◌, ◌/◌, ◌%◌, ◌^◌, ◌≤◌, ◌<◌, min, max}
use Rattle.std.proofs.Common.{div-one, pow-suc, mul-div_cancel, arith, one-add, bit_and, bit_or, lit<, shr-shr, pow_pos}
use Rattle.std.proofs.Math.Nat.{div_self, zero-div, mul-mod_left}
use Rattle.std.proofs.Math.Arith.{digits_mod, lt-one}
use lib.Bits.{and_step, or_step, and_shr, or_shr, and_le_r, or_lt, or_disjoint}
use Rattle.std.proofs.Math.Pow.{pow-lt}
use Rattle.std.proofs.lemmas.Grind.{common_steps}
use Rattle.std.specs.Int.{bit_at}

pub bit-and : (a b i : ℕ) → bit_at (bit_and a b) i ≡ min (bit_at a i) (bit_at b i)
bit-and a b i = grind (arith, common_steps, digits_mod, and_shr, and_step)

pub bit-or : (a b i : ℕ) → bit_at (bit_or a b) i ≡ max (bit_at a i) (bit_at b i)
bit-or a b i = grind (arith, common_steps, digits_mod, or_shr, or_step)

-- bit 0, and the bits above it
pub bit-zero : (a : ℕ) → bit_at a 0 ≡ a % 2
bit-zero a = ap (λ (x : ℕ). x % 2) (div-one a)

bit-half : (a i : ℕ) → bit_at (a / 2) i ≡ bit_at a (1 + i)
bit-half a i = ap (λ (x : ℕ). x % 2) (shr-shr a 1 i)

-- two numbers with the same bits are equal
pub same-bits : (k a b : ℕ) → a < 2 ^ k → b < 2 ^ k → ((i : ℕ) → bit_at a i ≡ bit_at b i) → a ≡ b
same-bits zero a b ha hb h = lt-one ha ∙ sym (lt-one hb)
same-bits (suc k) a b ha hb h =
    let p : 2 ^ suc k ≡ 2 ^ k * 2 = pow-suc 2 k in
    let e : a / 2 ≡ b / 2 = same-bits k (a / 2) (b / 2) (omega (arith, p)) (omega (arith, p))
    (λ i. bit-half a i ∙ h (1 + i) ∙ sym (bit-half b i)) in
    let z : a % 2 ≡ b % 2 = sym (bit-zero a) ∙ h 0 ∙ bit-zero b in
    omega arith

-- the bits of a power of two
pub bit-pow-same : (i : ℕ) → bit_at (2 ^ i) i ≡ 1
bit-pow-same i = ap (λ (x : ℕ). x % 2) (div_self (pow_pos i))

pub bit-none : (j : ℕ) → bit_at 0 j ≡ 0
bit-none j = ap (λ (x : ℕ). x % 2) (zero-div (2 ^ j))

pub bit-pow-other : (i j : ℕ) → (i ≡ j → ⊥) → bit_at (2 ^ i) j ≡ 0
bit-pow-other zero zero ne = absurd (ne refl)
bit-pow-other zero (suc j) ne = sym (ap (λ (n : ℕ). bit_at 1 n) (one-add j)) ∙ sym (bit-half 1 j) ∙ bit-none j
bit-pow-other (suc i) zero ne = bit-zero (2 ^ suc i) ∙ ap (λ (x : ℕ). x % 2) (pow-suc 2 i) ∙ mul-mod_left (2 ^ i) 2
bit-pow-other (suc i) (suc j) ne =
    sym (ap (λ (n : ℕ). bit_at (2 ^ suc i) n) (one-add j)) ∙ sym (bit-half (2 ^ suc i) j)
    ∙ ap (λ (x : ℕ). bit_at x j) (ap (λ (x : ℕ). x / 2) (pow-suc 2 i) ∙ mul-div_cancel (2 ^ i) (lit< tt))
    ∙ bit-pow-other i j (λ e. ne (ap suc e))

-- a bit that a number lacks is added
pub lacks : (c i : ℕ) → bit_at c i ≡ 0 → bit_and c (2 ^ i) ≡ 0
lacks c i e = grind (arith, common_steps, and_le_r c (2 ^ i), pow_pos (suc i), same-bits (suc i) (bit_and c (2 ^ i)) 0, pow-lt, bit-and, bit-none, bit-pow-other)

pub add-is-or : (c i : ℕ) → bit_at c i ≡ 0 → c + 2 ^ i ≡ bit_or c (2 ^ i)
add-is-or c i e = sym (or_disjoint c (2 ^ i) (lacks c i e))

pub bit-add-same : (c i : ℕ) → bit_at c i ≡ 0 → bit_at (c + 2 ^ i) i ≡ 1
bit-add-same c i e = ap (λ (x : ℕ). bit_at x i) (add-is-or c i e) ∙ bit-or c (2 ^ i) i ∙ omega (arith, bit-pow-same i, e)

pub bit-add-other : (c i j : ℕ) → bit_at c i ≡ 0 → (i ≡ j → ⊥) → bit_at (c + 2 ^ i) j ≡ bit_at c j
bit-add-other c i j e ne = ap (λ (x : ℕ). bit_at x j) (add-is-or c i e) ∙ bit-or c (2 ^ i) j ∙ omega (arith, bit-pow-other i j ne)

pub add-small : (c i : ℕ) → bit_at c i ≡ 0 → c < 2 ^ 16 → i ≤ 15 → c + 2 ^ i < 2 ^ 16
add-small c i e l m = subst (λ (x : ℕ). x < 2 ^ 16) (sym (add-is-or c i e)) (or_lt 16 c (2 ^ i) l (pow-lt {i = i} {j = 16} (omega arith)))

pub bit-cases : (w i : ℕ) → (bit_at w i ≡ 0) ⊎ (bit_at w i ≡ 1)
bit-cases w i = grind (arith, common_steps)

-- ---- the mask and the values of a path
pub record Mask (care values : ℕ) : Type 0 where
  pub small : care < 2 ^ 16
  pub low : values < 2 ^ 16
  pub within : (i : ℕ) → bit_at care i ≡ 0 → bit_at values i ≡ 0

-- a word has each value of the path, or not
pub record Agree (w care values : ℕ) : Type 0 where
  pub agrees : (i : ℕ) → bit_at care i ≡ 1 → bit_at w i ≡ bit_at values i

pub record Clash (w care values : ℕ) : Type 0 where
  pub place : ℕ
  pub cares : bit_at care place ≡ 1
  pub differs : bit_at w place ≡ bit_at values place → ⊥

pub agree-match : (w care values : ℕ) → Mask care values → Agree w care values → bit_and w care ≡ values
agree-match w care values m a = grind (arith, common_steps, and_le_r w care, same-bits 16 (bit_and w care) values, bit-and, bit-cases)

pub clash-match : (w care values : ℕ) → Clash w care values → bit_and w care ≡ values → ⊥
clash-match w care values k e = grind (arith, common_steps, bit-and)

pub mask-none : Mask 0 0
mask-none = record { small = pow_pos 16; low = pow_pos 16; within = λ i e. e }

pub agree-none : (w : ℕ) → Agree w 0 0
agree-none w = record { agrees = λ i e. absurd (omega (arith, bit-none i)) }

module _ (care values i : ℕ) (free : bit_at care i ≡ 0) (m : Mask care values) where
  -- the 0 side keeps the values, the 1 side adds the bit
  pub mask-0 : i ≤ 15 → Mask (care + 2 ^ i) values
  mask-0 l = grind (arith, common_steps, bit-add-other, add-small)

  pub mask-1 : i ≤ 15 → Mask (care + 2 ^ i) (values + 2 ^ i)
  mask-1 l = grind (arith, common_steps, bit-add-same, bit-add-other, add-small)

  pub agree-0 : (w : ℕ) → Agree w care values → bit_at w i ≡ 0 → Agree w (care + 2 ^ i) values
  agree-0 w a z = grind (arith, common_steps, bit-add-other)

  pub agree-1 : (w : ℕ) → Agree w care values → bit_at w i ≡ 1 → Agree w (care + 2 ^ i) (values + 2 ^ i)
  agree-1 w a o = grind (arith, common_steps, bit-add-same, bit-add-other)

  -- a clash stays one
  apart : (j : ℕ) → bit_at care j ≡ 1 → i ≡ j → ⊥
  apart j o q = let z : bit_at care j ≡ 0 = subst (λ (n : ℕ). bit_at care n ≡ 0) q free in omega arith

  pub clash-0 : (w : ℕ) → Clash w care values → Clash w (care + 2 ^ i) values
  clash-0 w k = grind (arith, common_steps, bit-add-other, apart)

  pub clash-1 : (w : ℕ) → Clash w care values → Clash w (care + 2 ^ i) (values + 2 ^ i)
  clash-1 w k = grind (arith, common_steps, bit-add-other, apart)

  -- the side that the word does not take
  pub clash-here-0 : (w : ℕ) → bit_at w i ≡ 1 → Clash w (care + 2 ^ i) values
  clash-here-0 w o = record { place = i; cares = bit-add-same care i free; differs = λ e. omega (arith, m.within i free) }

  pub clash-here-1 : (w : ℕ) → bit_at w i ≡ 0 → Clash w (care + 2 ^ i) (values + 2 ^ i)
  clash-here-1 w z = grind (arith, common_steps, bit-add-same)
