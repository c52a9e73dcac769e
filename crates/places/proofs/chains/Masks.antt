-- Laws of masks of the numbers below n that pass a test: their bits, two of them joined, one number more.
use Rattle.std.proofs.Common.{if◌then◌else◌, ℕ, zero, suc, ◌^◌, ◌≤◌, ◌<◌, max, Bool, true, false, ◌||◌, not, ◌≡◌, refl, sym, ◌∙◌, ap, ◌==◌, ap₂}
use Rattle.std.proofs.Common.{⊎_elim, pow-suc, arith, bit_or, pow_pos, pow_mono, ne_eqb, eq-eqb}
use Rattle.std.proofs.Math.Decide.{ℕ_discrete}
use lib.Bits.{or_lt}
use Rattle.std.proofs.Math.Pow.{pow-lt}
use Rattle.std.proofs.lemmas.Grind.{common_steps}
use Rattle.words.specs.lists.Numbers.{any}
use Rattle.words.proofs.lists.Tests.{split, cases}
use Rattle.words.proofs.lists.Searches.{any-some, any-false}
use Rattle.std.specs.Int.{bit_at}
use Rattle.words.proofs.bits.BitLaws.{bit-or, bit-none, bit-add-same, bit-add-other, bit-pow-same, bit-pow-other, same-bits}
use Rattle.places.specs.inner.Masks.{mask_of}

-- a number below 2 to the power i has no bit i
beyond : (x i : ℕ) → x < 2 ^ i → bit_at x i ≡ 0
beyond x i l = grind (arith, common_steps)

module _ (p : ℕ → Bool) where
  pub mask-small : (n : ℕ) → mask_of p n < 2 ^ n
  unfolding mask_of
  mask-small zero = grind (arith, common_steps, pow_pos)
  mask-small (suc n) = grind (arith, common_steps, mask-small n, pow-suc)

  pub mask-bit : (n i : ℕ) → i < n → bit_at (mask_of p n) i ≡ (if p i then 1 else 0)
  unfolding mask_of
  mask-bit zero i l = grind (arith, common_steps)
  mask-bit (suc n) i l = grind (arith, common_steps, cases (p n), mask-bit n i, bit-add-same, bit-add-other, beyond, mask-small)

  -- a number with these bits
  pub mask-is : (n x : ℕ) → x < 2 ^ n → ((i : ℕ) → i < n → bit_at x i ≡ (if p i then 1 else 0)) → x ≡ mask_of p n
  mask-is n x l h = same-bits n x (mask_of p n) l (mask-small n) (λ i. ⊎_elim
      (λ (a : i < n). h i a ∙ sym (mask-bit n i a))
      (λ (a : n ≤ i). beyond x i (higher x i l a) ∙ sym (beyond (mask_of p n) i (higher (mask_of p n) i (mask-small n) a)))
      (split i n))
    where
      higher : (y i : ℕ) → y < 2 ^ n → n ≤ i → y < 2 ^ i
      higher y i l a = omega (arith, pow_mono {i = n} {j = i} a)

  pub mask-empty : (n : ℕ) → (mask_of p n == 0) ≡ not (any p 0 n)
  mask-empty n = go (any p 0 n) refl
    where
      go : (b : Bool) → any p 0 n ≡ b → (mask_of p n == 0) ≡ not (any p 0 n)
      go true e =
          let r = any-some p 0 n e in
          let o : bit_at (mask_of p n) r.0 ≡ 1 = mask-bit n r.0 (omega (arith, r.2)) ∙ ap (λ (b : Bool). if b then 1 else 0) r.3 in
          ne_eqb (mask_of p n) 0 (λ z. let q : bit_at (mask_of p n) r.0 ≡ 0 = ap (λ (x : ℕ). bit_at x r.0) z ∙ bit-none r.0 in omega arith)
          ∙ sym (ap not e)
      go false e =
          eq-eqb (mask_of p n) 0 (sym (mask-is n 0 (pow_pos n)
          (λ i l. bit-none i ∙ sym (ap (λ (b : Bool). if b then 1 else 0) (any-false p 0 n e i (omega arith) (omega arith))))))
          ∙ sym (ap not e)

pub mask-alike : (p q : ℕ → Bool) (n : ℕ) → ((i : ℕ) → i < n → p i ≡ q i) → mask_of p n ≡ mask_of q n
unfolding mask_of
mask-alike p q zero h = grind (arith, common_steps)
mask-alike p q (suc n) h = grind (arith, common_steps, mask-alike p q n (λ i l. h i (omega arith)))

pub mask-or : (p q : ℕ → Bool) (n : ℕ) → bit_or (mask_of p n) (mask_of q n) ≡ mask_of (λ i. p i || q i) n
mask-or p q n = mask-is (λ i. p i || q i) n (bit_or (mask_of p n) (mask_of q n))
    (or_lt n (mask_of p n) (mask_of q n) (mask-small p n) (mask-small q n))
    (λ i l. bit-or (mask_of p n) (mask_of q n) i ∙ ap₂ max (mask-bit p n i l) (mask-bit q n i l) ∙ higher (p i) (q i))
  where
    higher : (a b : Bool) → max (if a then 1 else 0) (if b then 1 else 0) ≡ (if a || b then 1 else 0)
    higher true true = refl
    higher true false = refl
    higher false true = refl
    higher false false = refl

-- number k besides
pub mask-more : (p q : ℕ → Bool) (n k : ℕ) → k < n → q k ≡ true → ((i : ℕ) → (k ≡ i → ⊥) → p i ≡ q i)
    → bit_or (mask_of p n) (2 ^ k) ≡ mask_of q n
mask-more p q n k l e h =
    mask-is q n (bit_or (mask_of p n) (2 ^ k)) (or_lt n (mask_of p n) (2 ^ k) (mask-small p n) (pow-lt {i = k} {j = n} l))
    (λ i a. bit-or (mask_of p n) (2 ^ k) i ∙ go i a (ℕ_discrete k i))
  where
    go : (i : ℕ) → i < n → Dec (k ≡ i) → max (bit_at (mask_of p n) i) (bit_at (2 ^ k) i) ≡ (if q i then 1 else 0)
    go i a (yes z) =
        let o : bit_at (2 ^ k) i ≡ 1 = ap (bit_at (2 ^ k)) (sym z) ∙ bit-pow-same k in
        let r : ◌≡◌ {A = ℕ} (if q i then 1 else 0) 1 = ap (λ (b : Bool). if b then 1 else 0) (ap q (sym z) ∙ e) in
        omega (arith, o, r)
    go i a (no z) =
        let o : bit_at (2 ^ k) i ≡ 0 = bit-pow-other k i z in
        let r : bit_at (mask_of p n) i ≡ (if q i then 1 else 0) = mask-bit p n i a ∙ ap (λ (b : Bool). if b then 1 else 0) (h i z) in
        omega (arith, o, r)
