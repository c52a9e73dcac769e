-- The register goes on from each value to another one: what a bit, a byte or bytes lead to tells where they began.
use Rattle.std.proofs.Common.{ℕ, zero, suc, ◌/◌, ◌%◌, ◌^◌, ◌<◌, ◌≡◌, refl, sym, ◌∙◌, ap, List, [], ◌∷◌, ◌++◌, arith, bit_xor, eq-eqb, ne_eqb, fold}
use Rattle.std.proofs.Math.Decide.{ℕ_discrete}
use lib.Bits.{xor_assoc, xor_comm, xor_lt, xor_self, xor_shr, xor_zero_r}
use Rattle.crc.specs.Crc.{after_bit, after_bits, after_byte, turned, crc}
use Rattle.crc.specs.Laws.{Bytes, GoesOn, TellsChange}
use Rattle.std.proofs.lemmas.Grind.{common_steps}

-- ---- adding bit by bit can be taken back
xor-back : (a p : ℕ) → bit_xor (bit_xor a p) p ≡ a
xor-back a p = xor_assoc a p p ∙ ap (bit_xor a) (xor_self p) ∙ xor_zero_r a

pub xor-left : (a b p : ℕ) → bit_xor a p ≡ bit_xor b p → a ≡ b
xor-left a b p e = sym (xor-back a p) ∙ ap (λ (x : ℕ). bit_xor x p) e ∙ xor-back b p

pub xor-right : (p a b : ℕ) → bit_xor p a ≡ bit_xor p b → a ≡ b
xor-right p a b e = xor-left a b p (xor_comm a p ∙ e ∙ xor_comm p b)

-- ---- one bit: where a 1 fell out the highest bit is a 1
odd-step : (r : ℕ) → r % 2 ≡ 1 → after_bit r ≡ bit_xor (r / 2) 3988292384
odd-step r e = rw (eq-eqb (r % 2) 1 e)

even-step : (r : ℕ) → r % 2 ≡ 0 → after_bit r ≡ r / 2
even-step r e = rw (ne_eqb (r % 2) 1 (λ z. omega arith))

odd-high : (h : ℕ) → h < 2 ^ 31 → bit_xor h 3988292384 / 2 ^ 31 ≡ 1
odd-high h l = xor_shr h 3988292384 31 ∙ ap (λ (x : ℕ). bit_xor x 1) (let e : h / 2 ^ 31 ≡ 0 = omega arith in e)

-- 32 bits
abbrev pub Fits : ℕ → Type 0
Fits r = r < 2 ^ 32

bit-fits : (r : ℕ) → Fits r → Fits (after_bit r)
bit-fits r h = go (ℕ_discrete (r % 2) 1)
  where
    go : Dec (r % 2 ≡ 1) → Fits (after_bit r)
    go (yes e) = omega (arith, odd-step r e, xor_lt 32 (r / 2) 3988292384 (omega arith) (omega arith))
    go (no e) = omega (arith, even-step r (omega arith))

bit-one : (r s : ℕ) → Fits r → Fits s → after_bit r ≡ after_bit s → r ≡ s
bit-one r s hr hs e = go (ℕ_discrete (r % 2) 1) (ℕ_discrete (s % 2) 1)
  where
    go : Dec (r % 2 ≡ 1) → Dec (s % 2 ≡ 1) → r ≡ s
    go (yes p) (yes q) =
        let half : r / 2 ≡ s / 2 = xor-left (r / 2) (s / 2) 3988292384 (sym (odd-step r p) ∙ e ∙ odd-step s q) in
        omega arith
    go (yes p) (no q) =
        absurd (omega (arith, odd-step r p, even-step s (omega arith), odd-high (r / 2) (omega arith)))
    go (no p) (yes q) =
        absurd (omega (arith, odd-step s q, even-step r (omega arith), odd-high (s / 2) (omega arith)))
    go (no p) (no q) =
        let half : r / 2 ≡ s / 2 = sym (even-step r (omega arith)) ∙ e ∙ even-step s (omega arith) in
        omega arith

-- ---- several bits, a byte, bytes
bits-fit : (n r : ℕ) → Fits r → Fits (after_bits n r)
unfolding after_bits
bits-fit zero r h = h
bits-fit (suc n) r h = bit-fits (after_bits n r) (bits-fit n r h)

bits-one : (n r s : ℕ) → Fits r → Fits s → after_bits n r ≡ after_bits n s → r ≡ s
unfolding after_bits
bits-one zero r s hr hs e = grind (arith, common_steps)
bits-one (suc n) r s hr hs e = grind (arith, common_steps, bits-one n r s hr hs, bit-one, bits-fit)

with-byte : (r x : ℕ) → Fits r → x < 256 → Fits (bit_xor r x)
with-byte r x h b = xor_lt 32 r x h (omega arith)

pub byte-fits : (r x : ℕ) → Fits r → x < 256 → Fits (after_byte r x)
byte-fits r x h b = bits-fit 8 (bit_xor r x) (with-byte r x h b)

byte-one : (r s x y : ℕ) → Fits r → Fits s → x < 256 → y < 256 → after_byte r x ≡ after_byte s y → bit_xor r x ≡ bit_xor s y
byte-one r s x y hr hs hx hy e = bits-one 8 (bit_xor r x) (bit_xor s y) (with-byte r x hr hx) (with-byte s y hs hy) e

first-byte : (x : ℕ) (xs : List ℕ) → Bytes (x ∷ xs) → x < 256
first-byte x xs b = b 0 0 (omega arith)

later-bytes : (x : ℕ) (xs : List ℕ) → Bytes (x ∷ xs) → Bytes xs
later-bytes x xs b k d h = b (suc k) d (omega arith)

pub bytes-fit : (r : ℕ) (xs : List ℕ) → Fits r → Bytes xs → Fits (fold after_byte r xs)
bytes-fit r [] h b = h
bytes-fit r (x ∷ xs) h b = bytes-fit (after_byte r x) xs (byte-fits r x h (first-byte x xs b)) (later-bytes x xs b)

bytes-one : (r s : ℕ) (xs : List ℕ) → Fits r → Fits s → Bytes xs → fold after_byte r xs ≡ fold after_byte s xs → r ≡ s
bytes-one r s [] hr hs b e = e
bytes-one r s (x ∷ xs) hr hs b e =
    let small : x < 256 = first-byte x xs b in
    xor-left r s x (byte-one r s x x hr hs small small
    (bytes-one (after_byte r x) (after_byte s x) xs (byte-fits r x hr small) (byte-fits s x hs small) (later-bytes x xs b) e))

fold-on : (r : ℕ) (xs ys : List ℕ) → fold after_byte r (xs ++ ys) ≡ fold after_byte (fold after_byte r xs) ys
fold-on r [] ys = refl
fold-on r (x ∷ xs) ys = fold-on (after_byte r x) xs ys

-- ---- the sum
begun : (s : ℕ) → Fits (turned s)
begun s = omega arith

turned-one : (r s : ℕ) → Fits r → Fits s → turned r ≡ turned s → r ≡ s
turned-one r s hr hs e = omega arith

pub goes-on : GoesOn
unfolding crc
goes-on s xs ys b = grind (arith, common_steps, bytes-fit, fold-on, begun)

pub tells-change : TellsChange
unfolding crc
tells-change s xs x y zs bx hx hy bz other e = grind (arith, common_steps, xor-right, byte-fits, byte-one, bytes-fit, bytes-one, fold-on, begun, turned-one)

pub ruleset a_changed_byte_changes_the_sum = (goes-on, tells-change)
