-- Words with their two bytes in the other order: two agree where both are swapped.
use Rattle.std.proofs.Common.{ℕ, ◌+◌, ◌*◌, ◌/◌, ◌%◌, ◌<◌, ◌≡◌, sym, ◌∙◌, ap, ap₂, arith, bit_and, ◌==◌}
use lib.Bits.{and_block, and_lt}
use Rattle.std.proofs.lemmas.Grind.{common_steps}
use Rattle.words.specs.bits.Word.{is_agreeing}
use Rattle.rows.specs.inner.Search.{swapped_word}

-- two bytes each, compared byte by byte
same-bytes : (p q u v : ℕ) → p < 256 → q < 256 → u < 256 → v < 256 → (p * 256 + q == u + v * 256) ≡ (q * 256 + p == u * 256 + v)
same-bytes p q u v hp hq hu hv = grind (arith, common_steps)

-- care mask x and y, values u and v, the high byte first; against the swapped word t they are taken with the low byte first
module _ (t x y u v : ℕ) (small : t < 65536) (hx : x < 256) (hy : y < 256) (hu : u < 256) (hv : v < 256) where
  abbrev high : ℕ
  high = t / 256

  abbrev low : ℕ
  low = t % 256

  pub swapped-agrees : (bit_and t (x + y * 256) == u + v * 256) ≡ is_agreeing (swapped_word t) (x * 256 + y) (u * 256 + v)
  swapped-agrees =
      let e : t ≡ high * 256 + low = omega arith in
      let f : x + y * 256 ≡ y * 256 + x = omega arith in
      let p : bit_and high y < 256 = and_lt 8 high y (omega arith) hy in
      let q : bit_and low x < 256 = and_lt 8 low x (omega arith) hx in
      ap (λ (n : ℕ). n == u + v * 256) (ap₂ (λ (m n : ℕ). bit_and m n) e f ∙ and_block 8 high y low x (omega arith) hx)
      ∙ same-bytes (bit_and high y) (bit_and low x) u v p q hu hv
      ∙ sym (ap (λ (n : ℕ). n == u * 256 + v) (and_block 8 low x high y (omega arith) hy))
