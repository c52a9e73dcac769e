-- CRC-32 (ISO-HDLC): division by a polynomial over bits, the lowest bit of each byte first, in a register of 32 bits.
use Rattle.std.specs.Prelude.{ℕ, zero, suc, ◌-◌, ◌/◌, ◌%◌, List, bit_xor, fold, if◌then◌else◌, ◌==◌}
use Rattle.crc.specs.declared.TheConstants.{POLYNOMIAL, BITS}

-- the lowest bit falls out; where it is a 1 the polynomial is added, bit by bit without a carry
abbrev pub after_bit : ℕ → ℕ
after_bit r = if r % 2 == 1 then bit_xor (r / 2) POLYNOMIAL else r / 2

-- so many bits after one another
unfoldable pub after_bits : ℕ → ℕ → ℕ
after_bits zero r = r
after_bits (suc n) r = after_bit (after_bits n r)

-- a byte is added to the lowest bits, which then fall out
abbrev pub after_byte : ℕ → ℕ → ℕ
after_byte r x = after_bits BITS (bit_xor r x)

-- each of the 32 bits turned round, as the register is before the first byte and after the last
abbrev pub turned : ℕ → ℕ
turned r = 4294967295 - r

-- the sum of bytes behind those whose sum is s; 0 is the sum of none
unfoldable pub crc : ℕ → List ℕ → ℕ
crc s bytes = turned (fold after_byte (turned s) bytes)
