-- `crc::after_byte` meets its contract: as many bits fell out as the loop made turns.
use mathlib.Core.Path.{◌≡◌}
use Rattle.std.specs.Int.Bits.{bit_xor}
use Rattle.crc.specs.Crc.{after_bits}
use Rattle.crc.proofs.after_byte.Given as goal

abbrev pub invariant-loop : goal.invariant-loop
invariant-loop l = l.next ≡ after_bits l.counter (bit_xor l.fn.register l.fn.byte)
