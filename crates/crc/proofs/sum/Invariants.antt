-- `crc::sum` meets its contract: the register is that after the bytes before this one.
use Rattle.std.proofs.Common.{◌≡◌, take, fold}
use Rattle.crc.specs.Crc.{after_byte, turned}
use Rattle.crc.proofs.sum.Given as goal

abbrev pub invariant-loop-byte : goal.invariant-loop-byte
invariant-loop-byte l = l.register ≡ fold after_byte (turned l.fn.sum) (take l.byte-index l.bytes)
