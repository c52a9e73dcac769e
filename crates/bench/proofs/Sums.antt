-- The published sums hold, computed.
use Rattle.std.proofs.Common.{refl}
use Rattle.crc.specs.Crc.{after_bits, crc}
use Rattle.bench.specs.Bench.{characters}
use Rattle.bench.specs.Sums.{SumCases}

pub sum-cases : SumCases
unfolding after_bits crc characters
sum-cases = record {
  nothing = refl;
  check = refl;
  parts = refl;
  chunk = refl;
  sentence = refl;
}
