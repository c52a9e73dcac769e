-- Published sums: the check value of CRC-32 in the catalogue of parametrised CRC algorithms, that of the chunk IEND in the PNG
-- specification, which has no data, and a sentence that is often summed.
use Rattle.std.specs.Prelude.{◌≡◌, []}
use Rattle.crc.specs.Crc.{crc}
use Rattle.bench.specs.Bench.{characters}

pub record SumCases : Type 0 where
  pub nothing : crc 0 [] ≡ 0
  -- CBF43926
  pub check : crc 0 (characters "123456789") ≡ 3421780262
  pub parts : crc (crc 0 (characters "12345")) (characters "6789") ≡ 3421780262
  -- AE426082
  pub chunk : crc 0 (characters "IEND") ≡ 2923585666
  -- 414FA339
  pub sentence : crc 0 (characters "The quick brown fox jumps over the lazy dog") ≡ 1095738169
