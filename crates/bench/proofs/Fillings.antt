-- The cases of how often the stack fills hold, computed.
use Rattle.std.proofs.Common.{refl}
use Rattle.words.specs.lists.Numbers.{count}
use Rattle.fillings.specs.Counts.{words_of, count_meeting, count_verdict, count_fillings}
use Rattle.bench.specs.Bench.{image_p}
use Rattle.bench.specs.Handler.{image_handler}
use Rattle.bench.specs.Fillings.{image_no_row, FillingCases}
use Rattle.bench.proofs.Computing.{running}

pub filling-cases : FillingCases
unfolding running count words_of count_meeting count_verdict count_fillings image_p image_no_row image_handler
filling-cases = record {
  filled = refl;
  lacking = refl;
  dropped = refl;
  no-words = refl;
  no-conditions = refl;
  conditions-17 = refl;
  words-65537 = refl;
  product-17 = refl;
  product-wraps = refl;
  image-first = refl;
  size-first = refl;
}
