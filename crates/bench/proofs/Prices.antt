-- The cases of prices hold, computed.
use Rattle.std.proofs.Common.{refl}
use Rattle.words.specs.lists.Numbers.{sum}
use Rattle.prices.specs.Prices.{tick_price, hundredths}
use Rattle.prices.specs.priced_runs.PricedRun.{priced_verdict, priced_run}
use Rattle.bench.specs.Bench.{image_p, bench_words}
use Rattle.bench.specs.Handler.{image_handler, drop_words}
use Rattle.bench.specs.Prices.{PriceCases}
use Rattle.bench.proofs.Computing.{running}

pub price-cases : PriceCases
unfolding running sum tick_price hundredths priced_verdict priced_run image_p bench_words image_handler drop_words
price-cases = record {
  half = refl;
  less-than-half = refl;
  together = refl;
  once = refl;
  highest-bit = refl;
  nothing = refl;
  whole = refl;
  full = refl;
  short = refl;
  dropped = refl;
  most = refl;
  many = λ masks codes. refl;
  unfitting = λ masks codes. refl;
}
