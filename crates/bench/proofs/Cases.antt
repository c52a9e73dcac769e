-- What the bench sheet says, and the cases of each request: the laws that `the_bench_sheet_holds` promises.
use Rattle.bench.proofs.BenchSheet.{bench-sheet}
use Rattle.bench.proofs.RefusalCases.{refusal-cases}
use Rattle.bench.proofs.Handler.{handler-cases}
use Rattle.bench.proofs.Patched.{patched-cases}
use Rattle.bench.proofs.Causes.{cause-cases, row-causes, answer-causes}
use Rattle.bench.proofs.LooseMask.{loose-mask}
use Rattle.bench.proofs.Listing.{listing-cases}
use Rattle.bench.proofs.Swap.{byte-cases, swap-cases, rebinding-cases, fitness-cases, walked-cases}
use Rattle.bench.proofs.Chains.{chain-cases}
use Rattle.bench.proofs.Joins.{group-cases, even-cases}
use Rattle.bench.proofs.Minimise.{minimise-cases}
use Rattle.bench.proofs.Little.{little-cases}
use Rattle.bench.proofs.Spindles.{spindle-cases}
use Rattle.bench.proofs.Prices.{price-cases}
use Rattle.bench.proofs.Fillings.{filling-cases}
use Rattle.bench.proofs.Live.{live-cases}
use Rattle.bench.proofs.Outputs.{printed-cases}
use Rattle.bench.proofs.DryRuns.{dry-run-cases}
use Rattle.bench.proofs.Sums.{sum-cases}

pub ruleset the_bench_sheet_holds = (
  bench-sheet,
  refusal-cases,
  handler-cases,
  patched-cases,
  cause-cases,
  row-causes,
  answer-causes,
  loose-mask,
  listing-cases,
  byte-cases,
  swap-cases,
  rebinding-cases,
  fitness-cases,
  walked-cases,
  chain-cases,
  group-cases,
  even-cases,
  minimise-cases,
  little-cases,
  spindle-cases,
  price-cases,
  filling-cases,
  live-cases,
  printed-cases,
  dry-run-cases,
  sum-cases,
)
