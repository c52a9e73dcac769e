-- The cases of dry runs hold, computed.
use Rattle.std.proofs.Common.{refl}
use Rattle.dry_runs.specs.DryRun.{dry_run}
use Rattle.bench.specs.Bench.{chart_p, image_p, bench_words}
use Rattle.bench.specs.DryRuns.{DryRunCases}
use Rattle.bench.proofs.Computing.{translating, running}

pub dry-run-cases : DryRunCases
unfolding translating running dry_run chart_p image_p bench_words
dry-run-cases = record {
  b2 = refl;
  b3 = refl;
  b4 = refl;
  behind = refl;
  no-text = λ image words masks codes. refl;
  small-image = refl;
  no-places = refl;
  many-places = refl;
  few-codes = refl;
}
