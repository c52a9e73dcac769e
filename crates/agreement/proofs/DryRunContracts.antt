-- The calls that DryRuns speaks of are those of the functions, as in Contracts: what a caller learns of a dry run is the very record.
-- `a` has the arguments, `r` the result, and `s` the arguments at exit, each in the order of the function's parameters.
use contract.Lifetimes.{Lfts}
use denote.Triple.Clauses.{AtExit}
use borrow.Fn.World.{ArgsD, ResD}
use Rattle.dry_runs.specs.DryRun.{dry_run, GivesDryRun}
use Rattle.dry_runs.specs.contracts.dry_run as dry-run
use Rattle.dry_runs.proofs.dry_run.Reads as dry-run-reads
use Rattle.fairleadow.specs.DryRunsForC.{GivesDryRunC}
use Rattle.fairleadow.specs.contracts.dry_runs_for_c.fairleadow_dry_run as c-dry-run
use Rattle.fairleadow.proofs.dry_runs_for_c.fairleadow_dry_run.Reads as c-dry-run-reads

pub dry-run-gives : (κs : Lfts 5) (a : ArgsD dry-run.signature κs) (r : ResD dry-run.signature κs) (s : AtExit dry-run.ended κs)
    → dry-run-reads.Learnt κs a r s
    → GivesDryRun (dry_run a.0.now a.1.0 a.1.1.0.now a.1.1.1.0.now a.1.1.1.1.0.now a.1.1.1.1.1.0.now) r
    s.1.1.0.now s.1.1.1.1.0.now s.1.1.1.1.1.0.now
dry-run-gives κs a r s e = e

-- ---- the function for C
pub dry-run-gives-c : (κs : Lfts 7) (a : ArgsD c-dry-run.signature κs) (r : ResD c-dry-run.signature κs) (s : AtExit c-dry-run.ended κs)
    → c-dry-run-reads.Learnt κs a r s
    → GivesDryRunC (dry_run a.0.now a.1.0 a.1.1.0.now a.1.1.1.0.now a.1.1.1.1.0.now a.1.1.1.1.1.0.now) r
    s.1.1.1.1.1.1.0.now s.1.1.1.1.1.1.1.0.now s.1.1.0.now s.1.1.1.1.0.now s.1.1.1.1.1.0.now
dry-run-gives-c κs a r s e = record { told = e.0; image = e.1.0; masks = e.1.1.0; codes = e.1.1.1 }
