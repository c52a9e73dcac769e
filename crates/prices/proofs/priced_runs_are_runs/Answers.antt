use Rattle.prices.proofs.priced_runs.EntryCases.{priced-held}
use Rattle.prices.proofs.priced_runs.Pricing.{does-all, by-the-masks}
use Rattle.prices.proofs.priced_runs_are_runs.Goals as goal

pub returns-clause-run : goal.returns-clause-run
returns-clause-run c = does-all

pub returns-clause-price : goal.returns-clause-price
returns-clause-price c = by-the-masks

pub returns-clause-state : goal.returns-clause-state
returns-clause-state c = priced-held
