-- The laws that prove what each function here promises, under its name.
use Rattle.agreement.proofs.Demand.{theorem}
use Rattle.agreement.proofs.Delivered.{delivered}
use Rattle.agreement.proofs.ForC.{delivered-c}
use Rattle.agreement.proofs.RunsAlone.{runs-alone, agreement-alone, delivered-alone, runs-delivered, delivered-alone-c, runs-delivered-c}
use Rattle.agreement.proofs.DryRuns.{dry-run-by-walk, dry-run-by-walk-c}
use Rattle.agreement.proofs.OneCall.{prepared-acts}
use Rattle.agreement.proofs.OnlyRow.{one-row-matches}
use Rattle.agreement.proofs.AnyRule.{any-rule-ticks}
use Rattle.agreement.proofs.CareMask.{care-decides}
use Rattle.agreement.proofs.Causes.{cause-explains, cause-explains-c}
use Rattle.agreement.proofs.Listings.{rows-held, rows-held-c}
use Rattle.agreement.proofs.Numbers.{translate-success, prepare-success, minimise-success, little-chart-success, list-success}
use Rattle.agreement.proofs.Numbers.{cause-success, counts-success}
use Rattle.agreement.proofs.FullCalls.{handler-first}

pub ruleset machine_ticks_as_walk = (theorem, delivered, delivered-c)

pub ruleset runs_tick_as_walk = (runs-alone, agreement-alone, delivered-alone, runs-delivered, delivered-alone-c, runs-delivered-c)

pub ruleset dry_runs_tick_as_walk = (dry-run-by-walk, dry-run-by-walk-c)

pub ruleset live_calls_act_as_on_text = prepared-acts

pub ruleset translated_image_has_one_row = (one-row-matches, any-rule-ticks, care-decides)

pub ruleset causes_and_rows_are_told = (cause-explains, cause-explains-c, rows-held, rows-held-c)

pub ruleset number_0_is_success = (translate-success, prepare-success, minimise-success, little-chart-success, list-success, cause-success, counts-success)

pub ruleset full_calls_have_the_handler_first = handler-first
