-- The calls that Calls and ForC speak of are those of the functions:
-- what a caller learns of a call by the function's contract is the very record.
-- `a` has the arguments, `r` the result, and `s` the arguments at exit, each in the order of the function's parameters.
use Rattle.std.proofs.Common.{◌≡◌, map}
use denote.Triple.Clauses.{AtExit}
use borrow.Fn.World.{ArgsD, ResD}
use contract.Lifetimes.{Lfts}
use Rattle.text.specs.frames.Answer.{reply, verdict_reply, GivesBuffer}
use Rattle.translator.specs.Entry.{translate}
use Rattle.places.specs.Entry.{places_needed}
use Rattle.tables.specs.Prepare.{prepare}
use Rattle.minimising.specs.Entry.{minimise}
use Rattle.little_charts.specs.Little.{little_chart}
use Rattle.state.specs.State.{fresh_state}
use Rattle.state.specs.Kept.{view, GivesState}
use Rattle.runs.specs.Run.{run}
use Rattle.runs.specs.TickOutcome.{image_tick}
use Rattle.runs.specs.machine.Live.{live_run, live_tick}
use Rattle.runs.specs.InPlace.{GivesRunOn, GivesTickOn}
use Rattle.prices.specs.priced_runs.PricedRun.{priced_run}
use Rattle.prices.specs.priced_runs.InPlace.{GivesPricedRunOn}
use Rattle.rebinding.specs.Rebind.{rebind, live_rebind, GivesRebindingOn}
use Rattle.fillings.specs.Counts.{count_fillings}
use Rattle.fillings.specs.CountingContracts.{GivesFillings}
use Rattle.fairleadow.specs.AnswersForC.{GivesReplyC, GivesBufferC}
use Rattle.fairleadow.specs.RunsForC.{GivesStateC, run_for, GivesRunC, tick_for, GivesTickC}
use Rattle.fairleadow.specs.PricesForC.{priced_run_for, GivesPricedRunC}
use Rattle.fairleadow.specs.RebindingForC.{rebind_for, GivesRebindingC}
use Rattle.fairleadow.specs.SpindlesForC.{spin_for, live_spin_for, GivesSpinC}
use Rattle.fairleadow.specs.FillingsForC.{GivesFillingsC}
use Rattle.charts.specs.Entry.{read_chart, write_chart}
use Rattle.image.specs.Check.{image_verdict}
use Rattle.rows.specs.listing.Listing.{list, GivesListing}
use Rattle.cause.specs.Cause.{explain, GivesCause}
use Rattle.ticks.specs.codes.Codes.{meaning_of}
use Rattle.spindles.specs.Spindles.{spin, live_spin, GivesSpin}
use Rattle.fairleadow.specs.ImagesForC.{GivesListingC}
use Rattle.fairleadow.specs.CausesForC.{cause_for, GivesCauseC}
use Rattle.fairleadow.specs.Meant.{Meant}
use Rattle.translator.specs.contracts.translating.translate as translating-translate
use Rattle.translator.proofs.translating.translate.Reads as translating-translate-reads
use Rattle.tables.specs.contracts.preparing.prepare as tables-prepare
use Rattle.tables.proofs.preparing.prepare.Reads as tables-prepare-reads
use Rattle.minimising.specs.contracts.minimise as minimising-minimise
use Rattle.minimising.proofs.minimise.Reads as minimising-minimise-reads
use Rattle.little_fetch.specs.contracts.fetching.little_chart as fetching-little-chart
use Rattle.little_fetch.proofs.fetching.little_chart.Reads as fetching-little-chart-reads
use Rattle.state.specs.contracts.State.fresh as state-fresh
use Rattle.state.proofs.State.fresh.Reads as state-fresh-reads
use Rattle.runs.specs.contracts as runs
use Rattle.runs.proofs as runs-proofs
use Rattle.prices.specs.contracts.priced_states.priced_run as priced-run
use Rattle.prices.proofs.priced_states.priced_run.Reads as priced-run-reads
use Rattle.rebinding.specs.contracts as rebinding
use Rattle.rebinding.proofs as rebinding-proofs
use Rattle.fillings.specs.contracts.counting.count_fillings as counting-count-fillings
use Rattle.fillings.proofs.counting.count_fillings.Reads as counting-count-fillings-reads
use Rattle.fairleadow.specs.contracts as c
use Rattle.fairleadow.proofs as c-proofs
use Rattle.places.specs.contracts.places_needed as places-needed
use Rattle.places.proofs.places_needed.Reads as places-needed-reads
use Rattle.chart_text.specs.contracts as chart-text
use Rattle.chart_text.proofs as chart-text-proofs
use Rattle.image_check.specs.contracts.check_image as check-image
use Rattle.image_check.proofs.check_image.Reads as check-image-reads
use Rattle.rows.specs.contracts.image_rows.list_rows as list-rows
use Rattle.rows.proofs.image_rows.list_rows.Reads as list-rows-reads
use Rattle.cause.specs.contracts.explaining.cause_of as cause-of
use Rattle.cause.proofs.explaining.cause_of.Reads as cause-of-reads
use Rattle.ticks.specs.contracts.codes.meaning_of as meaning-of
use Rattle.ticks.proofs.codes.meaning_of.Reads as meaning-of-reads
use Rattle.spindles.specs.contracts as spindles
use Rattle.spindles.proofs as spindles-proofs

-- ---- the functions: on charts, images and tables, with a state, over four spindles
pub translate-lends : (κs : Lfts 2) (a : ArgsD translating-translate.signature κs) (r : ResD translating-translate.signature κs)
    (s : AtExit translating-translate.ended κs) → translating-translate-reads.Learnt κs a r s
    → GivesBuffer (translate a.0.now a.1.0.now) r s.1.0.now
translate-lends κs a r s e = e

pub places-answered : (κs : Lfts 1) (a : ArgsD places-needed.signature κs) (r : ResD places-needed.signature κs) (s : AtExit places-needed.ended κs)
    → places-needed-reads.Learnt κs a r s → reply r ≡ places_needed a.0.now
places-answered κs a r s e = e

pub prepare-lends : (κs : Lfts 2) (a : ArgsD tables-prepare.signature κs) (r : ResD tables-prepare.signature κs)
    (s : AtExit tables-prepare.ended κs) → tables-prepare-reads.Learnt κs a r s → GivesBuffer (prepare a.0.now a.1.0.now) r s.1.0.now
prepare-lends κs a r s e = e

pub minimise-lends : (κs : Lfts 2) (a : ArgsD minimising-minimise.signature κs) (r : ResD minimising-minimise.signature κs)
    (s : AtExit minimising-minimise.ended κs) → minimising-minimise-reads.Learnt κs a r s → GivesBuffer (minimise a.0.now a.1.0.now) r s.1.0.now
minimise-lends κs a r s e = e

pub little-chart-lends : (κs : Lfts 1) (a : ArgsD fetching-little-chart.signature κs) (r : ResD fetching-little-chart.signature κs)
    (s : AtExit fetching-little-chart.ended κs) → fetching-little-chart-reads.Learnt κs a r s
    → GivesBuffer (little_chart a.0 a.1.0 a.1.1.0.now) r s.1.1.0.now
little-chart-lends κs a r s e = e

pub fresh-makes : (κs : Lfts 0) (a : ArgsD state-fresh.signature κs) (r : ResD state-fresh.signature κs) (s : AtExit state-fresh.ended κs)
    → state-fresh-reads.Learnt κs a r s → GivesState (fresh_state a.0) r
fresh-makes κs a r s e = e

pub run-runs : (κs : Lfts 4) (a : ArgsD runs.state_runs.run.signature κs) (r : ResD runs.state_runs.run.signature κs)
    (s : AtExit runs.state_runs.run.ended κs) → runs-proofs.state_runs.run.Reads.Learnt κs a r s
    → GivesRunOn (run a.0.now (view a.1.0) a.1.1.0.now a.1.1.1.0.now a.1.1.1.1.0.now) a.1.0 r.answer r.state s.1.1.1.0.now s.1.1.1.1.0.now
run-runs κs a r s e = e

pub priced-run-prices : (κs : Lfts 5) (a : ArgsD priced-run.signature κs) (r : ResD priced-run.signature κs) (s : AtExit priced-run.ended κs)
    → priced-run-reads.Learnt κs a r s
    → GivesPricedRunOn (priced_run a.0.now (view a.1.0) a.1.1.0.now a.1.1.1.0.now a.1.1.1.1.0.now a.1.1.1.1.1.0.now) a.1.1.1.0.now a.1.0 r.answer
    r.price r.state s.1.1.1.1.0.now s.1.1.1.1.1.0.now
priced-run-prices κs a r s e = e

pub tick-advances : (κs : Lfts 1) (a : ArgsD runs.state_runs.tick_image.signature κs) (r : ResD runs.state_runs.tick_image.signature κs)
    (s : AtExit runs.state_runs.tick_image.ended κs) → runs-proofs.state_runs.tick_image.Reads.Learnt κs a r s
    → GivesTickOn (image_tick a.0.now (view a.1.0) a.1.1.0) a.1.0 r.answer r.state
tick-advances κs a r s e = e

pub live-run-runs : (κs : Lfts 4) (a : ArgsD runs.state_runs.live_run.signature κs) (r : ResD runs.state_runs.live_run.signature κs)
    (s : AtExit runs.state_runs.live_run.ended κs) → runs-proofs.state_runs.live_run.Reads.Learnt κs a r s
    → GivesRunOn (live_run a.0.now (view a.1.0) a.1.1.0.now a.1.1.1.0.now a.1.1.1.1.0.now) a.1.0 r.answer r.state s.1.1.1.0.now s.1.1.1.1.0.now
live-run-runs κs a r s e = e

pub live-tick-advances : (κs : Lfts 1) (a : ArgsD runs.state_runs.live_tick.signature κs) (r : ResD runs.state_runs.live_tick.signature κs)
    (s : AtExit runs.state_runs.live_tick.ended κs) → runs-proofs.state_runs.live_tick.Reads.Learnt κs a r s
    → GivesTickOn (live_tick a.0.now (view a.1.0) a.1.1.0) a.1.0 r.answer r.state
live-tick-advances κs a r s e = e

pub rebind-makes : (κs : Lfts 1) (a : ArgsD rebinding.rebind.signature κs) (r : ResD rebinding.rebind.signature κs)
    (s : AtExit rebinding.rebind.ended κs) → rebinding-proofs.rebind.Reads.Learnt κs a r s
    → GivesRebindingOn (rebind a.0.now (view a.1.0) a.1.1.0 a.1.1.1.0) a.1.0 r.answer r.state
rebind-makes κs a r s e = e

pub live-rebind-makes : (κs : Lfts 1) (a : ArgsD rebinding.live_rebind.signature κs) (r : ResD rebinding.live_rebind.signature κs)
    (s : AtExit rebinding.live_rebind.ended κs) → rebinding-proofs.live_rebind.Reads.Learnt κs a r s
    → GivesRebindingOn (live_rebind a.0.now (view a.1.0) a.1.1.0 a.1.1.1.0) a.1.0 r.answer r.state
live-rebind-makes κs a r s e = e

pub count-fillings-tells : (κs : Lfts 1) (a : ArgsD counting-count-fillings.signature κs) (r : ResD counting-count-fillings.signature κs)
    (s : AtExit counting-count-fillings.ended κs) → counting-count-fillings-reads.Learnt κs a r s
    → GivesFillings (count_fillings a.0.now a.1.0 a.1.1.0 a.1.1.1.0) r
count-fillings-tells κs a r s e = e

pub read-chart-lends : (κs : Lfts 2) (a : ArgsD chart-text.read_chart.signature κs) (r : ResD chart-text.read_chart.signature κs)
    (s : AtExit chart-text.read_chart.ended κs) → chart-text-proofs.read_chart.Reads.Learnt κs a r s
    → GivesBuffer (read_chart a.0.now a.1.0.now) r s.1.0.now
read-chart-lends κs a r s e = e

pub write-chart-lends : (κs : Lfts 2) (a : ArgsD chart-text.write_chart.signature κs) (r : ResD chart-text.write_chart.signature κs)
    (s : AtExit chart-text.write_chart.ended κs) → chart-text-proofs.write_chart.Reads.Learnt κs a r s
    → GivesBuffer (write_chart a.0.now a.1.0.now) r s.1.0.now
write-chart-lends κs a r s e = e

pub check-image-answered : (κs : Lfts 1) (a : ArgsD check-image.signature κs) (r : ResD check-image.signature κs) (s : AtExit check-image.ended κs)
    → check-image-reads.Learnt κs a r s → reply r ≡ verdict_reply (image_verdict a.0.now) 0
check-image-answered κs a r s e = e

pub list-rows-lends : (κs : Lfts 3) (a : ArgsD list-rows.signature κs) (r : ResD list-rows.signature κs) (s : AtExit list-rows.ended κs)
    → list-rows-reads.Learnt κs a r s → GivesListing (list a.0.now a.1.0.now a.1.1.0.now) r s.1.0.now s.1.1.0.now
list-rows-lends κs a r s e = e

pub cause-of-tells : (κs : Lfts 2) (a : ArgsD cause-of.signature κs) (r : ResD cause-of.signature κs) (s : AtExit cause-of.ended κs)
    → cause-of-reads.Learnt κs a r s → GivesCause (explain a.0.now (view a.1.0.now) a.1.1.0) r
cause-of-tells κs a r s e = e

pub meaning-of-tells : (κs : Lfts 0) (a : ArgsD meaning-of.signature κs) (r : ResD meaning-of.signature κs) (s : AtExit meaning-of.ended κs)
    → meaning-of-reads.Learnt κs a r s → r ≡ meaning_of a.0
meaning-of-tells κs a r s e = e

pub kept-tick-advances : (κs : Lfts 2) (a : ArgsD runs.kept_states.tick.signature κs) (r : ResD runs.kept_states.tick.signature κs)
    (s : AtExit runs.kept_states.tick.ended κs) → runs-proofs.kept_states.tick.Reads.Learnt κs a r s
    → GivesTickOn (image_tick a.1.0.now (view a.0.now) a.1.1.0) a.0.now r s.0.now
kept-tick-advances κs a r s e = e

pub spin-spins : (κs : Lfts 2) (a : ArgsD spindles.spindle_list.spin.signature κs) (r : ResD spindles.spindle_list.spin.signature κs)
    (s : AtExit spindles.spindle_list.spin.ended κs) → spindles-proofs.spindle_list.spin.Reads.Learnt κs a r s
    → GivesSpin (spin a.1.1.1.0.now (map view a.0.now) a.1.0 a.1.1.0 a.1.1.1.1.0) a.0.now a.1.1.0 r s.0.now
spin-spins κs a r s e = e

pub live-spin-spins : (κs : Lfts 2) (a : ArgsD spindles.spindle_list.live_spin.signature κs) (r : ResD spindles.spindle_list.live_spin.signature κs)
    (s : AtExit spindles.spindle_list.live_spin.ended κs) → spindles-proofs.spindle_list.live_spin.Reads.Learnt κs a r s
    → GivesSpin (live_spin a.1.1.1.0.now (map view a.0.now) a.1.0 a.1.1.0 a.1.1.1.1.0) a.0.now a.1.1.0 r s.0.now
live-spin-spins κs a r s e = e

-- ---- the functions for C
pub translate-lends-c : (κs : Lfts 4) (a : ArgsD c.translating_for_c.fairleadow_translate.signature κs)
    (r : ResD c.translating_for_c.fairleadow_translate.signature κs) (s : AtExit c.translating_for_c.fairleadow_translate.ended κs)
    → c-proofs.translating_for_c.fairleadow_translate.Reads.Learnt κs a r s
    → GivesBufferC (translate a.0.now a.1.0.now) r s.1.1.0.now s.1.1.1.0.now s.1.0.now
translate-lends-c κs a r s e = record { told = e.0; written = e.1 }

pub fresh-makes-c : (κs : Lfts 3) (a : ArgsD c.runs_for_c.fairleadow_fresh.signature κs) (r : ResD c.runs_for_c.fairleadow_fresh.signature κs)
    (s : AtExit c.runs_for_c.fairleadow_fresh.ended κs) → c-proofs.runs_for_c.fairleadow_fresh.Reads.Learnt κs a r s
    → GivesStateC (fresh_state a.0) r s.1.1.0.now s.1.1.1.0.now s.1.0.now
fresh-makes-c κs a r s e = record { told = e.0; state = e.1 }

pub run-runs-c : (κs : Lfts 7) (a : ArgsD c.runs_for_c.fairleadow_run.signature κs) (r : ResD c.runs_for_c.fairleadow_run.signature κs)
    (s : AtExit c.runs_for_c.fairleadow_run.ended κs) → c-proofs.runs_for_c.fairleadow_run.Reads.Learnt κs a r s
    → GivesRunC (run_for a.0.now a.1.0.now a.1.1.0.now a.1.1.1.0.now a.1.1.1.1.0.now) a.1.0.now r s.1.1.1.1.1.0.now s.1.1.1.1.1.1.0.now s.1.0.now
    s.1.1.1.0.now s.1.1.1.1.0.now
run-runs-c κs a r s e = record { told = e.0; state = e.1.0; masks = e.1.1.0; codes = e.1.1.1 }

pub priced-run-prices-c : (κs : Lfts 9) (a : ArgsD c.prices_for_c.fairleadow_priced_run.signature κs)
    (r : ResD c.prices_for_c.fairleadow_priced_run.signature κs) (s : AtExit c.prices_for_c.fairleadow_priced_run.ended κs)
    → c-proofs.prices_for_c.fairleadow_priced_run.Reads.Learnt κs a r s
    → GivesPricedRunC (priced_run_for a.0.now a.1.0.now a.1.1.0.now a.1.1.1.0.now a.1.1.1.1.0.now a.1.1.1.1.1.0.now) a.1.1.1.0.now a.1.0.now r
    s.1.1.1.1.1.1.1.0.now s.1.1.1.1.1.1.1.1.0.now s.1.0.now s.1.1.1.1.0.now s.1.1.1.1.1.0.now s.1.1.1.1.1.1.0.now
priced-run-prices-c κs a r s e = record { told = e.0; state = e.1.0; masks = e.1.1.0; codes = e.1.1.1.0; price = e.1.1.1.1 }

pub tick-advances-c : (κs : Lfts 6) (a : ArgsD c.runs_for_c.fairleadow_tick.signature κs) (r : ResD c.runs_for_c.fairleadow_tick.signature κs)
    (s : AtExit c.runs_for_c.fairleadow_tick.ended κs) → c-proofs.runs_for_c.fairleadow_tick.Reads.Learnt κs a r s
    → GivesTickC (tick_for a.0.now a.1.0.now a.1.1.0) a.1.0.now a.1.1.1.0.now a.1.1.1.1.0.now r s.1.1.1.1.1.0.now s.1.1.1.1.1.1.0.now s.1.0.now
    s.1.1.1.0.now s.1.1.1.1.0.now
tick-advances-c κs a r s e = record { told = e.0; state = e.1.0; mask = e.1.1.0; code = e.1.1.1 }

pub places-answered-c : (κs : Lfts 3) (a : ArgsD c.charts_for_c.fairleadow_places.signature κs)
    (r : ResD c.charts_for_c.fairleadow_places.signature κs) (s : AtExit c.charts_for_c.fairleadow_places.ended κs)
    → c-proofs.charts_for_c.fairleadow_places.Reads.Learnt κs a r s → GivesReplyC (places_needed a.0.now) r s.1.0.now s.1.1.0.now
places-answered-c κs a r s e = e

pub prepare-lends-c : (κs : Lfts 4) (a : ArgsD c.images_for_c.fairleadow_prepare.signature κs)
    (r : ResD c.images_for_c.fairleadow_prepare.signature κs) (s : AtExit c.images_for_c.fairleadow_prepare.ended κs)
    → c-proofs.images_for_c.fairleadow_prepare.Reads.Learnt κs a r s
    → GivesBufferC (prepare a.0.now a.1.0.now) r s.1.1.0.now s.1.1.1.0.now s.1.0.now
prepare-lends-c κs a r s e = record { told = e.0; written = e.1 }

pub minimise-lends-c : (κs : Lfts 4) (a : ArgsD c.minimising_for_c.fairleadow_minimise.signature κs)
    (r : ResD c.minimising_for_c.fairleadow_minimise.signature κs) (s : AtExit c.minimising_for_c.fairleadow_minimise.ended κs)
    → c-proofs.minimising_for_c.fairleadow_minimise.Reads.Learnt κs a r s
    → GivesBufferC (minimise a.0.now a.1.0.now) r s.1.1.0.now s.1.1.1.0.now s.1.0.now
minimise-lends-c κs a r s e = record { told = e.0; written = e.1 }

pub little-chart-lends-c : (κs : Lfts 3) (a : ArgsD c.charts_for_c.fairleadow_little_chart.signature κs)
    (r : ResD c.charts_for_c.fairleadow_little_chart.signature κs) (s : AtExit c.charts_for_c.fairleadow_little_chart.ended κs)
    → c-proofs.charts_for_c.fairleadow_little_chart.Reads.Learnt κs a r s
    → GivesBufferC (little_chart a.0 a.1.0 a.1.1.0.now) r s.1.1.1.0.now s.1.1.1.1.0.now s.1.1.0.now
little-chart-lends-c κs a r s e = record { told = e.0; written = e.1 }

pub live-run-runs-c : (κs : Lfts 7) (a : ArgsD c.runs_for_c.fairleadow_live_run.signature κs)
    (r : ResD c.runs_for_c.fairleadow_live_run.signature κs) (s : AtExit c.runs_for_c.fairleadow_live_run.ended κs)
    → c-proofs.runs_for_c.fairleadow_live_run.Reads.Learnt κs a r s
    → GivesRunC (live_run a.0.now (view a.1.0.now) a.1.1.0.now a.1.1.1.0.now a.1.1.1.1.0.now) a.1.0.now r s.1.1.1.1.1.0.now s.1.1.1.1.1.1.0.now
    s.1.0.now s.1.1.1.0.now s.1.1.1.1.0.now
live-run-runs-c κs a r s e = record { told = e.0; state = e.1.0; masks = e.1.1.0; codes = e.1.1.1 }

pub live-tick-advances-c : (κs : Lfts 6) (a : ArgsD c.runs_for_c.fairleadow_live_tick.signature κs)
    (r : ResD c.runs_for_c.fairleadow_live_tick.signature κs) (s : AtExit c.runs_for_c.fairleadow_live_tick.ended κs)
    → c-proofs.runs_for_c.fairleadow_live_tick.Reads.Learnt κs a r s
    → GivesTickC (live_tick a.0.now (view a.1.0.now) a.1.1.0) a.1.0.now a.1.1.1.0.now a.1.1.1.1.0.now r s.1.1.1.1.1.0.now s.1.1.1.1.1.1.0.now
    s.1.0.now s.1.1.1.0.now s.1.1.1.1.0.now
live-tick-advances-c κs a r s e = record { told = e.0; state = e.1.0; mask = e.1.1.0; code = e.1.1.1 }

pub rebind-rebinds-c : (κs : Lfts 4) (a : ArgsD c.rebinding_for_c.fairleadow_rebind.signature κs)
    (r : ResD c.rebinding_for_c.fairleadow_rebind.signature κs) (s : AtExit c.rebinding_for_c.fairleadow_rebind.ended κs)
    → c-proofs.rebinding_for_c.fairleadow_rebind.Reads.Learnt κs a r s
    → GivesRebindingC (rebind_for a.0.now a.1.0.now a.1.1.0 a.1.1.1.0) a.1.0.now r s.1.1.1.1.0.now s.1.1.1.1.1.0.now s.1.0.now
rebind-rebinds-c κs a r s e = record { told = e.0; state = e.1 }

pub live-rebind-rebinds-c : (κs : Lfts 4) (a : ArgsD c.rebinding_for_c.fairleadow_live_rebind.signature κs)
    (r : ResD c.rebinding_for_c.fairleadow_live_rebind.signature κs) (s : AtExit c.rebinding_for_c.fairleadow_live_rebind.ended κs)
    → c-proofs.rebinding_for_c.fairleadow_live_rebind.Reads.Learnt κs a r s
    → GivesRebindingC (live_rebind a.0.now (view a.1.0.now) a.1.1.0 a.1.1.1.0) a.1.0.now r s.1.1.1.1.0.now s.1.1.1.1.1.0.now s.1.0.now
live-rebind-rebinds-c κs a r s e = record { told = e.0; state = e.1 }

pub spin-spins-c : (κs : Lfts 7) (a : ArgsD c.spindles_for_c.fairleadow_spin.signature κs) (r : ResD c.spindles_for_c.fairleadow_spin.signature κs)
    (s : AtExit c.spindles_for_c.fairleadow_spin.ended κs) → c-proofs.spindles_for_c.fairleadow_spin.Reads.Learnt κs a r s
    → GivesSpinC (spin_for a.1.1.1.0.now a.0.now a.1.0.now a.1.1.0 a.1.1.1.1.0) a.0.now a.1.1.0 a.1.1.1.1.1.0.now a.1.1.1.1.1.1.0.now r
    s.1.1.1.1.1.1.1.0.now s.1.1.1.1.1.1.1.1.0.now s.0.now s.1.0.now s.1.1.1.1.1.0.now s.1.1.1.1.1.1.0.now
spin-spins-c κs a r s e = record { told = e.0; states = e.1.0; taken = e.1.1.0; mask = e.1.1.1.0; code = e.1.1.1.1 }

pub live-spin-spins-c : (κs : Lfts 7) (a : ArgsD c.spindles_for_c.fairleadow_live_spin.signature κs)
    (r : ResD c.spindles_for_c.fairleadow_live_spin.signature κs) (s : AtExit c.spindles_for_c.fairleadow_live_spin.ended κs)
    → c-proofs.spindles_for_c.fairleadow_live_spin.Reads.Learnt κs a r s
    → GivesSpinC (live_spin_for a.1.1.1.0.now a.0.now a.1.0.now a.1.1.0 a.1.1.1.1.0) a.0.now a.1.1.0 a.1.1.1.1.1.0.now a.1.1.1.1.1.1.0.now r
    s.1.1.1.1.1.1.1.0.now s.1.1.1.1.1.1.1.1.0.now s.0.now s.1.0.now s.1.1.1.1.1.0.now s.1.1.1.1.1.1.0.now
live-spin-spins-c κs a r s e = record { told = e.0; states = e.1.0; taken = e.1.1.0; mask = e.1.1.1.0; code = e.1.1.1.1 }

pub count-fillings-tells-c : (κs : Lfts 6) (a : ArgsD c.fillings_for_c.fairleadow_count_fillings.signature κs)
    (r : ResD c.fillings_for_c.fairleadow_count_fillings.signature κs) (s : AtExit c.fillings_for_c.fairleadow_count_fillings.ended κs)
    → c-proofs.fillings_for_c.fairleadow_count_fillings.Reads.Learnt κs a r s
    → GivesFillingsC (count_fillings a.0.now a.1.0 a.1.1.0 a.1.1.1.0) r s.1.1.1.1.1.1.1.0.now s.1.1.1.1.1.1.1.1.0.now s.1.1.1.1.0.now
    s.1.1.1.1.1.0.now s.1.1.1.1.1.1.0.now
count-fillings-tells-c κs a r s e = record { told = e.0; ended = e.1.0; full = e.1.1.0; unmatched = e.1.1.1 }

pub read-chart-lends-c : (κs : Lfts 4) (a : ArgsD c.charts_for_c.fairleadow_read_chart.signature κs)
    (r : ResD c.charts_for_c.fairleadow_read_chart.signature κs) (s : AtExit c.charts_for_c.fairleadow_read_chart.ended κs)
    → c-proofs.charts_for_c.fairleadow_read_chart.Reads.Learnt κs a r s
    → GivesBufferC (read_chart a.0.now a.1.0.now) r s.1.1.0.now s.1.1.1.0.now s.1.0.now
read-chart-lends-c κs a r s e = record { told = e.0; written = e.1 }

pub write-chart-lends-c : (κs : Lfts 4) (a : ArgsD c.charts_for_c.fairleadow_write_chart.signature κs)
    (r : ResD c.charts_for_c.fairleadow_write_chart.signature κs) (s : AtExit c.charts_for_c.fairleadow_write_chart.ended κs)
    → c-proofs.charts_for_c.fairleadow_write_chart.Reads.Learnt κs a r s
    → GivesBufferC (write_chart a.0.now a.1.0.now) r s.1.1.0.now s.1.1.1.0.now s.1.0.now
write-chart-lends-c κs a r s e = record { told = e.0; written = e.1 }

pub check-image-answered-c : (κs : Lfts 3) (a : ArgsD c.images_for_c.fairleadow_check_image.signature κs)
    (r : ResD c.images_for_c.fairleadow_check_image.signature κs) (s : AtExit c.images_for_c.fairleadow_check_image.ended κs)
    → c-proofs.images_for_c.fairleadow_check_image.Reads.Learnt κs a r s
    → GivesReplyC (verdict_reply (image_verdict a.0.now) 0) r s.1.0.now s.1.1.0.now
check-image-answered-c κs a r s e = e

pub list-rows-lends-c : (κs : Lfts 5) (a : ArgsD c.images_for_c.fairleadow_list_rows.signature κs)
    (r : ResD c.images_for_c.fairleadow_list_rows.signature κs) (s : AtExit c.images_for_c.fairleadow_list_rows.ended κs)
    → c-proofs.images_for_c.fairleadow_list_rows.Reads.Learnt κs a r s
    → GivesListingC (list a.0.now a.1.0.now a.1.1.0.now) r s.1.1.1.0.now s.1.1.1.1.0.now s.1.0.now s.1.1.0.now
list-rows-lends-c κs a r s e = record { told = e.0; firsts = e.1.0; counts = e.1.1 }

pub cause-tells-c : (κs : Lfts 7) (a : ArgsD c.causes_for_c.fairleadow_cause.signature κs) (r : ResD c.causes_for_c.fairleadow_cause.signature κs)
    (s : AtExit c.causes_for_c.fairleadow_cause.ended κs) → c-proofs.causes_for_c.fairleadow_cause.Reads.Learnt κs a r s
    → GivesCauseC a.1.0.now (cause_for a.0.now a.1.0.now a.1.1.0) r s.1.1.1.1.1.1.0.now s.1.1.1.1.1.1.1.0.now s.1.1.1.0.now s.1.1.1.1.0.now
    s.1.1.1.1.1.0.now
cause-tells-c κs a r s e = record { told = e.0; row = e.1.0; mask = e.1.1.0; bit = e.1.1.1.0; sized = e.1.1.1.1 }

pub meaning-tells-c : (κs : Lfts 1) (a : ArgsD c.causes_for_c.fairleadow_meaning.signature κs)
    (r : ResD c.causes_for_c.fairleadow_meaning.signature κs) (s : AtExit c.causes_for_c.fairleadow_meaning.ended κs)
    → c-proofs.causes_for_c.fairleadow_meaning.Reads.Learnt κs a r s → Meant a.0 r s.1.0.now
meaning-tells-c κs a r s e = e
