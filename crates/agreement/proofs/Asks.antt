-- No entry point asks anything of its caller: what the checker has a caller show before a call is nothing, whatever the arguments.
use borrow.Fn.World.{ArgsD}
use contract.Lifetimes.{Lfts}
use Rattle.chart_text.specs.contracts as chart-text
use Rattle.chart_text.proofs as chart-text-proofs
use Rattle.translator.specs.contracts.translating.translate as translate
use Rattle.translator.proofs.translating.translate.Reads as translate-reads
use Rattle.places.specs.contracts.places_needed as places-needed
use Rattle.places.proofs.places_needed.Reads as places-needed-reads
use Rattle.image_check.specs.contracts.check_image as check-image
use Rattle.image_check.proofs.check_image.Reads as check-image-reads
use Rattle.tables.specs.contracts.preparing.prepare as prepare
use Rattle.tables.proofs.preparing.prepare.Reads as prepare-reads
use Rattle.table_check.specs.contracts.check_table as check-table
use Rattle.table_check.proofs.check_table.Reads as check-table-reads
use Rattle.crc.specs.contracts.sum as sum
use Rattle.crc.proofs.sum.Reads as sum-reads
use Rattle.rows.specs.contracts.image_rows.list_rows as list-rows
use Rattle.rows.proofs.image_rows.list_rows.Reads as list-rows-reads
use Rattle.minimising.specs.contracts.minimise as minimise
use Rattle.minimising.proofs.minimise.Reads as minimise-reads
use Rattle.little_fetch.specs.contracts.fetching.little_chart as little-chart
use Rattle.little_fetch.proofs.fetching.little_chart.Reads as little-chart-reads
use Rattle.fillings.specs.contracts.counting.count_fillings as count-fillings
use Rattle.fillings.proofs.counting.count_fillings.Reads as count-fillings-reads
use Rattle.cause.specs.contracts.explaining.cause_of as cause-of
use Rattle.cause.proofs.explaining.cause_of.Reads as cause-of-reads
use Rattle.state.specs.contracts.State.fresh as fresh
use Rattle.state.proofs.State.fresh.Reads as fresh-reads
use Rattle.runs.specs.contracts as runs
use Rattle.runs.proofs as runs-proofs
use Rattle.prices.specs.contracts.priced_states.priced_run as priced-run
use Rattle.prices.proofs.priced_states.priced_run.Reads as priced-run-reads
use Rattle.rebinding.specs.contracts as rebinding
use Rattle.rebinding.proofs as rebinding-proofs
use Rattle.fairleadow.specs.contracts as c
use Rattle.fairleadow.proofs as c-proofs
use Rattle.spindles.specs.contracts as spindles
use Rattle.spindles.proofs as spindles-proofs
use Rattle.ticks.specs.contracts.codes.meaning_of as meaning-of
use Rattle.ticks.proofs.codes.meaning_of.Reads as meaning-of-reads
use Rattle.dry_runs.specs.contracts.dry_run as dry-run
use Rattle.dry_runs.proofs.dry_run.Reads as dry-run-reads

pub read-chart-asks-nothing : (κs : Lfts 2) (a : ArgsD chart-text.read_chart.signature κs) → chart-text-proofs.read_chart.Reads.Asked κs a
read-chart-asks-nothing κs a = tt

pub write-chart-asks-nothing : (κs : Lfts 2) (a : ArgsD chart-text.write_chart.signature κs) → chart-text-proofs.write_chart.Reads.Asked κs a
write-chart-asks-nothing κs a = tt

pub translate-asks-nothing : (κs : Lfts 2) (a : ArgsD translate.signature κs) → translate-reads.Asked κs a
translate-asks-nothing κs a = tt

pub places-needed-asks-nothing : (κs : Lfts 1) (a : ArgsD places-needed.signature κs) → places-needed-reads.Asked κs a
places-needed-asks-nothing κs a = tt

pub check-image-asks-nothing : (κs : Lfts 1) (a : ArgsD check-image.signature κs) → check-image-reads.Asked κs a
check-image-asks-nothing κs a = tt

pub prepare-asks-nothing : (κs : Lfts 2) (a : ArgsD prepare.signature κs) → prepare-reads.Asked κs a
prepare-asks-nothing κs a = tt

pub check-table-asks-nothing : (κs : Lfts 1) (a : ArgsD check-table.signature κs) → check-table-reads.Asked κs a
check-table-asks-nothing κs a = tt

pub sum-asks-nothing : (κs : Lfts 1) (a : ArgsD sum.signature κs) → sum-reads.Asked κs a
sum-asks-nothing κs a = tt

pub fresh-asks-nothing : (κs : Lfts 0) (a : ArgsD fresh.signature κs) → fresh-reads.Asked κs a
fresh-asks-nothing κs a = tt

pub run-asks-nothing : (κs : Lfts 4) (a : ArgsD runs.state_runs.run.signature κs) → runs-proofs.state_runs.run.Reads.Asked κs a
run-asks-nothing κs a = tt

pub priced-run-asks-nothing : (κs : Lfts 5) (a : ArgsD priced-run.signature κs) → priced-run-reads.Asked κs a
priced-run-asks-nothing κs a = tt

pub tick-image-asks-nothing : (κs : Lfts 1) (a : ArgsD runs.state_runs.tick_image.signature κs) → runs-proofs.state_runs.tick_image.Reads.Asked κs a
tick-image-asks-nothing κs a = tt

pub live-run-asks-nothing : (κs : Lfts 4) (a : ArgsD runs.state_runs.live_run.signature κs) → runs-proofs.state_runs.live_run.Reads.Asked κs a
live-run-asks-nothing κs a = tt

pub live-tick-asks-nothing : (κs : Lfts 1) (a : ArgsD runs.state_runs.live_tick.signature κs) → runs-proofs.state_runs.live_tick.Reads.Asked κs a
live-tick-asks-nothing κs a = tt

pub rebind-asks-nothing : (κs : Lfts 1) (a : ArgsD rebinding.rebind.signature κs) → rebinding-proofs.rebind.Reads.Asked κs a
rebind-asks-nothing κs a = tt

pub live-rebind-asks-nothing : (κs : Lfts 1) (a : ArgsD rebinding.live_rebind.signature κs) → rebinding-proofs.live_rebind.Reads.Asked κs a
live-rebind-asks-nothing κs a = tt

pub list-rows-asks-nothing : (κs : Lfts 3) (a : ArgsD list-rows.signature κs) → list-rows-reads.Asked κs a
list-rows-asks-nothing κs a = tt

pub minimise-asks-nothing : (κs : Lfts 2) (a : ArgsD minimise.signature κs) → minimise-reads.Asked κs a
minimise-asks-nothing κs a = tt

pub little-chart-asks-nothing : (κs : Lfts 1) (a : ArgsD little-chart.signature κs) → little-chart-reads.Asked κs a
little-chart-asks-nothing κs a = tt

pub cause-of-asks-nothing : (κs : Lfts 2) (a : ArgsD cause-of.signature κs) → cause-of-reads.Asked κs a
cause-of-asks-nothing κs a = tt

pub count-fillings-asks-nothing : (κs : Lfts 1) (a : ArgsD count-fillings.signature κs) → count-fillings-reads.Asked κs a
count-fillings-asks-nothing κs a = tt

pub tick-asks-nothing : (κs : Lfts 2) (a : ArgsD runs.kept_states.tick.signature κs) → runs-proofs.kept_states.tick.Reads.Asked κs a
tick-asks-nothing κs a = tt

pub spin-asks-nothing : (κs : Lfts 2) (a : ArgsD spindles.spindle_list.spin.signature κs) → spindles-proofs.spindle_list.spin.Reads.Asked κs a
spin-asks-nothing κs a = tt

pub live-spin-asks-nothing : (κs : Lfts 2) (a : ArgsD spindles.spindle_list.live_spin.signature κs)
    → spindles-proofs.spindle_list.live_spin.Reads.Asked κs a
live-spin-asks-nothing κs a = tt

pub meaning-of-asks-nothing : (κs : Lfts 0) (a : ArgsD meaning-of.signature κs) → meaning-of-reads.Asked κs a
meaning-of-asks-nothing κs a = tt

pub dry-run-asks-nothing : (κs : Lfts 5) (a : ArgsD dry-run.signature κs) → dry-run-reads.Asked κs a
dry-run-asks-nothing κs a = tt

-- ---- the functions for C
pub c-read-chart-asks-nothing : (κs : Lfts 4) (a : ArgsD c.charts_for_c.fairleadow_read_chart.signature κs)
    → c-proofs.charts_for_c.fairleadow_read_chart.Reads.Asked κs a
c-read-chart-asks-nothing κs a = tt

pub c-write-chart-asks-nothing : (κs : Lfts 4) (a : ArgsD c.charts_for_c.fairleadow_write_chart.signature κs)
    → c-proofs.charts_for_c.fairleadow_write_chart.Reads.Asked κs a
c-write-chart-asks-nothing κs a = tt

pub c-translate-asks-nothing : (κs : Lfts 4) (a : ArgsD c.translating_for_c.fairleadow_translate.signature κs)
    → c-proofs.translating_for_c.fairleadow_translate.Reads.Asked κs a
c-translate-asks-nothing κs a = tt

pub c-places-asks-nothing : (κs : Lfts 3) (a : ArgsD c.charts_for_c.fairleadow_places.signature κs)
    → c-proofs.charts_for_c.fairleadow_places.Reads.Asked κs a
c-places-asks-nothing κs a = tt

pub c-check-image-asks-nothing : (κs : Lfts 3) (a : ArgsD c.images_for_c.fairleadow_check_image.signature κs)
    → c-proofs.images_for_c.fairleadow_check_image.Reads.Asked κs a
c-check-image-asks-nothing κs a = tt

pub c-fresh-asks-nothing : (κs : Lfts 3) (a : ArgsD c.runs_for_c.fairleadow_fresh.signature κs)
    → c-proofs.runs_for_c.fairleadow_fresh.Reads.Asked κs a
c-fresh-asks-nothing κs a = tt

pub c-run-asks-nothing : (κs : Lfts 7) (a : ArgsD c.runs_for_c.fairleadow_run.signature κs) → c-proofs.runs_for_c.fairleadow_run.Reads.Asked κs a
c-run-asks-nothing κs a = tt

pub c-priced-run-asks-nothing : (κs : Lfts 9) (a : ArgsD c.prices_for_c.fairleadow_priced_run.signature κs)
    → c-proofs.prices_for_c.fairleadow_priced_run.Reads.Asked κs a
c-priced-run-asks-nothing κs a = tt

pub c-tick-asks-nothing : (κs : Lfts 6) (a : ArgsD c.runs_for_c.fairleadow_tick.signature κs) → c-proofs.runs_for_c.fairleadow_tick.Reads.Asked κs a
c-tick-asks-nothing κs a = tt

pub c-meaning-asks-nothing : (κs : Lfts 1) (a : ArgsD c.causes_for_c.fairleadow_meaning.signature κs)
    → c-proofs.causes_for_c.fairleadow_meaning.Reads.Asked κs a
c-meaning-asks-nothing κs a = tt

pub c-version-asks-nothing : (κs : Lfts 0) (a : ArgsD c.version_for_c.fairleadow_version.signature κs)
    → c-proofs.version_for_c.fairleadow_version.Reads.Asked κs a
c-version-asks-nothing κs a = tt

pub c-prepare-asks-nothing : (κs : Lfts 4) (a : ArgsD c.images_for_c.fairleadow_prepare.signature κs)
    → c-proofs.images_for_c.fairleadow_prepare.Reads.Asked κs a
c-prepare-asks-nothing κs a = tt

pub c-check-table-asks-nothing : (κs : Lfts 3) (a : ArgsD c.damage_for_c.fairleadow_check_table.signature κs)
    → c-proofs.damage_for_c.fairleadow_check_table.Reads.Asked κs a
c-check-table-asks-nothing κs a = tt

pub c-sum-asks-nothing : (κs : Lfts 1) (a : ArgsD c.damage_for_c.fairleadow_sum.signature κs)
    → c-proofs.damage_for_c.fairleadow_sum.Reads.Asked κs a
c-sum-asks-nothing κs a = tt

pub c-live-run-asks-nothing : (κs : Lfts 7) (a : ArgsD c.runs_for_c.fairleadow_live_run.signature κs)
    → c-proofs.runs_for_c.fairleadow_live_run.Reads.Asked κs a
c-live-run-asks-nothing κs a = tt

pub c-live-tick-asks-nothing : (κs : Lfts 6) (a : ArgsD c.runs_for_c.fairleadow_live_tick.signature κs)
    → c-proofs.runs_for_c.fairleadow_live_tick.Reads.Asked κs a
c-live-tick-asks-nothing κs a = tt

pub c-rebind-asks-nothing : (κs : Lfts 4) (a : ArgsD c.rebinding_for_c.fairleadow_rebind.signature κs)
    → c-proofs.rebinding_for_c.fairleadow_rebind.Reads.Asked κs a
c-rebind-asks-nothing κs a = tt

pub c-live-rebind-asks-nothing : (κs : Lfts 4) (a : ArgsD c.rebinding_for_c.fairleadow_live_rebind.signature κs)
    → c-proofs.rebinding_for_c.fairleadow_live_rebind.Reads.Asked κs a
c-live-rebind-asks-nothing κs a = tt

pub c-list-rows-asks-nothing : (κs : Lfts 5) (a : ArgsD c.images_for_c.fairleadow_list_rows.signature κs)
    → c-proofs.images_for_c.fairleadow_list_rows.Reads.Asked κs a
c-list-rows-asks-nothing κs a = tt

pub c-minimise-asks-nothing : (κs : Lfts 4) (a : ArgsD c.minimising_for_c.fairleadow_minimise.signature κs)
    → c-proofs.minimising_for_c.fairleadow_minimise.Reads.Asked κs a
c-minimise-asks-nothing κs a = tt

pub c-little-chart-asks-nothing : (κs : Lfts 3) (a : ArgsD c.charts_for_c.fairleadow_little_chart.signature κs)
    → c-proofs.charts_for_c.fairleadow_little_chart.Reads.Asked κs a
c-little-chart-asks-nothing κs a = tt

pub c-cause-asks-nothing : (κs : Lfts 7) (a : ArgsD c.causes_for_c.fairleadow_cause.signature κs)
    → c-proofs.causes_for_c.fairleadow_cause.Reads.Asked κs a
c-cause-asks-nothing κs a = tt

pub c-spin-asks-nothing : (κs : Lfts 7) (a : ArgsD c.spindles_for_c.fairleadow_spin.signature κs)
    → c-proofs.spindles_for_c.fairleadow_spin.Reads.Asked κs a
c-spin-asks-nothing κs a = tt

pub c-live-spin-asks-nothing : (κs : Lfts 7) (a : ArgsD c.spindles_for_c.fairleadow_live_spin.signature κs)
    → c-proofs.spindles_for_c.fairleadow_live_spin.Reads.Asked κs a
c-live-spin-asks-nothing κs a = tt

pub c-count-fillings-asks-nothing : (κs : Lfts 6) (a : ArgsD c.fillings_for_c.fairleadow_count_fillings.signature κs)
    → c-proofs.fillings_for_c.fairleadow_count_fillings.Reads.Asked κs a
c-count-fillings-asks-nothing κs a = tt

pub c-dry-run-asks-nothing : (κs : Lfts 7) (a : ArgsD c.dry_runs_for_c.fairleadow_dry_run.signature κs)
    → c-proofs.dry_runs_for_c.fairleadow_dry_run.Reads.Asked κs a
c-dry-run-asks-nothing κs a = tt
