-- The chart whose cause has a condition more than the row's care mask, computed.
use Rattle.std.proofs.Common.{refl}
use Rattle.rows.specs.Rows.{best_row}
use Rattle.cause.specs.Cause.{mask_against_all, leaving, cause_of}
use Rattle.bench.specs.LooseMask.{chart_loose, LooseMask}
use Rattle.bench.proofs.Computing.{translating}

pub loose-mask : LooseMask
unfolding translating best_row mask_against_all leaving cause_of chart_loose
loose-mask = record { translated = refl; cause = refl; care = refl }
