-- `minimising::joining::minimise_table` meets its contract: the classes that the grouping leaves are written.
use Rattle.std.proofs.Common.{arith}
use Rattle.minimising.proofs.EntryCases.{table-grouped}
use Rattle.minimising.proofs.joining.minimise_table.Goals as goal

pub write_groups-requires : goal.write_groups-requires
write_groups-requires c = grind (arith, table-grouped)
