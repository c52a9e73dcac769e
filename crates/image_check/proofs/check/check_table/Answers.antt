-- `image_check::check::check_table` meets its contract: 11, then one pass for 12 and 13; where it finds a frame, 12 goes before 13.
use Rattle.std.proofs.Common.{arith}
use Rattle.std.proofs.lemmas.Grind.{common_steps}
use Rattle.image_check.proofs.TableCases.{header-size}
use Rattle.image_check.proofs.check.check_table.Goals as goal

pub lowest_fault-fault-requires : goal.lowest_fault-fault-requires
lowest_fault-fault-requires c = grind (arith, common_steps, header-size)
