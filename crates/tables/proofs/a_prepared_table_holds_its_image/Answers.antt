use Rattle.tables.proofs.a_prepared_table_holds_its_image.Goals as goal
use Rattle.tables.proofs.PreparedImage.{prepared-on-success}

pub returns : goal.returns
returns c = record { on_success = prepared-on-success }
