-- A text is refused by the image check, or the table that it makes holds its image.
use Rattle.tables.proofs.Made.{image-made}
use Rattle.tables.proofs.sources.TextSourceTABLE.table.Goals as goal

pub shared_ref_as_front-of : goal.shared_ref_as_front-of
shared_ref_as_front-of c =
    let made = image-made _ _ _ _ c.prepare_table.ensures _ c.in_ok-prepare_table.was in made.few

pub of-requires : goal.of-requires
of-requires c =
    let made = image-made _ _ _ _ c.prepare_table.ensures _ c.in_ok-prepare_table.was in made.whole

pub returns-clause-admits : goal.returns-clause-admits
returns-clause-admits c =
    let made = image-made _ _ _ _ c.prepare_table.ensures _ c.in_ok-prepare_table.was in
    record { accepted = made.accepted; holds = rw c.of.ensures made.holds }

pub returns-clause-noted : goal.returns-clause-noted
returns-clause-noted c =
    let made = image-made _ _ _ _ c.prepare_table.ensures _ c.in_ok-prepare_table.was in rw c.of.ensures made.is
