-- How a label is handed back.
use Rattle.image.specs.Image.{Label}
use Rattle.tables.specs.declared.Label as declared

abbrev pub as_label : declared.Label → Label
as_label r = record { kind = r.kind; called = r.called; owner = r.owner; result = r.result; mask = r.mask }
