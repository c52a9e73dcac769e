-- `translator::row_text::put_sides`: the rows of the 0 side, then those of the 1 side.
use Rattle.std.proofs.Common.{refl}
use Rattle.chart_rows.proofs.RowSteps.{side-entered0, side-entered1}
use Rattle.translator.proofs.label_text.Puts.{both-first, both-second, both-done}
use Rattle.translator.proofs.row_text.NodePuts.{sides-text}
use Rattle.translator.proofs.row_text.put_sides.Goals as goal

pub put_paths-mid-requires : goal.put_paths-mid-requires
put_paths-mid-requires c =
    let at = c.requires.sides_at in record {
      path_at = record { noted = at.noted; entered = side-entered0 at c.field-next0.ensures; within = refl };
      room = both-first (sides-text at c.field-next0.ensures c.field-next1.ensures _ _) _ _ c.requires.room;
    }

pub put_paths-requires : goal.put_paths-requires
put_paths-requires c =
    let at = c.requires.sides_at in record {
      path_at = record { noted = at.noted; entered = side-entered1 at c.field-next1.ensures; within = at.within };
      room = both-second (sides-text at c.field-next0.ensures c.field-next1.ensures _ _) c.requires.room c.put_paths-mid.ensures;
    }

pub returns : goal.returns
returns c =
    both-done (sides-text c.requires.sides_at c.field-next0.ensures c.field-next1.ensures _ _)
    c.requires.room c.put_paths-mid.ensures c.put_paths.ensures
