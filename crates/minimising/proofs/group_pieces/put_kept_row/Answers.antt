-- `minimising::group_pieces::put_kept_row` meets its contract: nothing, or one frame.
use Rattle.std.proofs.Common.{refl, rules}
use Rattle.translator.proofs.label_text.Puts.{nothing-put}
use Rattle.minimising.proofs.group_pieces.PieceCases.{row-skip, row-kept, frame-room, frame-put}
use Rattle.minimising.proofs.group_pieces.put_kept_row.Goals as goal

pub returns-then-classes-from : goal.returns-then-classes-from
returns-then-classes-from c = nothing-put _ _ _ (search (rules, row-skip))

pub put_row-requires-clause-room : goal.put_row-requires-clause-room
put_row-requires-clause-room c =
    let q = c.requires in
    let kept = row-kept _ _ _ q.numbered_groups _ q.row_frame q.inside _ c.byte-from.ensures c.if-classes-from.false in
    frame-room _ _ c.args.out.now _ kept refl _ q.room

pub returns : goal.returns
returns c = frame-put _ _ _ _ (search (rules, row-kept)) refl _ c.put_row.ensures
