-- `minimising::group_text::put_piece` meets its contract: entry, label or row, by the frame number.
use Rattle.std.proofs.Common.{refl, rules}
use Rattle.minimising.proofs.group_pieces.PieceCases.{entry-kept, frame-room, frame-put}
use Rattle.minimising.proofs.group_text.put_piece.Goals as goal

pub put_entry-requires : goal.put_entry-requires
put_entry-requires c =
    let q = c.requires in
    let m = c.labels_from in
    let kept = entry-kept _ _ _ q.numbered_groups _ q.after_header _ m.ensures c.if-f-labels_from.true _ c.byte-entry.ensures in
    frame-room _ _ c.args.out.now _ kept refl _ q.room

pub returns-then-f-labels_from : goal.returns-then-f-labels_from
returns-then-f-labels_from c = frame-put _ _ _ _ (search (rules, entry-kept)) refl _ c.put_entry.ensures
