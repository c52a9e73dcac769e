-- `minimising::group_pieces::put_kept_label` meets its contract: nothing, or one frame.
use Rattle.std.proofs.Common.{refl, arith, rules}
use Rattle.translator.proofs.label_text.Puts.{nothing-put}
use Rattle.minimising.proofs.group_pieces.PieceCases.{label-skip, label-kept, frame-room, frame-put}
use Rattle.minimising.proofs.group_pieces.put_kept_label.Goals as goal

pub returns-then-classes-l : goal.returns-then-classes-l
returns-then-classes-l c = nothing-put _ _ _ (search (rules, label-skip))

pub put_label-requires-clause-inside : goal.put_label-requires-clause-inside
put_label-requires-clause-inside c = omega (arith, c.requires.numbered_groups.table.all)

pub put_label-requires-clause-room : goal.put_label-requires-clause-room
put_label-requires-clause-room c =
    let q = c.requires in
    let kept = label-kept _ _ _ q.numbered_groups _ q.label_frame q.before_rows _ c.labels_from.ensures c.if-classes-l.false in
    frame-room _ _ c.args.out.now _ kept refl _ q.room

pub returns : goal.returns
returns c = frame-put _ _ _ _ (search (rules, label-kept)) refl _ c.put_label.ensures
