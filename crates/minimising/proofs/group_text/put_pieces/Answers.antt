-- `minimising::group_text::put_pieces` meets its contract: the pieces of the frames before f stand in the buffer.
use Rattle.minimising.proofs.group_pieces.PieceCases.{header-first, header-room, rest-room, rest-on, rest-all}
use Rattle.std.proofs.Common.{rules}
use Rattle.minimising.proofs.group_text.put_pieces.Goals as goal

pub put_header-requires-clause-room : goal.put_header-requires-clause-room
put_header-requires-clause-room c = search (rules, header-room)

pub put_piece-place-requires-clause-room : goal.put_piece-place-requires-clause-room
put_piece-place-requires-clause-room c =
    rest-room _ _ _ _ _ _ c.loop-f.invariant c.args.out.now (search (rules, header-first)) (search rules) c.requires.room

pub loop-f-preserved : goal.loop-f-preserved
loop-f-preserved c = search (rules, rest-on, header-first)

pub returns : goal.returns
returns c = search (rules, rest-all, header-first)
