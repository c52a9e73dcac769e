-- `translator::path_text::put_paths`: a stop is one row, and the paths on from another node are walked.
use Rattle.translator.proofs.path_text.RowPuts.{ends-at-once, end-room, end-done}
use Rattle.translator.proofs.path_text.put_paths.Goals as goal

pub put_row-requires : goal.put_row-requires
put_row-requires c = end-room (ends-at-once c.requires.path_at c.if-notes-v-gt15.true) _ _ _ c.requires.room

pub returns-then-notes-v-gt15 : goal.returns-then-notes-v-gt15
returns-then-notes-v-gt15 c = end-done (ends-at-once c.requires.path_at c.if-notes-v-gt15.true) _ _ c.put_row.ensures
