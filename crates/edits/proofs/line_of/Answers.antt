-- `edits::line_of` meets its contract: a frame over an array of 23 bytes is the whole line.
use Rattle.words.specs.lists.Sequences.{written}
use Rattle.text.specs.frames.Frame.{frame_text}
use Rattle.edits.specs.inner.Report.{numbered_line}
use Rattle.edits.proofs.line_of.Goals as goal

pub returns : goal.returns
unfolding numbered_line frame_text written
returns c = c.put_frame.ensures
