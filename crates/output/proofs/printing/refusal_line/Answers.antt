-- `output::printing::refusal_line` meets its contract: a frame over an array of 23 bytes is the whole line.
use Rattle.words.specs.lists.Sequences.{written}
use Rattle.text.specs.frames.Frame.{frame_text}
use Rattle.output.specs.Lines.{refusal_line}
use Rattle.output.proofs.printing.refusal_line.Goals as goal

pub returns : goal.returns
unfolding refusal_line frame_text written
returns c = c.put_frame.ensures
