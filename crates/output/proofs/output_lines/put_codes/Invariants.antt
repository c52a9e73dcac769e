-- `output::output_lines::put_codes` meets its contract: the lines of the codes passed stand in the buffer.
use Rattle.std.proofs.Common.{length}
use Rattle.words.proofs.lists.Fills.{Pieces}
use Rattle.output.proofs.output_lines.Printed.{line_at}
use Rattle.output.proofs.output_lines.put_codes.Given as goal

abbrev pub invariant-loop-i : goal.invariant-loop-i
invariant-loop-i l = Pieces (line_at l.codes) 3 l.initial.out l.out 0 (length l.codes) l.i
