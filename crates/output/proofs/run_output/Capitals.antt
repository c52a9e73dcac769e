-- What the run program prints for a text is what it prints for it in capitals.
use Rattle.std.proofs.Common.{ℕ, ◌≡◌, List, map, arith}
use Rattle.std.proofs.lemmas.Grind.{common_steps}
use Rattle.text.specs.digits.Digit.{capital}
use Rattle.text.proofs.frames.Capitals.{capitals-alike}
use Rattle.runs.proofs.Alike.{runs}
use Rattle.output.specs.RunProgram.{run_output}

pub prints : (t : List ℕ) → run_output (map capital t) ≡ run_output t
unfolding run_output
prints t = grind (arith, common_steps, capitals-alike, runs)
