-- `state::State::put_result` meets its contract: the byte written stands for the truth value that is set.
use Rattle.std.proofs.Common.{arith}
use Rattle.std.proofs.lemmas.Grind.{common_steps}
use Rattle.std.proofs.lemmas.List.{map-set}
use Rattle.state.proofs.Stored.{byte-back}
use Rattle.state.proofs.State.put_result.Goals as goal

pub returns : goal.returns
returns c = simp (map-set, c.result_place-k.ensures, byte-back) (grind (arith, common_steps))
