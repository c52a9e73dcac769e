-- On texts that are read alike a priced run is the same.
use Rattle.std.proofs.Common.{ℕ, ◌≡◌, List, arith}
use Rattle.std.proofs.lemmas.Grind.{common_steps}
use Rattle.text.specs.frames.Alike.{ReadAlike}
use Rattle.image.proofs.Alike.{image-verdict}
use Rattle.state.specs.State.{State}
use Rattle.prices.specs.priced_runs.PricedRun.{priced_verdict, priced_run}

pub prices-runs : (t u : List ℕ) → ReadAlike t u → (s : State) (prices words masks codes : List ℕ)
    → priced_run t s prices words masks codes ≡ priced_run u s prices words masks codes
unfolding priced_run priced_verdict
prices-runs t u A s prices words masks codes = grind (arith, common_steps, image-verdict)
