-- A priced run is a run; its price is that of the masks written.
use Rattle.std.proofs.Common.{ℕ, ◌≡◌, refl, List, [], length, take, arith}
use Rattle.std.proofs.lemmas.Grind.{common_steps}
use Rattle.text.specs.frames.Frame.{contents}
use Rattle.text.specs.frames.Verdict.{Verdict, fine, refused}
use Rattle.text.specs.frames.Answer.{reply_count}
use Rattle.text.proofs.frames.Lent.{front}
use Rattle.text.proofs.frames.Chains.{replied-count}
use Rattle.image.specs.Decode.{decoded_image}
use Rattle.state.specs.State.{State}
use Rattle.runs.specs.Run.{MachineRun, ticks, run_on, run_verdict, run}
use Rattle.runs.proofs.RunCounts.{same-count}
use Rattle.prices.specs.Prices.{hundredths, price}
use Rattle.prices.specs.priced_runs.PricedRun.{priced_verdict, price_on, priced_run}
use Rattle.prices.specs.Promises.{DoesAll, ByTheMasks}

-- of at most 65,536 words it does all that a run does
pub does-all : DoesAll
unfolding priced_run priced_verdict run run_verdict
does-all t s prices words masks codes l = grind (arith, common_steps)

pub no-price : (prices : List ℕ) → price prices [] ≡ 0
unfolding hundredths
no-price prices = refl

module _ (prices : List ℕ) (s : State) (masks codes : List ℕ) where
  masks-by : (v : Verdict) (r : MachineRun) → length r.masks ≡ length r.codes
      → price_on prices v (λ _. r)
      ≡ price prices (take (reply_count (run_on v (λ _. r) s masks codes).reply) (run_on v (λ _. r) s masks codes).masks)
  masks-by (refused k i) r e = grind (arith, common_steps, no-price)
  masks-by fine r e = grind (arith, common_steps, replied-count, front)

-- the price is that of the masks written, as many as the answer counts
pub by-the-masks : ByTheMasks
unfolding priced_run
by-the-masks t s prices words masks codes =
    masks-by prices s masks codes (priced_verdict t s words masks codes) (ticks (decoded_image (contents t)) s words)
    (same-count (decoded_image (contents t)) words s)
