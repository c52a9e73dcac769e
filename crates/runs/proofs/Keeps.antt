-- On a sound image any number of ticks keeps a fitting state fitting, however they end.
use Rattle.std.proofs.Common.{ℕ, false, ◌≡◌, List, [], ◌∷◌, arith}
use Rattle.std.proofs.lemmas.Grind.{common_steps}
use Rattle.text.specs.frames.Frame.{contents}
use Rattle.text.specs.frames.Verdict.{fine}
use Rattle.image.specs.Image.{Image}
use Rattle.image.specs.Decode.{decoded_image}
use Rattle.image.specs.Check.{image_verdict}
use Rattle.image.specs.inner.Sound.{SoundImage}
use Rattle.image.proofs.Accepted.{image-sound}
use Rattle.state.specs.State.{State, Sized}
use Rattle.fitness.specs.Fitness.{is_unfit}
use Rattle.fitness.proofs.Fitness.{Fits, fits, unfits}
use Rattle.ticks.specs.Tick.{MachineTick, finished, stopped, tick}
use Rattle.ticks.proofs.Keeps.{Keeps, tick-keeps}
use Rattle.runs.specs.Run.{run_after, ticks}

module _ (i : Image) (sound : SoundImage i) where
  pub ticks-keep : (ws : List ℕ) (s : State) → Fits i s → Fits i (ticks i s ws).state
  unfolding ticks
  ticks-keep [] s f = f
  ticks-keep (w ∷ ws) s f = go (tick i s w) (tick-keeps i sound s f w) (ticks-keep ws)
    where
      go : (t : MachineTick) → Keeps i sound t → ((u : State) → Fits i u → Fits i (ticks i u ws).state)
          → Fits i (run_after s (λ u. ticks i u ws) t).state
      go (finished m k u) q ih = ih u q
      go (stopped n) q ih = f

-- every accepted image, whatever its rows
pub ticks-fit : (text : List ℕ) → image_verdict text ≡ fine → (s : State) → Sized s
    → is_unfit (decoded_image (contents text)) s ≡ false → (ws : List ℕ)
    → is_unfit (decoded_image (contents text)) (ticks (decoded_image (contents text)) s ws).state ≡ false
ticks-fit text passes s sized fit ws = grind (arith, common_steps, unfits, image-sound, fits, ticks-keep)
