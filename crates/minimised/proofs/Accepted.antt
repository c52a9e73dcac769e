-- Every image that is accepted and to which 23 does not apply:
-- for every state that fits, ticks, runs and rebindings on the smaller image are those on the given one, its labels renumbered.
use Rattle.std.proofs.Common.{ℕ, false, ◌≡◌, refl, List}
use Rattle.text.specs.frames.Frame.{contents}
use Rattle.text.specs.frames.Verdict.{fine}
use Rattle.image.specs.Image.{Image, image_text}
use Rattle.image.specs.Decode.{decoded_image}
use Rattle.image.specs.inner.Sound.{SoundImage}
use Rattle.image.proofs.Accepted.{image-sound}
use Rattle.state.specs.State.{State, Sized}
use Rattle.fitness.specs.Fitness.{is_unfit}
use Rattle.fitness.proofs.Fitness.{Fits, fits, unfits}
use Rattle.ticks.specs.Tick.{tick}
use Rattle.runs.specs.Run.{run}
use Rattle.rebinding.specs.Rebind.{rebind}
use Rattle.covering.proofs.Hits.{one-row}
use Rattle.grouping.specs.Classes.{grouping}
use Rattle.minimising.specs.group_numbers.Smaller.{smaller_image}
use Rattle.minimising.specs.Entry.{minimise_verdict}
use Rattle.joined_again.proofs.Again.{AllowedImage, minimise-allowed}
use Rattle.minimised.specs.Alike.{Stops17}
use Rattle.minimised.specs.Renamed.{renumbered_state, renamed_tick, renamed_run, renamed_state_outcome}
use Rattle.minimised.proofs.SmallerTicks.{never-18}
use Rattle.minimised.proofs.Runs.{smaller-fits, smaller-tick, run-new, rebind-new}

module _ (text : List ℕ) (ok : minimise_verdict text ≡ fine) (s : State) (sized : Sized s)
    (fit : is_unfit (decoded_image (contents text)) s ≡ false) where
  abbrev image : Image
  image = decoded_image (contents text)

  abbrev c : List ℕ
  c = grouping (decoded_image (contents text))

  allowed : AllowedImage text
  allowed = minimise-allowed text ok

  sound : SoundImage (decoded_image (contents text))
  sound = image-sound text allowed.accepted

  stands : Fits (decoded_image (contents text)) s
  stands = unfits image s sized fit

  pub still-fits : is_unfit (smaller_image image) (renumbered_state c s) ≡ false
  still-fits = fits (smaller_image image) (renumbered_state c s) (smaller-fits image sound allowed.even s stands)

  pub ticks-alike : (w : ℕ) → tick (smaller_image image) (renumbered_state c s) w ≡ renamed_tick c (tick image s w)
  ticks-alike = smaller-tick image sound allowed.even s stands

  -- 18 stops neither
  pub finds-row : (w : ℕ) → Stops17 (tick image s w)
  finds-row = never-18 image sound (one-row image sound allowed.even) s stands

  pub runs-alike : (ws ms ks : List ℕ) → run (image_text (smaller_image image)) (renumbered_state c s) ws ms ks
      ≡ renamed_run c (run text s ws ms ks)
  runs-alike ws ms ks = run-new image sound allowed.even text allowed.accepted refl s ws ms ks stands

  pub rebinds-alike : (h k : ℕ) → rebind (image_text (smaller_image image)) (renumbered_state c s) h k
      ≡ renamed_state_outcome c (rebind text s h k)
  rebinds-alike h k = rebind-new image sound allowed.even text allowed.accepted refl s h k stands

pub ruleset joined_images_tick_alike = (still-fits, ticks-alike, finds-row, runs-alike, rebinds-alike)
