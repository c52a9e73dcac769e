-- A run or a rebinding on the image that the translator wrote is one on the chart's table.
use Rattle.std.proofs.Common.{ℕ, ◌≡◌, ap₂, List, arith}
use Rattle.std.proofs.lemmas.Grind.{common_steps}
use Rattle.text.specs.frames.Frame.{contents}
use Rattle.text.specs.frames.Verdict.{Verdict, fine, next, when}
use Rattle.walk.proofs.Facts.{Facts}
use Rattle.image.specs.Image.{Image, image_text}
use Rattle.image.specs.Decode.{decoded_image}
use Rattle.image.specs.Check.{image_verdict}
use Rattle.translator.specs.Table.{table}
use Rattle.translator.specs.Entry.{translate_verdict}
use Rattle.translator.proofs.SoundTable.{table-fine, table-decoded}
use Rattle.translator.proofs.Translated.{translated-few}
use Rattle.state.specs.State.{State, StateOutcome}
use Rattle.fitness.specs.Fitness.{is_unfit}
use Rattle.runs.specs.Run.{RunOutcome, has_no_room, ticks, run_on, run_verdict, run}
use Rattle.rebinding.specs.Rebind.{rebind_verdict, rebind_on, rebind}

-- refusals 15 and 16, and the ticks, on an image that is given as such
abbrev pub state_verdict : Image → State → List ℕ → List ℕ → List ℕ → Verdict
state_verdict i s words masks codes = next (when 15 (is_unfit i s)) λ _. when 16 (has_no_room words masks codes)

abbrev pub run_image : Image → State → List ℕ → List ℕ → List ℕ → RunOutcome
run_image i s words masks codes = run_on (state_verdict i s words masks codes) (λ _. ticks i s words) s masks codes

pub run-image : (t : List ℕ) (i : Image) → image_verdict t ≡ fine → decoded_image (contents t) ≡ i
    → (s : State) (words masks codes : List ℕ)
    → run t s words masks codes ≡ run_image i s words masks codes
unfolding run run_verdict
run-image t i ok e s words masks codes = grind (arith, common_steps)

-- refusals 15 and 22, and the rebinding, likewise
abbrev pub rebind_image : Image → State → ℕ → ℕ → StateOutcome
rebind_image i s h k = rebind_on (rebind_verdict i s h k) s h k

pub rebind-image : (t : List ℕ) (i : Image) → image_verdict t ≡ fine → decoded_image (contents t) ≡ i → (s : State) (h k : ℕ)
    → rebind t s h k ≡ rebind_image i s h k
unfolding rebind
rebind-image t i ok e s h k = ap₂ (λ (v : Verdict) (j : Image). rebind_on (next v λ _. rebind_verdict j s h k) s h k) ok e

-- ---- the image of a chart
module _ (t : List ℕ) (ok : translate_verdict t ≡ fine) (facts : Facts (contents t)) where
  pub translated-passes : image_verdict (image_text (table (contents t))) ≡ fine
  translated-passes = table-fine (contents t) facts (translated-few t ok)

  pub translated-decoded : decoded_image (contents (image_text (table (contents t)))) ≡ table (contents t)
  translated-decoded = table-decoded (contents t) facts (translated-few t ok)
