-- Runs with another tick in the place of the machine's, and what they hand back.
use Rattle.std.proofs.Common.{◌≡◌, refl, ◌∙◌, ap, sym, List, ℕ, slice_index, arith}
use Rattle.std.proofs.lemmas.Grind.{common_steps}
use Rattle.image.specs.Image.{Image}
use Rattle.state.specs.State.{State, fresh}
use Rattle.runs.specs.Run.{run_verdict, run_on}
use Rattle.agreement.specs.Agreement.{Runner, Rebinder, RunOutput, output_of, CallInput, call_outputs}
use Rattle.agreement.proofs.Images.{state_verdict}
use Rattle.bench.specs.Variants.{StepRule, ticks_by_rule, run_by}
use Rattle.bench.proofs.Tables.{Holds, held, TranslatesTo}
use Rattle.bench.proofs.Instances.{alone_input, one_run_output}
use Rattle.bench.proofs.Rebindings.{chain-alike}

-- the same with the image given as a table; on an image that holds it, it is that run
abbrev pub decoded_run_by : Image → StepRule → Runner
decoded_run_by i step text s words masks codes =
    run_on (state_verdict i s words masks codes) (λ _. ticks_by_rule step i s words) s masks codes

pub by-image : {image : List ℕ} {i : Image} → Holds image i → (step : StepRule) (s : State) (words masks codes : List ℕ)
    → run_by step image s words masks codes ≡ decoded_run_by i step image s words masks codes
unfolding run_verdict
by-image known step s words masks codes = grind (arith, common_steps)

module _ {chart image : List ℕ} {i : Image} (known : TranslatesTo chart image i) (step : StepRule) where
  pub by-table : (s : State) (words masks codes : List ℕ)
      → run_by step image s words masks codes ≡ decoded_run_by i step image s words masks codes
  by-table = by-image (held known) step

  pub made : (size : ℕ) (ws : List ℕ) {t : RunOutput} → one_run_output (run_by step) image size ws ≡ t
      → one_run_output (decoded_run_by i step) image size ws ≡ t
  made size ws e = sym (ap output_of (by-table (fresh size) ws (alone_input ws).masks (alone_input ws).codes)) ∙ e

  pub chain-made : (rebind : Rebinder) (s : State) (given : List CallInput)
      → call_outputs (run_by step) rebind image s given ≡ call_outputs (decoded_run_by i step) rebind image s given
  chain-made rebind = chain-alike image (run_by step) (decoded_run_by i step) rebind rebind by-table (λ s h k. refl)

abbrev pub code_at : ℕ → RunOutput → ℕ
code_at k t = slice_index t.codes k

abbrev pub mask_at : ℕ → RunOutput → ℕ
mask_at k t = slice_index t.masks k
