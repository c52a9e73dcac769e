-- Lists of runs and rebindings on an image, by the table that it holds.
use Rattle.std.proofs.Common.{◌≡◌, refl, ◌∙◌, ap, ap₂, List, [], ◌∷◌, ℕ, arith}
use Rattle.std.proofs.lemmas.Grind.{common_steps}
use Rattle.text.specs.frames.Verdict.{Verdict, next}
use Rattle.image.specs.Image.{Image}
use Rattle.state.specs.State.{State, StateOutcome}
use Rattle.runs.specs.Run.{RunOutcome, run}
use Rattle.rebinding.specs.Rebind.{rebind_verdict, rebind_on, rebind}
use Rattle.agreement.specs.Agreement.{Runner, Rebinder, output_of, CallInput, to_run, to_rebind, CallOutput, by_run, by_rebinding}
use Rattle.agreement.specs.Agreement.{call_outputs}
use Rattle.agreement.proofs.Images.{run_image, rebind_image, run-image}
use Rattle.bench.specs.SwapSlips.{Swapper, checked, rebind_by}
use Rattle.bench.proofs.Tables.{Holds}

pub rebind-image : {image : List ℕ} {i : Image} → Holds image i → (s : State) (h k : ℕ) → rebind image s h k ≡ rebind_image i s h k
unfolding rebind
rebind-image known s h k =
    ap₂ (λ (v : Verdict) (j : Image). rebind_on (next v λ _. rebind_verdict j s h k) s h k) known.passes known.decodes

-- ---- rebindings as the definition has them, but for what is done after the image check
pub rebind-by : {image : List ℕ} {i : Image} → Holds image i → (f : Swapper) (s : State) (h k : ℕ) → rebind_by f image s h k ≡ f i s h k
rebind-by known f s h k = ap₂ (λ (v : Verdict) (j : Image). checked v s (f j s h k)) known.passes known.decodes

-- ---- lists of calls
-- runs and rebindings that are alike on an image hand back alike
module _ (image : List ℕ) (run run' : Runner) (rebind rebind' : Rebinder) where
  pub chain-alike : ((s : State) (ws ms ks : List ℕ) → run image s ws ms ks ≡ run' image s ws ms ks)
      → ((s : State) (h k : ℕ) → rebind image s h k ≡ rebind' image s h k)
      → (s : State) (given : List CallInput) → call_outputs run rebind image s given ≡ call_outputs run' rebind' image s given
  unfolding call_outputs
  chain-alike e d s [] = refl
  chain-alike e d s (to_run a ∷ rest) =
      ap (λ (r : RunOutcome). by_run (output_of r) ∷ call_outputs run rebind image r.state rest) (e s a.words a.masks a.codes)
      ∙ ap (λ (l : List CallOutput). by_run (output_of (run' image s a.words a.masks a.codes)) ∷ l)
      (chain-alike e d (run' image s a.words a.masks a.codes).state rest)
  chain-alike e d s (to_rebind h k ∷ rest) =
      ap (λ (r : StateOutcome). by_rebinding r.reply ∷ call_outputs run rebind image r.state rest) (d s h k)
      ∙ ap (λ (l : List CallOutput). by_rebinding (rebind' image s h k).reply ∷ l) (chain-alike e d (rebind' image s h k).state rest)

pub chain-image : {image : List ℕ} {i : Image} → Holds image i → (s : State) (given : List CallInput)
    → call_outputs run rebind image s given ≡ call_outputs (λ t. run_image i) (λ t. rebind_image i) image s given
chain-image {image} {i} known = grind (arith, common_steps, run-image, rebind-image, chain-alike)
