-- The agreement with no rebinding in the list, over the walk of words alone.
-- Only the laws of runs alone speak of it.
use Rattle.std.specs.Prelude.{ℕ, ◌+◌, ◌≤◌, true, false, ◌≡◌, List, [], ◌∷◌, length, take, if◌then◌else◌, flat_map}
use Rattle.text.specs.frames.Frame.{contents}
use Rattle.text.specs.frames.Answer.{success}
use Rattle.charts.specs.Chart.{Chart}
use Rattle.walk.specs.Walk.{Tick}
use Rattle.walk.specs.Unswapped.{walk}
use Rattle.state.specs.declared.layout.TheConstants.{PLACES}
use Rattle.state.specs.State.{State}
use Rattle.agreement.specs.Agreement.{Translator, Maker, Runner, Rebinder, RunInput, RunOutput, output_of, is_short, bound}
use Rattle.agreement.specs.Agreement.{expected_output, output_refused_short, Translates, Agreement}

-- each run is given the image, and the state that the one before handed back
unfoldable pub run_outputs : Runner → List ℕ → State → List RunInput → List RunOutput
run_outputs run image s [] = []
run_outputs run image s (a ∷ rest) = let r = run image s a.words a.masks a.codes in
    output_of r ∷ run_outputs run image r.state rest

abbrev pub joined_run_words : List RunInput → List ℕ
joined_run_words = flat_map (λ a. if is_short a then [] else a.words)

unfoldable pub expected_runs : ℕ → List Tick → ℕ → List RunInput → List RunOutput
expected_runs b ts p [] = []
expected_runs b ts p (a ∷ rest) = elim (is_short a) [
  | true ↦ output_refused_short a ∷ expected_runs b ts p rest
  | false ↦ expected_output b ts p a ∷ expected_runs b ts (p + length a.words) rest
]

abbrev pub walk_runs : ℕ → Chart → List RunInput → List RunOutput
walk_runs size c asked = let ticks = walk size c (joined_run_words asked) in expected_runs (bound size ticks) ticks 0 asked

unfoldable pub RunAgreement : Translator → Maker → Runner → Type 0
RunAgreement translator fresh run =
    (text out : List ℕ) (n : ℕ) → (translator text out).reply ≡ success n
    → (size : ℕ) → 1 ≤ size → size ≤ PLACES → (asked : List RunInput)
    → run_outputs run (take n (translator text out).buffer) (fresh size).state asked ≡ walk_runs size (contents text) asked

-- whatever has the agreement has it so
abbrev pub AgreementAlone : Type 0
AgreementAlone =
    (translator : Translator) (fresh : Maker) (run : Runner) (rebind : Rebinder) → Translates translator
    → Agreement translator fresh run rebind → RunAgreement translator fresh run
