-- Runs with another tick in the place of the machine's.
use Rattle.std.specs.Prelude.{ℕ, ◌-◌, List, [], ◌∷◌}
use Rattle.text.specs.frames.Verdict.{fine}
use Rattle.text.specs.frames.Frame.{contents}
use Rattle.image.specs.Image.{Image}
use Rattle.image.specs.Decode.{decoded_image}
use Rattle.state.specs.State.{State, number_at}
use Rattle.ticks.specs.Tick.{MachineTick}
use Rattle.runs.specs.Run.{MachineRun, run_after, run_verdict, run_on}
use Rattle.agreement.specs.Agreement.{Runner}

abbrev pub StepRule : Type 0
StepRule = Image → State → ℕ → MachineTick

unfoldable pub ticks_by_rule : StepRule → Image → State → List ℕ → MachineRun
ticks_by_rule step i s [] = record { masks = []; codes = []; state = s; verdict = fine }
ticks_by_rule step i s (w ∷ ws) = run_after s (λ t. ticks_by_rule step i t ws) (step i s w)

-- a run as the definition has it, but for the tick
abbrev pub run_by : StepRule → Runner
run_by step text s words masks codes =
    run_on (run_verdict text s words masks codes) (λ _. ticks_by_rule step (decoded_image (contents text)) s words) s masks codes

-- the number that the scheme at the top was called by
abbrev pub top_number : State → ℕ
top_number s = number_at s (s.depth - 1)
