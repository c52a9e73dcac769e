-- One tick as a controller calls it: what its refusals and its success leave, read off the definition by a run.
use Rattle.std.proofs.Common.{ℕ, ◌≡◌, List, [], ◌∷◌, arith}
use Rattle.std.proofs.lemmas.Grind.{common_steps}
use Rattle.text.specs.frames.Frame.{contents}
use Rattle.text.specs.frames.Verdict.{Verdict, fine, refused, next, when}
use Rattle.text.specs.frames.Answer.{success, refusal}
use Rattle.image.specs.Decode.{decoded_image}
use Rattle.image.specs.Check.{image_verdict}
use Rattle.state.specs.State.{State}
use Rattle.fitness.specs.Fitness.{is_unfit}
use Rattle.ticks.specs.Tick.{MachineTick, finished, stopped, tick}
use Rattle.runs.specs.Run.{RunOutcome, run, run_verdict, ticks}
use Rattle.runs.specs.TickOutcome.{TickOutcome, image_tick}

-- what a run tries but 16: one word has room in one place
abbrev pub verdict_before_16 : List ℕ → State → Verdict
verdict_before_16 t s = next (image_verdict t) λ _. when 15 (is_unfit (decoded_image (contents t)) s)

-- a refusal of any number counts 0 and leaves mask 0, code 0 and the state as it was
abbrev pub advance_by : State → Verdict → MachineTick → TickOutcome
advance_by s (refused k i) d = record { reply = refusal k i 0; mask = 0; code = 0; state = s }
advance_by s fine (stopped n) = record { reply = refusal n 0 0; mask = 0; code = 0; state = s }
advance_by s fine (finished m k s') = record { reply = success 1; mask = m; code = k; state = s' }

-- the whole run of one word, with what the one place of each buffer held before it
abbrev pub run_of_word : State → ℕ → ℕ → Verdict → MachineTick → RunOutcome
run_of_word s m₀ k₀ (refused n i) d = record { reply = refusal n i 0; state = s; masks = m₀ ∷ []; codes = k₀ ∷ [] }
run_of_word s m₀ k₀ fine (stopped n) = record { reply = refusal n 0 0; state = s; masks = m₀ ∷ []; codes = k₀ ∷ [] }
run_of_word s m₀ k₀ fine (finished m k s') = record { reply = success 1; state = s'; masks = m ∷ []; codes = k ∷ [] }

pub run-one : (t : List ℕ) (s : State) (w m₀ k₀ : ℕ)
    → run t s (w ∷ []) (m₀ ∷ []) (k₀ ∷ []) ≡ run_of_word s m₀ k₀ (verdict_before_16 t s) (tick (decoded_image (contents t)) s w)
unfolding run run_verdict ticks
run-one t s w m₀ k₀ = grind (arith, common_steps)

pub advance-by : (t : List ℕ) (s : State) (w : ℕ) → image_tick t s w
    ≡ advance_by s (verdict_before_16 t s) (tick (decoded_image (contents t)) s w)
unfolding image_tick
advance-by t s w = grind (arith, common_steps, run-one)

-- a run of one word over 0 and 0 hands back what the tick does
abbrev pub run_of_tick : TickOutcome → RunOutcome
run_of_tick x = record { reply = x.reply; state = x.state; masks = x.mask ∷ []; codes = x.code ∷ [] }

pub run-advance : (t : List ℕ) (s : State) (w : ℕ) → run t s (w ∷ []) (0 ∷ []) (0 ∷ []) ≡ run_of_tick (image_tick t s w)
run-advance t s w = grind (arith, common_steps, run-one, advance-by)
