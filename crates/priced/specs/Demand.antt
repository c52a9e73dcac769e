-- The agreement with prices: what a list of runs, rebindings and priced runs hands back, against what the walk of the joined words gives.
use Rattle.std.specs.Prelude.{ℕ, ◌+◌, ◌-◌, ◌≤◌, min, true, false, ◌||◌, ◌≡◌, List, [], ◌∷◌, ◌++◌, map, length, take, drop, if◌then◌else◌}
use Rattle.bindings.specs.Binding.{Binding, own_binding}
use Rattle.text.specs.declared.frames.refusals.TheConstants.{MANY_WORDS}
use Rattle.text.specs.frames.Frame.{contents}
use Rattle.text.specs.frames.Answer.{success, refusal}
use Rattle.charts.specs.Chart.{Chart}
use Rattle.walk.specs.Walk.{Signal, signals, Tick, walk}
use Rattle.state.specs.declared.layout.TheConstants.{PLACES}
use Rattle.state.specs.State.{State}
use Rattle.prices.specs.Prices.{price}
use Rattle.prices.specs.priced_runs.PricedRun.{has_too_many_words, PricedOutcome}
use Rattle.agreement.specs.Agreement.{Translator, Maker, Runner, Rebinder, RunInput, RunOutput, output_of}
use Rattle.agreement.specs.Agreement.{CallInput, to_run, to_rebind, CallOutput, by_run, by_rebinding}
use Rattle.agreement.specs.Agreement.{is_short, binding_after, bound, expected_output, output_refused_short, reply_to}

abbrev pub Pricer : Type 0
Pricer = List ℕ → State → List ℕ → List ℕ → List ℕ → List ℕ → PricedOutcome

-- what a call of the list is given: it is a run or a rebinding, or a run with a price list
pub data PricedInput : Type 0 where
  unpriced : CallInput → PricedInput
  to_priced_run : List ℕ → RunInput → PricedInput

-- and what it hands back; a priced run also the price
pub data PricedOutput : Type 0 where
  by_unpriced : CallOutput → PricedOutput
  by_priced_run : RunOutput → ℕ → PricedOutput

-- each call is handed the image, and the state that the one before returned
unfoldable pub priced_outputs : Pricer → Runner → Rebinder → List ℕ → State → List PricedInput → List PricedOutput
priced_outputs pricer run rebind image s [] = []
priced_outputs pricer run rebind image s (unpriced (to_run a) ∷ rest) =
    let r = run image s a.words a.masks a.codes in
    by_unpriced (by_run (output_of r)) ∷ priced_outputs pricer run rebind image r.state rest
priced_outputs pricer run rebind image s (unpriced (to_rebind h k) ∷ rest) =
    let r = rebind image s h k in by_unpriced (by_rebinding r.reply) ∷ priced_outputs pricer run rebind image r.state rest
priced_outputs pricer run rebind image s (to_priced_run list a ∷ rest) =
    let r = pricer image s list a.words a.masks a.codes in
    by_priced_run (output_of r.run) r.price ∷ priced_outputs pricer run rebind image r.run.state rest

-- ---- what the walk gives
-- the words of all runs, but of those that 16 or 27 refuses
unfoldable pub joined_priced_words : Chart → Binding → List PricedInput → List Signal
joined_priced_words c s [] = []
joined_priced_words c s (unpriced (to_run a) ∷ rest) = (if is_short a then [] else signals s a.words) ++ joined_priced_words c s rest
joined_priced_words c s (unpriced (to_rebind h k) ∷ rest) = joined_priced_words c (binding_after c h k s) rest
joined_priced_words c s (to_priced_run list a ∷ rest) =
    (if has_too_many_words a.words || is_short a then [] else signals s a.words) ++ joined_priced_words c s rest

-- the ticks of the walk that fall on words from p on and come before tick b
abbrev pub ticks_falling_on : ℕ → List Tick → ℕ → List ℕ → List Tick
ticks_falling_on b ts p words = take (min (p + length words) b - min p b) (drop p ts)

abbrev pub output_refused_many : RunInput → RunOutput
output_refused_many a = record { reply = refusal MANY_WORDS 0 0; masks = a.masks; codes = a.codes }

-- the price of a run is that of its ticks of the walk
unfoldable pub expected_priced_outputs : Chart → ℕ → List Tick → ℕ → List PricedInput → List PricedOutput
expected_priced_outputs c b ts p [] = []
expected_priced_outputs c b ts p (unpriced (to_run a) ∷ rest) = elim (is_short a) [
  | true ↦ by_unpriced (by_run (output_refused_short a)) ∷ expected_priced_outputs c b ts p rest
  | false ↦ by_unpriced (by_run (expected_output b ts p a)) ∷ expected_priced_outputs c b ts (p + length a.words) rest
]
expected_priced_outputs c b ts p (unpriced (to_rebind h k) ∷ rest) =
    by_unpriced (by_rebinding (reply_to c h k)) ∷ expected_priced_outputs c b ts p rest
expected_priced_outputs c b ts p (to_priced_run list a ∷ rest) = elim (has_too_many_words a.words) [
  | true ↦ by_priced_run (output_refused_many a) 0 ∷ expected_priced_outputs c b ts p rest
  | false ↦ elim (is_short a) [
    | true ↦ by_priced_run (output_refused_short a) 0 ∷ expected_priced_outputs c b ts p rest
    | false ↦ by_priced_run (expected_output b ts p a) (price list (map (λ (t : Tick). t.mask) (ticks_falling_on b ts p a.words)))
        ∷ expected_priced_outputs c b ts (p + length a.words) rest
  ]
]

abbrev pub priced_walk_outputs : ℕ → Chart → List PricedInput → List PricedOutput
priced_walk_outputs size c given = let ticks = walk size c (joined_priced_words c own_binding given) in
    expected_priced_outputs c (bound size ticks) ticks 0 given

-- ---- the demand
unfoldable pub PricedAgreement : Translator → Maker → Pricer → Runner → Rebinder → Type 0
PricedAgreement translator fresh pricer run rebind =
    (text out : List ℕ) (n : ℕ) → (translator text out).reply ≡ success n
    → (size : ℕ) → 1 ≤ size → size ≤ PLACES → (given : List PricedInput)
    → priced_outputs pricer run rebind (take n (translator text out).buffer) (fresh size).state given
    ≡ priced_walk_outputs size (contents text) given
