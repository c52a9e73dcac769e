-- A priced run: a run of at most 65,536 words, and the price of the masks that its ticks have.
use Rattle.std.specs.Prelude.{ℕ, Bool, List, length, nat_lt}
use Rattle.text.specs.frames.Sizes.{WORDS}
use Rattle.text.specs.declared.frames.refusals.TheConstants.{UNFIT, NO_ROOM, MANY_WORDS}
use Rattle.text.specs.frames.Frame.{contents}
use Rattle.text.specs.frames.Verdict.{Verdict, fine, refused, next, when}
use Rattle.image.specs.Decode.{decoded_image}
use Rattle.image.specs.Check.{image_verdict}
use Rattle.state.specs.State.{State}
use Rattle.fitness.specs.Fitness.{is_unfit}
use Rattle.runs.specs.Run.{MachineRun, ticks, RunOutcome, has_no_room, run_on}
use Rattle.prices.specs.Prices.{price}

-- more words than are priced
abbrev pub has_too_many_words : List ℕ → Bool
has_too_many_words words = nat_lt WORDS (length words)

-- what a run tries before 16, then 27, then 16
abbrev pub in_turn : Verdict → Bool → Bool → Bool → Verdict
in_turn first unfit many short =
    next first λ _.
    next (when UNFIT unfit) λ _.
    next (when MANY_WORDS many) λ _.
    when NO_ROOM short

unfoldable pub priced_verdict : List ℕ → State → List ℕ → List ℕ → List ℕ → Verdict
priced_verdict t s words masks codes =
    in_turn (image_verdict t) (is_unfit (decoded_image (contents t)) s) (has_too_many_words words) (has_no_room words masks codes)

-- the same where there are more words than are priced: 27 ends it
unfoldable pub many_verdict : List ℕ → State → Verdict
many_verdict t s = next (image_verdict t) λ _. next (when UNFIT (is_unfit (decoded_image (contents t)) s)) λ _. refused MANY_WORDS 0

pub record PricedOutcome : Type 0 where
  pub run : RunOutcome
  pub price : ℕ

-- in cents, of the finished ticks; 0 where a run is refused before its first
abbrev pub price_on : List ℕ → Verdict → (Unit {0} → MachineRun) → ℕ
price_on prices (refused k i) go = 0
price_on prices fine go = price prices (go tt).masks

unfoldable pub priced_run : List ℕ → State → List ℕ → List ℕ → List ℕ → List ℕ → PricedOutcome
priced_run t s prices words masks codes =
    let v = priced_verdict t s words masks codes in
    let go : Unit {0} → MachineRun = λ _. ticks (decoded_image (contents t)) s words in
    record { run = run_on v go s masks codes; price = price_on prices v go }
