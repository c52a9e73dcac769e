-- What prices promise: a priced run is the run, its price is that of the masks written, and the sums stay small.
use Rattle.std.specs.Prelude.{ℕ, ◌*◌, ◌≤◌, ◌≡◌, List, length, take, slice_index}
use Rattle.text.specs.frames.Sizes.{WORDS}
use Rattle.text.specs.frames.Answer.{reply_count}
use Rattle.state.specs.State.{State}
use Rattle.state.specs.Kept.{view}
use Rattle.runs.specs.Run.{run}
use Rattle.prices.specs.Prices.{tick_price, hundredths, price}
use Rattle.prices.specs.priced_runs.PricedRun.{priced_run}
use Rattle.prices.specs.priced_runs.InPlace.{state_priced}
use Rattle.state.specs.declared.State.{State as Kept}

-- of at most 65,536 words it does all that a run does
abbrev pub DoesAll : Type 0
DoesAll =
    (t : List ℕ) (s : State) (prices words masks codes : List ℕ) → length words ≤ WORDS
    → (priced_run t s prices words masks codes).run ≡ run t s words masks codes

-- the price is that of the masks written, as many as the answer counts
abbrev pub ByTheMasks : Type 0
ByTheMasks =
    (t : List ℕ) (s : State) (prices words masks codes : List ℕ) → let r = priced_run t s prices words masks codes in
    r.price ≡ price prices (take (reply_count r.run.reply) r.run.masks)

-- the state that a priced run leaves stands for the one that the definition gives
abbrev pub PricedStateStands : Type 0
PricedStateStands =
    (t : List ℕ) (before : Kept) (prices words masks codes : List ℕ) → let r = (priced_run t (view before) prices words masks codes).run in
    view (state_priced words before r) ≡ r.state

-- by prices of 0 to 65,535 a tick costs at most 32 times as much, and ticks as often that as they are
abbrev pub TickMost : Type 0
TickMost = (prices : List ℕ) → ((j : ℕ) → slice_index prices j ≤ 65535) → (m : ℕ) → tick_price prices m ≤ 2097120

abbrev pub HundredthsMost : Type 0
HundredthsMost =
    (prices : List ℕ) → ((j : ℕ) → slice_index prices j ≤ 65535) → (masks : List ℕ) → hundredths prices masks ≤ 2097120 * length masks
