-- A live call on a table that prepare wrote is the call on the image's text.
use Rattle.std.specs.Prelude.{ℕ, ◌≤◌, ◌≡◌, List, take}
use Rattle.text.specs.frames.Answer.{success}
use Rattle.tables.specs.Prepare.{prepare}
use Rattle.state.specs.State.{State}
use Rattle.runs.specs.Run.{run}
use Rattle.runs.specs.TickOutcome.{image_tick}
use Rattle.runs.specs.machine.Live.{live_run, live_tick}
use Rattle.rebinding.specs.Rebind.{rebind, live_rebind}

-- from every state, fitting or not, and whatever is asked
pub record ActsAs (text table : List ℕ) : Type 0 where
  pub runs : (s : State) (words masks codes : List ℕ) → live_run table s words masks codes ≡ run text s words masks codes
  pub ticks : (s : State) (word : ℕ) → live_tick table s word ≡ image_tick text s word
  pub rebinds : (s : State) (number scheme : ℕ) → live_rebind table s number scheme ≡ rebind text s number scheme

-- where prepare succeeds with n bytes, the first n or more of its buffer do, with or without what stands behind the table
unfoldable pub PreparedActs : Type 0
PreparedActs =
    (text before : List ℕ) (n : ℕ) → (prepare text before).reply ≡ success n → (k : ℕ) → n ≤ k
    → ActsAs text (take k (prepare text before).buffer)
