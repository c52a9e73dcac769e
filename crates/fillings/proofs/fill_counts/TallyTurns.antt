-- Tallies of lists that begin with one word.
use Rattle.std.proofs.Common.{ℕ, ◌≡◌, sym}
use Rattle.image.specs.Image.{Image}
use Rattle.state.specs.State.{State}
use Rattle.ticks.specs.Tick.{MachineTick}
use Rattle.fillings.specs.declared.fill_counts.Tally.{Tally}
use Rattle.fillings.specs.inner.TallyContracts.{tally_of, all_meet}
use Rattle.fillings.proofs.fill_counts.Shares.{share, meeting-none}

pub same-tally : {e e' f f' u u' : ℕ} → e ≡ e' → f ≡ f' → u ≡ u'
    → ◌≡◌ {A = Tally} (record { ended = e; full = f; unmatched = u }) (record { ended = e'; full = f'; unmatched = u' })
same-tally p q r = λ j. record { ended = p j; full = q j; unmatched = r j }

-- ---- what the lists that begin with one word add
abbrev pub share_of : Image → ℕ → ℕ → MachineTick → Tally
share_of i n k x = record { ended = share i n k 0 x; full = share i n k 17 x; unmatched = share i n k 18 x }

pub tally-none : (i : Image) (s : State) (k : ℕ) → all_meet 0 1 ≡ tally_of i s 0 k
tally-none i s k = sym (same-tally (meeting-none i s k 0) (meeting-none i s k 17) (meeting-none i s k 18))
