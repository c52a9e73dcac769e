-- What a state stands for after a rebinding in place is the state that the rebinding hands back.
use Rattle.std.proofs.Common.{if◌then◌else◌, ℕ, ◌≡◌, refl, Bool, true, false, ◌==◌}
use Rattle.text.specs.frames.Verdict.{Verdict, fine, refused}
use Rattle.text.specs.frames.Answer.{reply_number}
use Rattle.state.specs.declared.State.{State as Kept}
use Rattle.state.specs.Kept.{view, stored}
use Rattle.state.proofs.Stored.{state-back}
use Rattle.rebinding.specs.Rebind.{rebind_on, rebinding}

pub rebinding-held : (s : Kept) (h k : ℕ) (v : Verdict)
    → let x = rebind_on v (view s) h k in view (if reply_number x.reply == 0 then stored x.state else s) ≡ x.state
rebinding-held s h k fine = state-back (rebinding h k (view s))
rebinding-held s h k (refused n j) = go (n == 0)
  where
    go : (t : Bool) → view (if t then stored (view s) else s) ≡ view s
    go true = state-back (view s)
    go false = refl
