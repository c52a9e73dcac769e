-- What success of the entry point says: the image is accepted, the state fits it, and what is reported is the cause, so that the laws
-- speak of it.
use Rattle.std.proofs.Common.{ℕ, Bool, true, false, ◌≡◌, refl, List}
use Rattle.text.specs.frames.Frame.{contents}
use Rattle.text.specs.frames.Verdict.{Verdict, fine, refused, next, when}
use Rattle.text.specs.frames.Answer.{success}
use Rattle.text.proofs.frames.Chains.{no-success}
use Rattle.image.specs.Decode.{decoded_image}
use Rattle.image.specs.Check.{image_verdict}
use Rattle.state.specs.State.{State, Sized}
use Rattle.fitness.specs.Fitness.{is_unfit}
use Rattle.cause.specs.Cause.{Caused, because, unexplained, CauseOutcome, cause_on, cause_of, explain}
use Rattle.cause.specs.Laws.{Explains, CauseTold}

-- the image check's verdict, whether the state is unfit, and the cause found
abbrev answer : Verdict → Bool → Caused → CauseOutcome
answer v u x = cause_on (next v λ _. when 15 u) (λ _. x)

record Succeeded (v : Verdict) (u : Bool) (x : Caused) (n : ℕ) : Type 0 where
  passes : v ≡ fine
  fits : u ≡ false
  told : x ≡ because (answer v u x).cause
  none : n ≡ 0

succeeded : (v : Verdict) (u : Bool) (x : Caused) (n : ℕ) → (answer v u x).reply ≡ success n → Succeeded v u x n
succeeded (refused k i) u x n e = no-success k i 0 n e
succeeded fine true x n e = no-success 15 0 0 n e
succeeded fine false (unexplained k) n e = no-success k 0 0 n e
succeeded fine false (because c) n e = record { passes = refl; fits = refl; told = refl; none = cc }

module _ (t : List ℕ) (s : State) (w n : ℕ) where
  succeeds : (explain t s w).reply ≡ success n
      → Succeeded (image_verdict t) (is_unfit (decoded_image (contents t)) s) (cause_of (decoded_image (contents t)) s w) n
  unfolding explain
  succeeds e = succeeded (image_verdict t) (is_unfit (decoded_image (contents t)) s) (cause_of (decoded_image (contents t)) s w) n e

  pub answered : Sized s → (explain t s w).reply ≡ success n → Explains t s w (explain t s w).cause
  unfolding explain
  answered h e = let x = succeeds e in record { fitting = record { accepted = x.passes; sized = h; fits = x.fits }; because = x.told }

pub cause-told : CauseTold
unfolding CauseTold
cause-told = answered
