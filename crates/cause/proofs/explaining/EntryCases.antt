-- A cause over an image: it is refused, or the cause is that on the table it is prepared to.
use Rattle.std.proofs.Common.{ℕ, ◌≡◌, sym, subst, List, Err, arith}
use Rattle.std.proofs.lemmas.Grind.{common_steps}
use Rattle.text.specs.frames.Answer.{reply, verdict_reply}
use Rattle.text.specs.declared.frames.refusals.Refusal.{Refusal}
use Rattle.image.specs.Check.{image_verdict}
use Rattle.image.specs.inner.Sound.{SoundImage}
use Rattle.image.proofs.Accepted.{image-sound}
use Rattle.tables.proofs.Made.{MadeTable}
use Rattle.state.specs.State.{State}
use Rattle.cause.specs.Cause.{explain, GivesCause}
use Rattle.cause.specs.inner.TableCauses.{Ordered, table_cause}

pub image-ordered : (t b : List ℕ) → MadeTable t b → Ordered b
image-ordered t b made = record {
  sound =
      subst SoundImage (sym made.holds) (image-sound t made.accepted);
  starts = made.starts;
}

module _ (t : List ℕ) (s : State) (w : ℕ) where
  pub image-untold : (r : Refusal) → reply (Err r) ≡ verdict_reply (image_verdict t) 0 → GivesCause (explain t s w) (Err r)
  unfolding explain
  image-untold r gives = grind (arith, common_steps)

  pub image-explained : (b : List ℕ) → MadeTable t b → explain t s w ≡ table_cause b s w
  unfolding explain
  image-explained b made = grind (arith, common_steps)
