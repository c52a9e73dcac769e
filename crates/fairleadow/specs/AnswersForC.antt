-- What C is told of an answer.
use Rattle.std.specs.Prelude.{ℕ, ◌≡◌, List}
use Rattle.text.specs.frames.Answer.{Reply, reply_number, reply_index, reply_count, BufferOutcome}

-- the number returned, and the index and the count written, are those of the reply
pub record GivesReplyC (x : Reply) (returned at made : ℕ) : Type 0 where
  pub number-is : returned ≡ reply_number x
  pub index-is : at ≡ reply_index x
  pub count-is : made ≡ reply_count x

-- a call with one lent buffer
pub record GivesBufferC (x : BufferOutcome) (returned at made : ℕ) (after : List ℕ) : Type 0 where
  pub told : GivesReplyC x.reply returned at made
  pub written : after ≡ x.buffer
