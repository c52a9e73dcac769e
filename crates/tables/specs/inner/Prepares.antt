-- What the function that prepares a table in scratch space promises.
use Rattle.std.specs.Prelude.{ℕ, ◌≡◌, List}
use Rattle.words.specs.lists.Sequences.{over}
use Rattle.text.specs.declared.frames.sizes.TheConstants.{IMAGE_TEXT}
use Rattle.text.specs.frames.Frame.{contents}
use Rattle.text.specs.frames.Verdict.{fine, refused}
use Rattle.text.specs.frames.Read.{read_buffer}
use Rattle.text.specs.frames.Answer.{Answer, reply, verdict_reply}
use Rattle.image.specs.Check.{image_verdict}
use Rattle.tables.specs.Prepare.{noted_table}

-- what a buffer with room for any table then holds: the table in front where the text is accepted, and else what was read
unfoldable pub prepared_buffer : List ℕ → List ℕ → List ℕ
prepared_buffer t old = elim (image_verdict t) [ fine ↦ over (noted_table (contents t)) old | refused k i ↦ read_buffer IMAGE_TEXT t old ]

pub record GivesPrepared (t old : List ℕ) (answer : Answer) (after : List ℕ) : Type 0 where
  pub answered : reply answer ≡ verdict_reply (image_verdict t) 0
  pub written : after ≡ prepared_buffer t old
