-- What success of the preparation says: the table written, with anything behind it, is none that 11 refuses and holds the text's own image.
use Rattle.std.specs.Prelude.{ℕ, ◌≤◌, false, ◌≡◌, List, length, take}
use Rattle.text.specs.frames.Frame.{contents}
use Rattle.text.specs.frames.Verdict.{fine}
use Rattle.text.specs.frames.Answer.{success}
use Rattle.image.specs.Decode.{decoded_image}
use Rattle.image.specs.Check.{image_verdict}
use Rattle.tables.specs.Prepare.{prepare}
use Rattle.tables.specs.Table.{is_bad_table, table_image}

pub record PreparedEntry (t old : List ℕ) (n : ℕ) : Type 0 where
  pub accepted : image_verdict t ≡ fine
  pub count : n ≡ length (contents t)
  pub room : n ≤ length old
  pub good : (m : ℕ) → n ≤ m → is_bad_table (take m (prepare t old).buffer) ≡ false
  pub image : (m : ℕ) → n ≤ m → table_image (take m (prepare t old).buffer) ≡ decoded_image (contents t)

abbrev pub PreparedOnSuccess : Type 0
PreparedOnSuccess = (t old : List ℕ) (n : ℕ) → (prepare t old).reply ≡ success n → PreparedEntry t old n
