-- What the functions that find a cause ask of a prepared table and promise.
use Rattle.std.specs.Prelude.{ℕ, ◌+◌, ◌-◌, ◌≤◌, ◌≡◌, List, length, flat_map}
use Rattle.words.specs.lists.Numbers.{range}
use Rattle.text.specs.declared.frames.refusals.TheConstants.{UNFIT}
use Rattle.text.specs.frames.Verdict.{when}
use Rattle.image.specs.Decode.{last_label, rows_from}
use Rattle.image.specs.inner.Sound.{SoundImage}
use Rattle.tables.specs.Table.{first_on, rows_on, table_image}
use Rattle.state.specs.State.{State}
use Rattle.fitness.specs.Fitness.{is_unfit}
use Rattle.cause.specs.Cause.{Leaving, leaves_label, nothing, cause_of, CauseOutcome, cause_on}

-- the bytes of a table with a sound image, whose rows stand in the order of their labels:
-- before the first row of a label stand those of the labels below it
pub record Ordered (b : List ℕ) : Type 0 where
  pub sound : SoundImage (table_image b)
  pub starts : (l : ℕ) → 2 ≤ l → l ≤ last_label b → first_on b l ≡ rows_from b + length (flat_map (rows_on b) (range 2 (l - 2)))

-- the label that a tick leaves as a number; label 0 has no row
abbrev pub leaving_number : Leaving → ℕ
leaving_number (leaves_label l) = l
leaving_number nothing = 0

-- a cause on a prepared table: 15, 21 and 18
abbrev pub table_cause : List ℕ → State → ℕ → CauseOutcome
table_cause b s w = cause_on (when UNFIT (is_unfit (table_image b) s)) (λ _. cause_of (table_image b) s w)
