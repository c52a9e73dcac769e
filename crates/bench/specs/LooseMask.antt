-- A translated chart where the mask of a cause has a condition more than the care mask of the row taken, which alone decides that row.
use Rattle.std.specs.Prelude.{ℕ, ◌≡◌, List, [], ◌∷◌}
use Rattle.text.specs.frames.Frame.{contents}
use Rattle.text.specs.frames.Verdict.{fine}
use Rattle.image.specs.Image.{nth_row}
use Rattle.translator.specs.Table.{table}
use Rattle.translator.specs.Entry.{translate_verdict}
use Rattle.state.specs.State.{State, fresh}
use Rattle.state.specs.Changes.{with_place}
use Rattle.cause.specs.Cause.{because, cause_of}
use Rattle.bench.specs.Bench.{lines}

-- an operation, then condition 3: on 0 the End, on 1 condition 0 with an operation on either side
unfoldable pub chart_loose : List ℕ
chart_loose = lines (
    "00010001000000000000FE" ∷ "02010002000000000001FA" ∷ "03010305030000000000F1" ∷ "03010004060000000000F2"
    ∷ "02010005000000000002F6" ∷ "01010000000000000000FE" ∷ "02010005000000000004F4" ∷ [])

abbrev pub state_at_operation : State
state_at_operation = with_place (fresh 1) 0 2

-- with all conditions 0 the row cares for condition 3 alone; the mask has condition 0 besides, the lowest that contradicts the third row
pub record LooseMask : Type 0 where
  pub translated : translate_verdict chart_loose ≡ fine
  pub cause : cause_of (table (contents chart_loose)) state_at_operation 0 ≡ because (record { row = 0; mask = 9; bit = 2 })
  pub care : (nth_row (table (contents chart_loose)) 0).care ≡ 8
