-- A chart that needs two places by its calls, while no words lead to the call: one place does.
use Rattle.std.specs.Prelude.{◌≡◌, List, [], ◌∷◌, ◌++◌}
use Rattle.text.specs.frames.Frame.{text_of}
use Rattle.text.specs.frames.Answer.{success}
use Rattle.charts.specs.Chart.{Chart}
use Rattle.places.specs.Entry.{places_needed}
use Rattle.agreement.specs.Agreement.{CallInput, walk_outputs}
use Rattle.enough.specs.Enough.{AllMade}

-- condition 0 is tested twice by one word; the call of scheme 2 stands on the 1 side and then on the 0 side
abbrev pub chart_never : Chart
chart_never =
    (0 ∷ 1 ∷ 0 ∷ 1 ∷ 0 ∷ 0 ∷ 0 ∷ 0 ∷ 0 ∷ 0 ∷ []) ++ (3 ∷ 1 ∷ 0 ∷ 4 ∷ 2 ∷ 0 ∷ 0 ∷ 0 ∷ 0 ∷ 0 ∷ [])
    ++ (3 ∷ 1 ∷ 0 ∷ 3 ∷ 4 ∷ 0 ∷ 0 ∷ 0 ∷ 0 ∷ 0 ∷ []) ++ (2 ∷ 1 ∷ 2 ∷ 4 ∷ 0 ∷ 0 ∷ 0 ∷ 0 ∷ 0 ∷ 1 ∷ [])
    ++ (1 ∷ 1 ∷ 0 ∷ 0 ∷ 0 ∷ 0 ∷ 0 ∷ 0 ∷ 0 ∷ 0 ∷ []) ++ (0 ∷ 2 ∷ 0 ∷ 6 ∷ 0 ∷ 0 ∷ 0 ∷ 0 ∷ 0 ∷ 0 ∷ [])
    ++ (1 ∷ 2 ∷ 0 ∷ 0 ∷ 0 ∷ 0 ∷ 0 ∷ 0 ∷ 0 ∷ 0 ∷ [])

-- its number is 2, and with one place every run of any list makes a tick for every word, whatever the rebindings
pub record Smaller : Type 0 where
  pub number : places_needed (text_of chart_never) ≡ success 2
  pub one : (given : List CallInput) → AllMade chart_never given (walk_outputs 1 chart_never given)
