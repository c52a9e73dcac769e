-- The second block of the bore test meets what the laws of functions ask, of the walk and of the machine: between call and return nothing
-- writes 1, and the 0 arc, or the row for bit 0, is taken.
use Rattle.std.proofs.Common.{◌≡◌, refl, true, false, List, [], ◌∷◌, ◌++◌, ℕ, take}
use Rattle.text.specs.frames.Frame.{contents}
use Rattle.text.specs.frames.Verdict.{fine}
use Rattle.charts.specs.Chart.{next0}
use Rattle.charts.specs.Entry.{read_verdict}
use Rattle.walk.specs.Stops.{by_arc}
use Rattle.bindings.specs.Binding.{own_binding}
use Rattle.walk.specs.Walk.{signals, Tick, walk}
use Rattle.walk.specs.Functions.{is_walk_write_of_one, WalkUnwritten, ZeroArc}
use Rattle.walk.proofs.Functions.{zero-arc}
use Rattle.std.specs.List.{list_any}
use Rattle.image.specs.Decode.{decoded_image}
use Rattle.state.specs.State.{fresh, Sized}
use Rattle.fitness.specs.Fitness.{is_unfit}
use Rattle.ticks.specs.Tick.{finished, tick}
use Rattle.ticks.specs.Functions.{MachineUnwritten, none, more, ZeroRow}
use Rattle.ticks.proofs.Functions.{zero-row}
use Rattle.runs.specs.Run.{ticks}
use Rattle.bench.specs.Bench.{chart_bore, bore_words, tick_of}
use Rattle.bench.proofs.Computing.{walking, running}
use Rattle.bench.proofs.Tables.{image_bore, of-bore}
use Rattle.bench.proofs.Rounds.{two_places}

-- ---- the walk
abbrev first_block : List Tick
first_block = tick_of 4 1 0 4 1 ∷ tick_of 1 1 0 66 1 ∷ tick_of 5 2 0 0 2 ∷ tick_of 7 2 0 0
    2 ∷ tick_of 8 2 0 3 2 ∷ tick_of 3 1 1 0 1 ∷ tick_of 4 1 0 4 1 ∷ []

bore-walk : walk 2 (contents chart_bore) (signals own_binding bore_words)
    ≡ first_block ++ (tick_of 1 1 0 66 1 ∷ ((tick_of 5 2 0 0 2 ∷ [])
    ++ (tick_of 8 2 0 3 2 ∷ (tick_of 2 1 2 0 1 ∷ (tick_of 4 1 0 4 1 ∷ [])))))
unfolding walking chart_bore bore_words
bore-walk = refl

bore-unwritten : WalkUnwritten (contents chart_bore) (tick_of 1 1 0 66 1) (tick_of 5 2 0 0 2 ∷ []) (tick_of 8 2 0 3 2)
unfolding walking chart_bore
bore-unwritten = record { function = refl; made = refl; kept = refl; inside = refl; own = refl; unwritten = refl }

bore-read : read_verdict chart_bore ≡ fine
unfolding walking chart_bore
bore-read = refl

pub bore-says-no : ◌≡◌ {A = ℕ} 2 (by_arc (contents chart_bore) 0 (next0 (contents chart_bore) 1))
unfolding ZeroArc bore_words
bore-says-no =
    zero-arc chart_bore bore-read 2 (signals own_binding bore_words)
    first_block (tick_of 5 2 0 0 2 ∷ []) (tick_of 4 1 0 4 1 ∷ []) (tick_of 1 1 0 66 1) (tick_of 8 2 0 3 2) (tick_of 2 1 2 0 1)
    bore-walk bore-unwritten

-- in the first block the operation of scheme 2, called by number 2, does write 1
pub bore-writes : list_any (is_walk_write_of_one (contents chart_bore) 2) first_block ≡ true
unfolding walking chart_bore
bore-writes = refl

-- ---- the machine with two places
-- before the second call the first block's 1 still stands
bore-before : (ticks (decoded_image (contents image_bore)) (fresh 2) (take 7 bore_words)).state ≡ two_places 2 1 2 0 true
unfolding running image_bore bore_words
bore-before = refl

bore-fits : is_unfit (decoded_image (contents image_bore)) (two_places 2 1 2 0 true) ≡ false
unfolding running image_bore
bore-fits = refl

bore-sized : Sized (two_places 2 1 2 0 true)
bore-sized = record { places = refl; serving = refl; numbers = refl; servers = refl }

bore-unwritten-ticks : MachineUnwritten (decoded_image (contents image_bore)) 2 2 (two_places 2 2 2 5 false) (two_places 2 2 2 1 false)
unfolding running image_bore
bore-unwritten-ticks = more 0 refl refl refl refl none

pub bore-takes-zero : tick (decoded_image (contents image_bore)) (two_places 2 2 2 1 false) 0 ≡ finished 0 3 (two_places 2 1 3 0 false)
unfolding ZeroRow running image_bore
bore-takes-zero =
    zero-row image_bore of-bore.passes (two_places 2 1 2 0 true) bore-sized bore-fits refl 0 0
    66 (two_places 2 2 2 5 false) (two_places 2 2 2 1 false) refl refl
    bore-unwritten-ticks refl 0
