-- The chart whose call no words lead to: it goes from home to its first condition and back, whatever the words and the bindings.
use Rattle.std.proofs.Common.{if◌then◌else◌, ℕ, suc, Bool, false, ◌≡◌, refl, sym, ◌∙◌, ap, subst, List, [], ◌∷◌, length, arith, ◌==◌, inl, inr}
use Rattle.std.proofs.lemmas.Grind.{common_steps}
use Rattle.words.proofs.lists.Tests.{cases}
use Rattle.words.specs.lists.Numbers.{lowest, any, count, sum, highest}
use Rattle.std.specs.List.{AllByRecursion}
use Rattle.std.specs.Int.{bit_at}
use Rattle.results.specs.Results.{Results, no_results}
use Rattle.words.specs.graph.Reach.{reach}
use Rattle.text.specs.digits.Digit.{digit_of, char_of}
use Rattle.text.specs.frames.Frame.{contents, total, frame_text, text_of}
use Rattle.text.specs.frames.Answer.{success}
use Rattle.text.specs.frames.Check.{has_bad_form, has_bad_sum, text_verdict}
use Rattle.charts.specs.Chart.{handler, node_of}
use Rattle.charts.specs.Check.{has_bad_field, chart_verdict}
use Rattle.charts.specs.Entry.{read_verdict}
use Rattle.walk.specs.Stops.{is_stop, start, next_stop, by_word, stop_at}
use Rattle.walk.specs.Walk.{Signal, Tick, is_drop}
use Rattle.walk.proofs.Trace.{opens, WalkPosition, at, tick_at, move, trace, position_at_home}
use Rattle.walk.proofs.Recursion.{walk-trace}
use Rattle.chart_rows.specs.Labels.{label}
use Rattle.chart_rows.specs.Rows.{paths, rows_of, rows}
use Rattle.translator.specs.Entry.{translate_verdict}
use Rattle.places.specs.chains.Calls.{is_caller, is_circular, ends_of, places}
use Rattle.places.specs.Entry.{places_verdict, places_needed}
use Rattle.agreement.specs.Agreement.{is_full_call, bound}
use Rattle.agreement.proofs.Bounds.{bound-go, bound-le}
use Rattle.enough.specs.Smaller.{chart_never, Smaller}
use Rattle.enough.proofs.Made.{expected-made}

-- what the computation opens
unfoldable accepting : Unit {0}
unfolding lowest any count sum highest reach digit_of char_of contents total frame_text text_of has_bad_form
    has_bad_sum text_verdict
accepting = tt

unfoldable counting : Unit {0}
unfolding accepting handler node_of has_bad_field chart_verdict read_verdict is_stop start label paths
    rows_of rows translate_verdict is_caller is_circular ends_of places
counting = tt

number-2 : places_needed (text_of chart_never) ≡ success 2
unfolding counting places_verdict places_needed
number-2 = refl

-- ---- from the first condition every word leads to End
leads-home : (w : ℕ) → by_word chart_never w 1 ≡ 4
unfolding next_stop is_stop node_of lowest
leads-home w = elim (cases (bit_at w 0 == 0)) [
  | inl e ↦ ap (λ (t : Bool). next_stop 7 chart_never w (if t then 4 else 2)) e
  | inr e ↦ ap (λ (t : Bool). next_stop 7 chart_never w (if t then 4 else 2)) e ∙ ap (λ (t : Bool). next_stop 6 chart_never w (if t then 3 else 4)) e
]

-- ---- so that it is at one of two positions, and calls at neither
pub data Quiet : WalkPosition → Type 0 where
  homes : {b : Results} → Quiet (at (opens 4 1 1) [] b false)
  tests : {b : Results} → Quiet (at (opens 1 1 1) [] b false)

quiet-tick : (x : WalkPosition) → Quiet x → (is_full_call 1 (tick_at 1 chart_never x) ≡ false) × (is_drop (tick_at 1 chart_never x) ≡ false)
unfolding stop_at handler highest
quiet-tick x homes = (refl, refl)
quiet-tick x tests = (refl, refl)

quiet-move : (w : Signal) (x : WalkPosition) → Quiet x → Quiet (move 1 chart_never w x)
unfolding stop_at start is_stop node_of lowest
quiet-move w x homes = tests
quiet-move w x (tests {b}) = subst (λ (v : ℕ). Quiet (at (opens v 1 1) [] b false)) (sym (leads-home w.word)) homes

quiet-trace : (ws : List Signal) (x : WalkPosition) → Quiet x
    → (bound 1 (trace 1 chart_never ws x) ≡ length ws) × AllByRecursion (λ (t : Tick). is_drop t ≡ false) (trace 1 chart_never ws x)
unfolding trace bound
quiet-trace [] x q = (refl, tt)
quiet-trace (w ∷ ws) x q =
    let k = quiet-tick x q in
    let r = quiet-trace ws (move 1 chart_never w x) (quiet-move w x q) in
    (bound-go 1 (tick_at 1 chart_never x) (trace 1 chart_never ws (move 1 chart_never w x)) k.0 ∙ ap suc r.0, (k.1, r.1))

first-quiet : Quiet (position_at_home chart_never no_results)
unfolding node_of lowest
first-quiet = homes

pub smaller : Smaller
smaller = grind (arith, common_steps, bound-le, walk-trace, expected-made, position_at_home, number-2, quiet-trace, first-quiet)
