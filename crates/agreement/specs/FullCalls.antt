-- Which calls find as many schemes open as there are places and are made, so that a machine refuses them: by the walk's own recursion.
use Rattle.std.specs.Prelude.{ℕ, ◌<◌, Bool, true, false, ◌&&◌, ◌||◌, ◌≡◌, List, [], ◌∷◌, map, ◌==◌}
use Rattle.results.specs.Results.{Results}
use Rattle.text.specs.frames.Verdict.{fine}
use Rattle.text.specs.frames.Frame.{size, contents}
use Rattle.charts.specs.Chart.{handler}
use Rattle.charts.specs.Entry.{read_verdict}
use Rattle.walk.specs.Stops.{Stop, plain, call, function, test, home, back, stop_at}
use Rattle.walk.specs.Walk.{Signal, OpenScheme, Tick, Course, spent, ended, dropped, scheme_course, is_dropping}
use Rattle.agreement.specs.Agreement.{is_full_call}

abbrev pub ticks_of : Course → List Tick
ticks_of (spent ts) = ts
ticks_of (ended ts w ws b) = ts
ticks_of (dropped ts ws b) = ts

abbrev pub is_calling : Stop → Bool
is_calling (plain m r u) = false
is_calling (call m r h u) = true
is_calling (function h u₀ u₁) = true
is_calling (test u) = false
is_calling home = false
is_calling back = false

-- with n places: the one tick of an open scheme by a word is such a call exactly where its stop calls, n schemes are open, and the handler
-- is the first of them, or there is none
abbrev pub HandlerFirst : Type 0
HandlerFirst =
    (text : List ℕ) → read_verdict text ≡ fine → let c = contents text in
    (n : ℕ) (first : Bool) (x : OpenScheme) (w : Signal) (b : Results) → x.node < size c
    → map (is_full_call n) (ticks_of (scheme_course 1 c (is_dropping n c first) x (w ∷ []) b))
    ≡ (is_calling (stop_at c x.node) && ((first || handler c == 0) && x.opened == n)) ∷ []
