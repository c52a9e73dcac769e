-- The walk with no handler and no rebinding: no number of places, no drop, and two ends of a course. Only the law no-handler uses it: under
-- own_binding the walk of an accepted chart with no handler is this one, whatever the number of places.
use Rattle.std.specs.Prelude.{ℕ, zero, suc, List, [], ◌∷◌, ◌++◌, length}
use Rattle.results.specs.Results.{Results, no_results, with_result, cleared_results}
use Rattle.text.specs.declared.frames.codes.TheConstants.{PLAIN_CODE, RETURN_CODE, HOME_CODE}
use Rattle.charts.specs.Chart.{Chart, end}
use Rattle.walk.specs.Stops.{start, by_arc, by_word, Stop, plain, call, function, test, home, back, stop_at}
use Rattle.walk.specs.Walk.{OpenScheme, Tick, one_tick, SchemeCall, call_by_operation, call_by_function}
use Rattle.walk.specs.Unswapped.{open_at}

-- performing a scheme: the words ran out after these ticks; or its End was reached:
-- the ticks, the End's word, the words left, the result bits
pub data Course : Type 0 where
  spent : List Tick → Course
  ended : List Tick → ℕ → List ℕ → Results → Course

abbrev pub ticks_of : Course → List Tick
ticks_of (spent ts) = ts
ticks_of (ended ts w ws b) = ts

abbrev pub course_after : List Tick → Course → Course
course_after ts (spent us) = spent (ts ++ us)
course_after ts (ended us w ws b) = ended (ts ++ us) w ws b

-- performing an open scheme on from where it stands, by the words and with the result bits
abbrev pub Performer : Type 0
Performer = OpenScheme → List ℕ → Results → Course

-- after the course of the scheme that call a opened, its caller x goes on
abbrev pub resumed_course : Performer → Chart → OpenScheme → SchemeCall → Course → Course
resumed_course go c x a (spent ts) = spent ts
resumed_course go c x a (ended ts w ws b) = course_after ts (go (open_at c x.opened (a.resumed w b)) ws b)

-- call a by x: it clears the bit of the scheme called, and that scheme is performed
abbrev pub call_course : Performer → Chart → OpenScheme → SchemeCall → List ℕ → Results → Course
call_course go c x a ws b =
    course_after (one_tick x a.mask a.code)
    (resumed_course go c x a (go (open_at c (suc x.opened) (start c a.called)) ws (cleared_results a.called b)))

-- what the stop where x stands does by its word w, and what follows it; its result is written before the call
abbrev pub stop_course : Performer → Chart → OpenScheme → ℕ → List ℕ → Results → Stop → Course
stop_course go c x w ws b (plain m r u) =
    course_after (one_tick x m PLAIN_CODE) (go (open_at c x.opened (by_arc c w u)) ws (with_result r x.number b))
stop_course go c x w ws b (call m r h u) = call_course go c x (call_by_operation c m h u) ws (with_result r x.number b)
stop_course go c x w ws b (function h u₀ u₁) = call_course go c x (call_by_function c h u₀ u₁) ws b
stop_course go c x w ws b (test u) = course_after (one_tick x 0 PLAIN_CODE) (go (open_at c x.opened (by_word c w u)) ws b)
stop_course go c x w ws b home = course_after (one_tick x 0 HOME_CODE) (go (open_at c x.opened (start c 1)) ws b)
stop_course go c x w ws b back = ended (one_tick x 0 RETURN_CODE) w ws b

-- k is at least the number of words
unfoldable pub scheme_course : ℕ → Chart → Performer
scheme_course zero c x ws b = spent []
scheme_course (suc k) c x [] b = spent []
scheme_course (suc k) c x (w ∷ ws) b = stop_course (scheme_course k c) c x w ws b (stop_at c x.node)

-- from the home tick on, every result bit 0
unfoldable pub walk : Chart → List ℕ → List Tick
walk c ws = ticks_of (scheme_course (length ws) c (open_at c 1 (end c 1)) ws no_results)
