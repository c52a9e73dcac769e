-- The walk with no rebinding: words with no binding beside them; each call performs the scheme that it names, and each result goes to the
-- bit of the stop's own scheme. Under own_binding the walk of an accepted chart is this one, by the law own-binding; only laws of charts
-- with no rebinding speak of it.
use Rattle.std.specs.Prelude.{ℕ, zero, suc, Bool, true, false, List, [], ◌∷◌, ◌++◌, length}
use Rattle.results.specs.Results.{Results, no_results, with_result, cleared_results}
use Rattle.text.specs.declared.frames.codes.TheConstants.{PLAIN_CODE, RETURN_CODE, HOME_CODE, DROP_CODE}
use Rattle.charts.specs.Chart.{Chart, scheme, handler, end}
use Rattle.walk.specs.Stops.{start, by_arc, by_word, Stop, plain, call, function, test, home, back, stop_at}
use Rattle.walk.specs.Walk.{OpenScheme, Tick, one_tick, SchemeCall, call_by_operation, call_by_function, is_dropping}

-- an open scheme at stop v, with o open; it goes by the number of its own scheme
abbrev pub open_at : Chart → ℕ → ℕ → OpenScheme
open_at c o v = record { node = v; number = scheme c v; opened = o }

-- performing a scheme: the words ran out after these ticks; or its End was reached:
-- the ticks, the End's word, the words left, the result bits; or all open schemes were dropped: the ticks, the words left, the result
-- bits
pub data Course : Type 0 where
  spent : List Tick → Course
  ended : List Tick → ℕ → List ℕ → Results → Course
  dropped : List Tick → List ℕ → Results → Course

abbrev pub course_after : List Tick → Course → Course
course_after ts (spent us) = spent (ts ++ us)
course_after ts (ended us w ws b) = ended (ts ++ us) w ws b
course_after ts (dropped us ws b) = dropped (ts ++ us) ws b

-- performing an open scheme on from where it stands, by the words and with the result bits
abbrev pub Performer : Type 0
Performer = OpenScheme → List ℕ → Results → Course

-- after the course of the scheme that call a opened, its caller x goes on; a drop ends the caller too
abbrev pub resumed_course : Performer → Chart → OpenScheme → SchemeCall → Course → Course
resumed_course go c x a (spent ts) = spent ts
resumed_course go c x a (ended ts w ws b) = course_after ts (go (open_at c x.opened (a.resumed w b)) ws b)
resumed_course go c x a (dropped ts ws b) = dropped ts ws b

-- call a by x: it clears the bit of the scheme called, and that scheme is performed; or all open schemes are dropped, and the bit of the
-- handler is cleared
abbrev pub call_course : Performer → Chart → OpenScheme → SchemeCall → List ℕ → Results → Bool → Course
call_course go c x a ws b false =
    course_after (one_tick x a.mask a.code)
    (resumed_course go c x a (go (open_at c (suc x.opened) (start c a.called)) ws (cleared_results a.called b)))
call_course go c x a ws b true = dropped (one_tick x a.mask DROP_CODE) ws (cleared_results (handler c) b)

-- what the stop where x stands does by its word w, and what follows it; its result is written before the call; d tells of a
-- number of open schemes whether a call drops them
abbrev pub stop_course : Performer → Chart → (ℕ → Bool) → OpenScheme → ℕ → List ℕ → Results → Stop → Course
stop_course go c d x w ws b (plain m r u) =
    course_after (one_tick x m PLAIN_CODE) (go (open_at c x.opened (by_arc c w u)) ws (with_result r x.number b))
stop_course go c d x w ws b (call m r h u) = call_course go c x (call_by_operation c m h u) ws (with_result r x.number b) (d x.opened)
stop_course go c d x w ws b (function h u₀ u₁) = call_course go c x (call_by_function c h u₀ u₁) ws b (d x.opened)
stop_course go c d x w ws b (test u) = course_after (one_tick x 0 PLAIN_CODE) (go (open_at c x.opened (by_word c w u)) ws b)
stop_course go c d x w ws b home = course_after (one_tick x 0 HOME_CODE) (go (open_at c x.opened (start c 1)) ws b)
stop_course go c d x w ws b back = ended (one_tick x 0 RETURN_CODE) w ws b

-- k is at least the number of words
unfoldable pub scheme_course : ℕ → Chart → (ℕ → Bool) → Performer
scheme_course zero c d x ws b = spent []
scheme_course (suc k) c d x [] b = spent []
scheme_course (suc k) c d x (w ∷ ws) b = stop_course (scheme_course k c d) c d x w ws b (stop_at c x.node)

-- what follows the course of the first open scheme: after a drop the handler, which is then the first, and after the handler's End home
abbrev pub ticks_after_course : (Bool → ℕ → List ℕ → Results → List Tick) → Chart → Course → List Tick
ticks_after_course go c (spent ts) = ts
ticks_after_course go c (ended ts w ws b) = ts ++ go false (end c 1) ws b
ticks_after_course go c (dropped ts ws b) = ts ++ go true (start c (handler c)) ws b

-- with n places, from stop v of the first open scheme on, which is the handler where `first` is true and else scheme 1; k is at least the
-- number of words
unfoldable pub walk_from : ℕ → ℕ → Chart → Bool → ℕ → List ℕ → Results → List Tick
walk_from zero n c first v ws b = []
walk_from (suc k) n c first v ws b =
    ticks_after_course (walk_from k n c) c (scheme_course (length ws) c (is_dropping n c first) (open_at c 1 v) ws b)

-- with n places, from the home tick on, every result bit 0
unfoldable pub walk : ℕ → Chart → List ℕ → List Tick
walk n c ws = walk_from (length ws) n c false (end c 1) ws no_results
