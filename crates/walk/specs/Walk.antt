-- The walk (the paper's word for what a chart does by itself): schemes performed recursively, one tick a word.
-- It knows charts, the number of places and the binding that is told before each word, and nothing of labels, rows or a stack.
use Rattle.std.specs.Prelude.{ℕ, zero, suc, ◌+◌, Bool, true, false, ◌&&◌, not, List, [], ◌∷◌, ◌++◌, map, length, if◌then◌else◌, ◌==◌}
use Rattle.results.specs.Results.{Results, no_results, result_of, with_result, cleared_results}
use Rattle.bindings.specs.Binding.{Binding, server_of}
use Rattle.text.specs.declared.frames.codes.TheConstants.{PLAIN_CODE, RETURN_CODE, HOME_CODE, OPERATION_CALL_CODE, FUNCTION_CALL_CODE}
use Rattle.text.specs.declared.frames.codes.TheConstants.{DROP_CODE}
use Rattle.charts.specs.Chart.{Chart, handler, end}
use Rattle.walk.specs.Stops.{start, by_arc, by_word, Stop, plain, call, function, test, home, back, stop_at}

-- a word, and the binding that is told before it
pub record Signal : Type 0 where
  pub word : ℕ
  pub binding : Binding

-- words that are told one binding
abbrev pub signals : Binding → List ℕ → List Signal
signals s ws = map (λ w. record { word = w; binding = s }) ws

-- an open scheme: the stop where it stands, the number that it goes by, and how many schemes are open, itself among them
pub record OpenScheme : Type 0 where
  pub node : ℕ
  pub number : ℕ
  pub opened : ℕ

-- the same scheme, at stop v
abbrev pub open_at_stop : OpenScheme → ℕ → OpenScheme
open_at_stop x v = record { node = v; number = x.number; opened = x.opened }

-- a tick (the paper's word for one step):
-- the stop that makes it, the number that its scheme was called by, its mask, its code, and how many schemes were open
pub record Tick : Type 0 where
  pub node : ℕ
  pub number : ℕ
  pub mask : ℕ
  pub code : ℕ
  pub opened : ℕ

-- the tick of an open scheme where it stands, with mask m and code k
abbrev pub one_tick : OpenScheme → ℕ → ℕ → List Tick
one_tick x m k = record { node = x.node; number = x.number; mask = m; code = k; opened = x.opened } ∷ []

-- a call that was not made: all open schemes were dropped, code 60 hexadecimal
abbrev pub is_drop : Tick → Bool
is_drop t = t.code == DROP_CODE

-- performing a scheme: the words ran out after these ticks; or its End was reached:
-- the ticks, the End's word, the words left, the result bits; or all open schemes were dropped: the ticks, the words left, the result
-- bits
pub data Course : Type 0 where
  spent : List Tick → Course
  ended : List Tick → ℕ → List Signal → Results → Course
  dropped : List Tick → List Signal → Results → Course

abbrev pub course_after : List Tick → Course → Course
course_after ts (spent us) = spent (ts ++ us)
course_after ts (ended us w ws b) = ended (ts ++ us) w ws b
course_after ts (dropped us ws b) = dropped (ts ++ us) ws b

-- a call: its mask and its code, the number called, and the stop where the caller goes on, by the word of the End and the result bits
pub record SchemeCall : Type 0 where
  pub mask : ℕ
  pub code : ℕ
  pub called : ℕ
  pub resumed : ℕ → Results → ℕ

-- an operation's call of number h, with mask m and next node u
abbrev pub call_by_operation : Chart → ℕ → ℕ → ℕ → SchemeCall
call_by_operation c m h u = record { mask = m; code = OPERATION_CALL_CODE + h; called = h; resumed = λ w b. by_arc c w u }

-- a function's call of number h, with next node u₀ or u₁ by the result bit of h
abbrev pub call_by_function : Chart → ℕ → ℕ → ℕ → SchemeCall
call_by_function c h u₀ u₁ =
    record { mask = 0; code = FUNCTION_CALL_CODE + h; called = h; resumed = λ w b. by_arc c w (if result_of h b then u₁ else u₀) }

-- performing an open scheme on from where it stands, by the words and with the result bits
abbrev pub Performer : Type 0
Performer = OpenScheme → List Signal → Results → Course

-- after the course of the scheme that call a opened, its caller x goes on; a drop ends the caller too
abbrev pub resumed_course : Performer → OpenScheme → SchemeCall → Course → Course
resumed_course go x a (spent ts) = spent ts
resumed_course go x a (ended ts w ws b) = course_after ts (go (open_at_stop x (a.resumed w b)) ws b)
resumed_course go x a (dropped ts ws b) = dropped ts ws b

-- the scheme that a call by x opens: the one that serves the number called, at its start
abbrev pub opened_scheme : Chart → Binding → OpenScheme → SchemeCall → OpenScheme
opened_scheme c s x a = record { node = start c (server_of s a.called); number = a.called; opened = suc x.opened }

-- call a by x under binding s: it clears the bit of the number called, and the scheme that it opens is performed; or all open schemes are
-- dropped, and the bit of the handler is cleared
abbrev pub call_course : Performer → Chart → Binding → OpenScheme → SchemeCall → List Signal → Results → Bool → Course
call_course go c s x a ws b false =
    course_after (one_tick x a.mask a.code) (resumed_course go x a (go (opened_scheme c s x a) ws (cleared_results a.called b)))
call_course go c s x a ws b true = dropped (one_tick x a.mask DROP_CODE) ws (cleared_results (handler c) b)

-- what the stop where x stands does by its word w, and what follows it by the words ws, where go performs on; b are the result bits; the
-- stop's own result is written, to the bit of x's number, before its call; d tells of a number of open schemes whether a call drops them
abbrev pub stop_course : Performer → Chart → (ℕ → Bool) → OpenScheme → Signal → List Signal → Results → Stop → Course
stop_course go c d x w ws b (plain m r u) =
    course_after (one_tick x m PLAIN_CODE) (go (open_at_stop x (by_arc c w.word u)) ws (with_result r x.number b))
stop_course go c d x w ws b (call m r h u) =
    call_course go c w.binding x (call_by_operation c m h u) ws (with_result r x.number b) (d x.opened)
stop_course go c d x w ws b (function h u₀ u₁) = call_course go c w.binding x (call_by_function c h u₀ u₁) ws b (d x.opened)
stop_course go c d x w ws b (test u) = course_after (one_tick x 0 PLAIN_CODE) (go (open_at_stop x (by_word c w.word u)) ws b)
stop_course go c d x w ws b home = course_after (one_tick x 0 HOME_CODE) (go (open_at_stop x (start c 1)) ws b)
stop_course go c d x w ws b back = ended (one_tick x 0 RETURN_CODE) w.word ws b

-- k is at least the number of words
unfoldable pub scheme_course : ℕ → Chart → (ℕ → Bool) → Performer
scheme_course zero c d x ws b = spent []
scheme_course (suc k) c d x [] b = spent []
scheme_course (suc k) c d x (w ∷ ws) b = stop_course (scheme_course k c d) c d x w ws b (stop_at c x.node)

-- with n places a call that finds n schemes open drops them where the chart has a handler, unless the handler is the first of them
abbrev pub is_dropping : ℕ → Chart → Bool → ℕ → Bool
is_dropping n c first o = not first && not (handler c == 0) && o == n

-- the first open scheme, the handler where `first` is true and else scheme 1; it goes by its own number
abbrev pub bottom : Chart → Bool → ℕ
bottom c first = if first then handler c else 1

-- what follows the course of the first open scheme: after a drop the handler, which is then the first, and after the handler's End home
abbrev pub ticks_after_course : (Bool → ℕ → List Signal → Results → List Tick) → Chart → Course → List Tick
ticks_after_course go c (spent ts) = ts
ticks_after_course go c (ended ts w ws b) = ts ++ go false (end c 1) ws b
ticks_after_course go c (dropped ts ws b) = ts ++ go true (start c (handler c)) ws b

-- with n places, from stop v of the first open scheme on; k is at least the number of words
unfoldable pub walk_from : ℕ → ℕ → Chart → Bool → ℕ → List Signal → Results → List Tick
walk_from zero n c first v ws b = []
walk_from (suc k) n c first v ws b =
    ticks_after_course (walk_from k n c) c
    (scheme_course (length ws) c (is_dropping n c first) (record { node = v; number = bottom c first; opened = 1 }) ws b)

-- with n places, from the home tick on, every result bit 0
unfoldable pub walk : ℕ → Chart → List Signal → List Tick
walk n c ws = walk_from (length ws) n c false (end c 1) ws no_results
