-- Stops (the paper's word for the nodes that take a tick) and the way from one to the next.
use Rattle.std.specs.Prelude.{ℕ, zero, suc, Bool, true, false, ◌&&◌, not, if◌then◌else◌, ◌==◌}
use Rattle.text.specs.frames.Frame.{size}
use Rattle.charts.specs.declared.layout.TheConstants.{CONDITION}
use Rattle.charts.specs.Layout.{Kind, Begin, End, Operation, Condition, Function, Unknown, kind_of}
use Rattle.charts.specs.Chart.{Chart, kind, scheme, argument, next0, next1, result, mask, is, begin, arc_taken}

-- by the kind of a node: a condition stops only as the first node of scheme 1; a Begin only before a condition, and not in scheme 1
abbrev pub is_stop_as : Chart → ℕ → Kind → Bool
is_stop_as c v Begin = not (scheme c v == 1) && is c CONDITION (next0 c v)
is_stop_as c v End = true
is_stop_as c v Operation = true
is_stop_as c v Condition = scheme c v == 1 && next0 c (begin c 1) == v
is_stop_as c v Function = true
is_stop_as c v Unknown = true

unfoldable pub is_stop : Chart → ℕ → Bool
is_stop c v = is_stop_as c v (kind_of (kind c v))

-- the stop where performing a scheme starts
unfoldable pub start : Chart → ℕ → ℕ
start c h = if is_stop c (begin c h) then begin c h else next0 c (begin c h)

-- from an arc's end through conditions that take no tick to a stop, in at most n steps
unfoldable pub next_stop : ℕ → Chart → ℕ → ℕ → ℕ
next_stop zero c w v = v
next_stop (suc n) c w v = elim (is_stop c v) [ true ↦ v | false ↦ next_stop n c w (arc_taken c w v) ]

-- by a word to the next stop: from an arc's end, and from a condition, whether it is a stop or not
abbrev pub by_arc : Chart → ℕ → ℕ → ℕ
by_arc c w v = next_stop (size c) c w v

abbrev pub by_word : Chart → ℕ → ℕ → ℕ
by_word c w v = by_arc c w (arc_taken c w v)

-- a stop by what it does
pub data Stop : Type 0 where
  -- an operation with no call: mask, result, next node
  plain : ℕ → ℕ → ℕ → Stop
  -- an operation with a call: mask, result, scheme called, next node
  call : ℕ → ℕ → ℕ → ℕ → Stop
  -- scheme called, next node on a 0 and on a 1
  function : ℕ → ℕ → ℕ → Stop
  -- a stopping Begin or condition: the condition that is tested
  test : ℕ → Stop
  -- the End of scheme 1, and every other End
  home : Stop
  back : Stop

abbrev pub stop_as : Chart → ℕ → Kind → Stop
stop_as c v Begin = test (next0 c v)
stop_as c v End = if scheme c v == 1 then home else back
stop_as c v Operation = if argument c v == 0 then plain (mask c v) (result c v) (next0 c v)
    else call (mask c v) (result c v) (argument c v) (next0 c v)
stop_as c v Condition = test v
stop_as c v Function = function (argument c v) (next0 c v) (next1 c v)
stop_as c v Unknown = test (next0 c v)

unfoldable pub stop_at : Chart → ℕ → Stop
stop_at c v = stop_as c v (kind_of (kind c v))
