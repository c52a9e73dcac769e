-- A function leaves by its 0 arc where, from its call to its return, no 1 is written to the bit of the number that it calls: said of the
-- walk's ticks alone.
use Rattle.std.specs.Prelude.{ℕ, suc, ◌+◌, Bool, true, false, ◌&&◌, ◌≡◌, List, ◌∷◌, ◌++◌, map, length, ◌==◌, slice_index}
use Rattle.std.specs.List.{list_any}
use Rattle.text.specs.declared.frames.codes.TheConstants.{RETURN_CODE}
use Rattle.text.specs.frames.Frame.{contents}
use Rattle.text.specs.frames.Verdict.{fine}
use Rattle.charts.specs.declared.layout.TheConstants.{OPERATION, FUNCTION}
use Rattle.charts.specs.Chart.{Chart, kind, argument, next0, result, is}
use Rattle.charts.specs.Entry.{read_verdict}
use Rattle.walk.specs.Stops.{by_arc}
use Rattle.walk.specs.Walk.{Signal, Tick, is_drop, walk}

-- a tick that writes 1 to the bit of number h: an operation with result 2, of a scheme that h called, makes it
abbrev pub is_walk_write_of_one : Chart → ℕ → Tick → Bool
is_walk_write_of_one c h t = is c OPERATION t.node && (t.number == h && result c t.node == 2)

-- a return from a scheme whose call found o schemes open
abbrev pub is_return_to : ℕ → Tick → Bool
is_return_to o t = t.code == RETURN_CODE && t.opened == suc o

-- a function's call, the first such return after it, which is its own where no drop comes between, and ticks between that write no 1 to the
-- bit of the number called
pub record WalkUnwritten (c : Chart) (call : Tick) (between : List Tick) (back : Tick) : Type 0 where
  pub function : kind c call.node ≡ FUNCTION
  pub made : is_drop call ≡ false
  pub kept : list_any is_drop between ≡ false
  pub inside : list_any (is_return_to call.opened) between ≡ false
  pub own : is_return_to call.opened back ≡ true
  pub unwritten : list_any (is_walk_write_of_one c (argument c call.node)) between ≡ false

-- for every accepted chart, every number of places and all words, whatever bindings are told:
-- the tick after the return is made where the 0 arc leads by the return's word
unfoldable pub ZeroArc : Type 0
ZeroArc =
    (text : List ℕ) → read_verdict text ≡ fine → (places : ℕ) (words : List Signal) (before between rest : List Tick)
    (call back next : Tick)
    → let c = contents text in
    walk places c words ≡ before ++ (call ∷ (between ++ (back ∷ (next ∷ rest)))) → WalkUnwritten c call between back
    → next.node ≡ by_arc c (slice_index (map (λ w. w.word) words) (length before + suc (length between))) (next0 c call.node)
