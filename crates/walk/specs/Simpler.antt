-- Each word makes one tick; and where the walk is a simpler one: with no rebinding, and with no handler.
use Rattle.std.specs.Prelude.{ℕ, ◌≡◌, List, length}
use Rattle.text.specs.frames.Frame.{contents}
use Rattle.text.specs.frames.Verdict.{fine}
use Rattle.bindings.specs.Binding.{own_binding}
use Rattle.charts.specs.Chart.{Chart, handler}
use Rattle.charts.specs.Entry.{read_verdict}
use Rattle.walk.specs.Walk.{Signal, signals, walk}
use Rattle.walk.specs.Unswapped as unswapped
use Rattle.walk.specs.Unbounded as unbounded

-- of any node records, accepted or not
abbrev pub TickAWord : Type 0
TickAWord = (n : ℕ) (c : Chart) (ws : List Signal) → length (walk n c ws) ≡ length ws

-- where every number is served by its own scheme, the walk of an accepted chart is that with no rebinding
abbrev pub OwnBinding : Type 0
OwnBinding =
    (text : List ℕ) → read_verdict text ≡ fine → let c = contents text in
    (n : ℕ) (ws : List ℕ) → walk n c (signals own_binding ws) ≡ unswapped.walk n c ws

-- with no handler it is besides the walk of before there were handlers, which knows no number of places
abbrev pub NoHandler : Type 0
NoHandler =
    (text : List ℕ) → read_verdict text ≡ fine → let c = contents text in handler c ≡ 0
    → (n : ℕ) (ws : List ℕ) → walk n c (signals own_binding ws) ≡ unbounded.walk c ws

-- with no handler the number of places does not matter
abbrev pub AnyPlaces : Type 0
AnyPlaces = (c : Chart) → handler c ≡ 0 → (n m : ℕ) (ws : List Signal) → walk n c ws ≡ walk m c ws
