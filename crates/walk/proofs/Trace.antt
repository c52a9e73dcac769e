-- The walk without recursion: positions of an open scheme, its unfinished callers and the result bits, each word a move to the next one.
use Rattle.std.proofs.Common.{if◌then◌else◌, ℕ, suc, ◌+◌, ◌≤◌, ◌<◌, Bool, true, false, ◌≡◌, refl, ap, sym, ◌∙◌, ◌⊎◌, inl, inr, List, []}
use Rattle.std.proofs.Common.{◌∷◌, ◌++◌, length, arith}
use Rattle.std.proofs.lemmas.Grind.{common_steps}
use Rattle.words.proofs.lists.Tests.{no_both}
use Rattle.results.specs.Results.{Results, result_of, with_result, cleared_results}
use Rattle.bindings.specs.Binding.{Binding, server_of}
use Rattle.text.specs.frames.Frame.{size}
use Rattle.charts.specs.Chart.{Chart, kind, scheme, argument, next0, next1, handler, schemes, end}
use Rattle.walk.specs.Stops.{is_stop, start, by_arc, by_word, Stop, plain, call, function, test, home, back, stop_at}
use Rattle.walk.specs.Walk.{Signal, Tick, is_dropping, bottom}
use Rattle.walk.proofs.Facts.{StopOf, Facts}
use Rattle.walk.proofs.Views.{View, a-plain, a_call, a-function, a-home, a_back, a-begin, a-condition, view, stop-call, stop-function}
use Rattle.walk.proofs.Views.{begin-leads, end-stops}

-- an open scheme: the node where it stands, the number that it was called by, the scheme that it is
pub record Open : Type 0 where
  pub node : ℕ
  pub number : ℕ
  pub server : ℕ

abbrev pub opens : ℕ → ℕ → ℕ → Open
opens v g k = record { node = v; number = g; server = k }

-- the same scheme, at another node
abbrev pub moved_to : Open → ℕ → Open
moved_to x v = opens v x.number x.server

-- the last scheme opened, the callers of unfinished calls, the last one first, and whether the handler is the first open scheme
pub record WalkPosition : Type 0 where
  pub now : Open
  pub callers : List Open
  pub results : Results
  pub first : Bool

abbrev pub at : Open → List Open → Results → Bool → WalkPosition
at x ks b f = record { now = x; callers = ks; results = b; first = f }

-- mask and code of a stop's tick, where a call drops the open schemes or not
abbrev pub stop_mask : Stop → ℕ
stop_mask (plain m r u) = m
stop_mask (call m r h u) = m
stop_mask (function h u₀ u₁) = 0
stop_mask (test u) = 0
stop_mask home = 0
stop_mask back = 0

abbrev pub stop_code : Bool → Stop → ℕ
stop_code d (plain m r u) = 0
stop_code d (call m r h u) = if d then 96 else 16 + h
stop_code d (function h u₀ u₁) = if d then 96 else 64 + h
stop_code d (test u) = 0
stop_code d home = 4
stop_code d back = 3

abbrev pub tick_of : ℕ → ℕ → ℕ → ℕ → ℕ → Tick
tick_of v g m k o = record { node = v; number = g; mask = m; code = k; opened = o }

-- the tick of scheme x at a stop that does s, with o schemes open
abbrev pub stop_tick : Bool → ℕ → Open → Stop → Tick
stop_tick d o x s = tick_of x.node x.number (stop_mask s) (stop_code d s) o

-- where caller k goes on when its call has ended
abbrev pub node_resumed : Chart → ℕ → ℕ → Results → Stop → ℕ
node_resumed c k w b (plain m r u) = k
node_resumed c k w b (call m r h u) = by_arc c w u
node_resumed c k w b (function h u₀ u₁) = by_arc c w (if result_of h b then u₁ else u₀)
node_resumed c k w b (test u) = k
node_resumed c k w b home = k
node_resumed c k w b back = k

abbrev pub resumed : Chart → ℕ → ℕ → Results → ℕ
resumed c k w b = node_resumed c k w b (stop_at c k)

-- where a walk begins, and where a drop leads
abbrev pub position_at_home : Chart → Results → WalkPosition
position_at_home c b = at (opens (end c 1) 1 1) [] b false

abbrev pub position_handling : Chart → Results → WalkPosition
position_handling c b = at (opens (start c (handler c)) (handler c) (handler c)) [] b true

-- with no caller left the handler has ended
abbrev pub position_returned : Chart → List Open → ℕ → Results → Bool → WalkPosition
position_returned c [] w b f = position_at_home c b
position_returned c (k ∷ ks) w b f = at (moved_to k (resumed c k.node w b)) ks b f

-- a call of number h, which scheme k serves
abbrev pub position_called : Chart → Open → List Open → ℕ → ℕ → Results → Bool → Bool → WalkPosition
position_called c x ks h k b f true = position_handling c (cleared_results (handler c) b)
position_called c x ks h k b f false = at (opens (start c k) h k) (x ∷ ks) (cleared_results h b) f

abbrev pub position_moved : Chart → Bool → Open → List Open → Signal → Results → Bool → Stop → WalkPosition
position_moved c d x ks w b f (plain m r u) = at (moved_to x (by_arc c w.word u)) ks (with_result r x.number b) f
position_moved c d x ks w b f (call m r h u) = position_called c x ks h (server_of w.binding h) (with_result r x.number b) f d
position_moved c d x ks w b f (function h u₀ u₁) = position_called c x ks h (server_of w.binding h) b f d
position_moved c d x ks w b f (test u) = at (moved_to x (by_word c w.word u)) ks b f
position_moved c d x ks w b f home = at (moved_to x (start c 1)) ks b f
position_moved c d x ks w b f back = position_returned c ks w.word b f

-- with n places: whether a call drops here, the tick that is made at a position, and the position after it
abbrev pub is_drop_at : ℕ → Chart → WalkPosition → Bool
is_drop_at n c x = is_dropping n c x.first (suc (length x.callers))

abbrev pub tick_at : ℕ → Chart → WalkPosition → Tick
tick_at n c x = stop_tick (is_drop_at n c x) (suc (length x.callers)) x.now (stop_at c x.now.node)

abbrev pub move : ℕ → Chart → Signal → WalkPosition → WalkPosition
move n c w x = position_moved c (is_drop_at n c x) x.now x.callers w x.results x.first (stop_at c x.now.node)

unfoldable pub trace : ℕ → Chart → List Signal → WalkPosition → List Tick
trace n c [] x = []
trace n c (w ∷ ws) x = tick_at n c x ∷ trace n c ws (move n c w x)

-- ---- positions that a walk can come to
-- a binding by which numbers of 2 to H are served by schemes of 2 to H
abbrev pub Serves : Chart → Binding → Type 0
Serves c s = (h : ℕ) → 2 ≤ h → h ≤ schemes c → (2 ≤ server_of s h) × (server_of s h ≤ schemes c)

-- scheme k waits for the end of the scheme that it called by number h
pub record Caller (c : Chart) (h : ℕ) (k : Open) : Type 0 where
  pub stop : StopOf c k.server k.node
  pub calls : (kind c k.node ≡ 2) ⊎ (kind c k.node ≡ 4)
  pub called : argument c k.node ≡ h
  pub deep : 2 ≤ h

-- each caller called the scheme above it, and the last one is scheme g, by its own number
abbrev pub Under : Chart → ℕ → Open → List Open → Type 0
Under c g x [] = (x.number ≡ g) × (x.server ≡ g)
Under c g x (k ∷ ks) = Caller c x.number k × Under c g k ks

-- it does not matter where the scheme stands
pub under-on : (c : Chart) (g : ℕ) (x : Open) (u : ℕ) (ks : List Open) → Under c g x ks → Under c g (moved_to x u) ks
under-on c g x u [] h = h
under-on c g x u (k ∷ ks) h = h

pub record Good (c : Chart) (x : WalkPosition) : Type 0 where
  pub top : StopOf c x.now.server x.now.node
  pub under : Under c (bottom c x.first) x.now x.callers
  pub handled : x.first ≡ true → handler c ≡ 0 → ⊥

-- the End of scheme 1 is a stop
pub home-stop : (c : Chart) → Facts c → StopOf c 1 (end c 1)
home-stop c facts = grind (arith, common_steps, end-stops)

pub home-good : (c : Chart) → Facts c → (b : Results) → Good c (position_at_home c b)
home-good c facts b = record { top = home-stop c facts; under = (refl, refl); handled = λ q. no_both false q refl }

-- a drop tells that there is a handler
pub drop-handler : (n : ℕ) (c : Chart) (f : Bool) (o : ℕ) → is_dropping n c f o ≡ true → handler c ≡ 0 → ⊥
drop-handler n c f o e = grind (arith, common_steps)

pub stop-as : (c : Chart) {h g u : ℕ} → h ≡ g → StopOf c h u → StopOf c g u
stop-as c e s = record { inside = s.inside; same = s.same ∙ e; stopping = s.stopping }

module _ (c : Chart) (facts : Facts c) where
  -- where a stop's arcs lead in its own scheme
  pub arc-to : (v w : ℕ) → v < size c → (kind c v ≡ 1 → ⊥) → StopOf c (scheme c v) (by_arc c w (next0 c v))
  arc-to v w l e = facts.follows (scheme c v) (next0 c v) w (facts.arc0 v l e)

  pub function-to : (v w : ℕ) (t : Bool) → v < size c → kind c v ≡ 4
      → StopOf c (scheme c v) (by_arc c w (if t then next1 c v else next0 c v))
  function-to v w true l e = facts.follows (scheme c v) (next1 c v) w (facts.arc1 v l (omega arith))
  function-to v w false l e = arc-to v w l (λ p. omega arith)

  pub begin-to : (v w : ℕ) → v < size c → kind c v ≡ 0 → is_stop c v ≡ true → StopOf c (scheme c v) (by_word c w (next0 c v))
  begin-to v w l e s = grind (arith, common_steps, begin-leads, stop-as)

  resumes-to : (h : ℕ) (k : Open) (w : ℕ) (b : Results) → Caller c h k → StopOf c k.server (resumed c k.node w b)
  resumes-to h k w b caller = grind (arith, common_steps, stop-call, stop-function, stop-as, arc-to, function-to)

  -- a good position stays good after any move
  module _ (x : Open) (ks : List Open) (b : Results) (f : Bool) (g : Good c (at x ks b f)) where
    stays : (u : ℕ) (d : Results) → StopOf c (scheme c x.node) u → Good c (at (moved_to x u) ks d f)
    stays u d s = record { top = stop-as c g.top.same s; under = under-on c (bottom c f) x u ks g.under; handled = g.handled }

    called-good : (d : Results) (s : Binding) → Serves c s → (kind c x.node ≡ 2) ⊎ (kind c x.node ≡ 4)
        → (2 ≤ argument c x.node) × (argument c x.node ≤ schemes c) → (t : Bool) → (t ≡ true → handler c ≡ 0 → ⊥)
        → Good c (position_called c x ks (argument c x.node) (server_of s (argument c x.node)) d f t)
    called-good d s serves e l true n = grind (arith, common_steps)
    called-good d s serves e l false n = grind (arith, common_steps)

    returned-good : (w : ℕ) → Good c (position_returned c ks w b f)
    returned-good w = go ks g.under
      where
        go : (ks : List Open) → Under c (bottom c f) x ks → Good c (position_returned c ks w b f)
        go [] u = home-good c facts b
        go (k ∷ ks) u = record {
          top = resumes-to x.number k w b u.0;
          under = under-on c (bottom c f) k (resumed c k.node w b) ks u.1;
          handled = g.handled;
        }

    moved-good : (d : Bool) → (d ≡ true → handler c ≡ 0 → ⊥) → (w : Signal) → Serves c w.binding → {s : Stop} → View c x.node s
        → Good c (position_moved c d x ks w b f s)
    moved-good d n w serves (a-plain e a) = stays _ _ (arc-to x.node w.word g.top.inside (λ p. omega arith))
    moved-good d n w serves (a_call e a) = called-good _ w.binding serves (inl e) (facts.calls x.node g.top.inside e a) d n
    moved-good d n w serves (a-function e) = called-good b w.binding serves (inr e) (facts.functions x.node g.top.inside e) d n
    moved-good d n w serves (a-home e s) = stays _ b (stop-as c (sym s) (facts.starts 1 (omega arith) facts.first))
    moved-good d n w serves (a_back e s) = returned-good w.word
    moved-good d n w serves (a-begin e) = stays _ b (begin-to x.node w.word g.top.inside e g.top.stopping)
    moved-good d n w serves (a-condition e) = stays _ b (facts.tests x.node w.word g.top.inside e)

  pub view-of : (x : WalkPosition) → Good c x → View c x.now.node (stop_at c x.now.node)
  view-of x g = view c x.now.node (facts.kinds x.now.node g.top.inside)

  pub moves : (n : ℕ) (w : Signal) (x : WalkPosition) → Serves c w.binding → Good c x → Good c (move n c w x)
  moves n w x serves g = grind (arith, common_steps, drop-handler, moved-good, view-of)

-- ---- the trace of joined words
unfoldable pub position_reached : ℕ → Chart → List Signal → WalkPosition → WalkPosition
position_reached n c [] x = x
position_reached n c (w ∷ ws) x = position_reached n c ws (move n c w x)

pub trace-length : (n : ℕ) (c : Chart) (ws : List Signal) (x : WalkPosition) → length (trace n c ws x) ≡ length ws
unfolding trace
trace-length n c [] x = refl
trace-length n c (w ∷ ws) x = ap suc (trace-length n c ws (move n c w x))

pub trace-append : (n : ℕ) (c : Chart) (ws us : List Signal) (x : WalkPosition)
    → trace n c (ws ++ us) x ≡ trace n c ws x ++ trace n c us (position_reached n c ws x)
unfolding trace position_reached
trace-append n c [] us x = refl
trace-append n c (w ∷ ws) us x = ap (λ (ts : List Tick). tick_at n c x ∷ ts) (trace-append n c ws us (move n c w x))
