-- A call that is refused with 17, said of the walk:
-- it finds as many schemes open as places, and there is no handler or the handler is the first of them.
use Rattle.std.proofs.Common.{if◌then◌else◌, ℕ, suc, ◌<◌, Bool, ◌&&◌, ◌||◌, ◌≡◌, refl, ◌∙◌, ap, List, [], ◌∷◌, map, ◌==◌, length, arith}
use Rattle.std.proofs.lemmas.Grind.{common_steps}
use Rattle.results.specs.Results.{Results}
use Rattle.text.specs.frames.Frame.{size, contents}
use Rattle.charts.specs.Chart.{Chart, handler}
use Rattle.walk.specs.Stops.{Stop, plain, call, function, test, home, back, stop_at}
use Rattle.walk.specs.Walk.{Signal, OpenScheme, SchemeCall, call_by_operation, call_by_function, call_course, stop_course, scheme_course}
use Rattle.walk.specs.Walk.{Tick, is_dropping}
use Rattle.walk.proofs.Facts.{Facts}
use Rattle.walk.proofs.FactsHold.{facts}
use Rattle.walk.proofs.Views.{View, view, a-plain, a_call, a-function, a-home, a_back, a-begin, a-condition}
use Rattle.walk.proofs.Trace.{Open, opens, WalkPosition, tick_of, stop_tick, tick_at, Good, view-of}
use Rattle.walk.proofs.Drops.{is_call_stop}
use Rattle.agreement.specs.Agreement.{is_full_call}
use Rattle.agreement.specs.FullCalls.{ticks_of, is_calling, HandlerFirst}
use Rattle.std.proofs.lemmas.Bool.Decides.{nat_tests}

module _ (c : Chart) (facts : Facts c) (n : ℕ) where
  full-by : (x : Open) (o : ℕ) (f : Bool) → x.node < size c → {s : Stop} → View c x.node s
      → is_full_call n (stop_tick (is_dropping n c f o) o x s) ≡ (is_call_stop s && ((f || handler c == 0) && o == n))
  full-by x o f l (a-plain e a) = grind (arith, common_steps)
  full-by x o f l (a_call e a) = grind (arith, common_steps)
  full-by x o f l (a-function e) = grind (arith, common_steps)
  full-by x o f l (a-home e s) = grind (arith, common_steps)
  full-by x o f l (a_back e s) = grind (arith, common_steps)
  full-by x o f l (a-begin e) = grind (arith, common_steps)
  full-by x o f l (a-condition e) = grind (arith, common_steps)

  pub full-exactly : (x : WalkPosition) → Good c x
      → is_full_call n (tick_at n c x) ≡ (is_call_stop (stop_at c x.now.node)
      && ((x.first || handler c == 0) && suc (length x.callers) == n))
  full-exactly x g = full-by x.now (suc (length x.callers)) x.first g.top.inside (view-of c facts x g)

-- ---- by the recursion: what an open scheme makes by one word is the tick of a position
module _ (c : Chart) (d : ℕ → Bool) (x : OpenScheme) (w : Signal) (b : Results) where
  abbrev made : Stop → List Tick
  made s = ticks_of (stop_course (scheme_course 0 c d) c d x w [] b s)

  one-called : (a : SchemeCall) (e : Results) (t : Bool) → ticks_of (call_course (scheme_course 0 c d) c w.binding x a [] e t)
      ≡ tick_of x.node x.number a.mask (if t then 96 else a.code) x.opened ∷ []
  unfolding scheme_course
  one-called a e t = grind (arith, nat_tests)

  one-made : (s : Stop) → made s ≡ stop_tick (d x.opened) x.opened (opens x.node x.number 0) s ∷ []
  unfolding scheme_course
  one-made (plain m r u) = refl
  one-made (call m r h u) = one-called (call_by_operation c m h u) _ (d x.opened)
  one-made (function h u₀ u₁) = one-called (call_by_function c h u₀ u₁) b (d x.opened)
  one-made (test u) = refl
  one-made home = refl
  one-made back = refl

calling-is : (s : Stop) → is_call_stop s ≡ is_calling s
calling-is (plain m r u) = refl
calling-is (call m r h u) = refl
calling-is (function h u₀ u₁) = refl
calling-is (test u) = refl
calling-is home = refl
calling-is back = refl

pub handler-first : HandlerFirst
unfolding scheme_course
handler-first text e n first x w b l =
    let known : Facts (contents text) = facts text e in
    ap (map (is_full_call n)) (one-made (contents text) (is_dropping n (contents text) first) x w b (stop_at (contents text) x.node))
    ∙ ap (λ (t : Bool). t ∷ []) (full-by (contents text) known n (opens x.node x.number 0) x.opened first l
    (view (contents text) x.node (known.kinds x.node l)))
    ∙ ap (λ (t : Bool). (t && ((first || handler (contents text) == 0) && x.opened == n)) ∷ []) (calling-is (stop_at (contents text) x.node))
