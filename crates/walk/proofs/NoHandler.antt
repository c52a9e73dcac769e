-- With no handler the number of places does not matter, and where every number is served by its own scheme the walk of an accepted chart
-- is the unbounded walk.
use Rattle.std.proofs.Common.{ℕ, zero, suc, Bool, true, false, ◌≡◌, refl, ap, ◌∙◌, sym, subst, List, [], ◌∷◌, ◌++◌, arith}
use Rattle.std.proofs.lemmas.Grind.{common_steps}
use Rattle.results.specs.Results.{Results, no_results, result_of, with_result}
use Rattle.text.specs.frames.Frame.{contents}
use Rattle.charts.specs.Chart.{Chart, scheme, argument, next0, next1, result, mask, handler}
use Rattle.walk.specs.Stops.{Stop, plain, call, function, test, home, back, stop_at}
use Rattle.walk.specs.Walk.{Signal, OpenScheme, Tick, one_tick, SchemeCall, call_by_operation, call_by_function, is_dropping}
use Rattle.walk.specs.Unswapped.{open_at, Course, spent, ended, course_after, Performer, call_course, stop_course}
use Rattle.walk.specs.Unswapped.{scheme_course, ticks_after_course, walk_from, walk as unswapped_walk}
use Rattle.walk.specs.Simpler.{NoHandler, AnyPlaces}
use Rattle.walk.proofs.Facts.{StopOf, Facts}
use Rattle.walk.proofs.FactsHold.{facts}
use Rattle.walk.proofs.Views.{View, a-plain, a_call, a-function, a-home, a_back, a-begin, a-condition, view}
use Rattle.walk.proofs.Trace.{WalkPosition, trace, position_at_home, home-stop, arc-to, function-to, begin-to}
use Rattle.walk.proofs.Recursion.{walk-trace}
use Rattle.walk.proofs.OwnBinding.{own-binding}
use Rattle.text.specs.declared.frames.codes.TheConstants.{HOME_CODE, PLAIN_CODE}
use Rattle.walk.specs.Unbounded as unbounded
use Rattle.std.proofs.lemmas.Bool.Decides.{nat_tests}

-- ---- no call drops, whatever the number of places
no-drop : (c : Chart) → handler c ≡ 0 → (n : ℕ) (f : Bool) (o : ℕ) → is_dropping n c f o ≡ false
no-drop c h n true o = refl
no-drop c h n false o = rw h refl

any-trace : (c : Chart) → handler c ≡ 0 → (n m : ℕ) (ws : List Signal) (x : WalkPosition) → trace n c ws x ≡ trace m c ws x
unfolding trace
any-trace c h n m [] x = grind (arith, common_steps)
any-trace c h n m (w ∷ ws) x = grind (arith, common_steps)

pub any-places : AnyPlaces
any-places c h n m ws = walk-trace n c ws ∙ any-trace c h n m ws (position_at_home c no_results) ∙ sym (walk-trace m c ws)

-- ---- where no call drops, both perform alike
abbrev alike : unbounded.Course → Course
alike (unbounded.spent ts) = spent ts
alike (unbounded.ended ts w ws b) = ended ts w ws b

alike-after : (ts : List Tick) (r : unbounded.Course) → course_after ts (alike r) ≡ alike (unbounded.course_after ts r)
alike-after ts (unbounded.spent us) = refl
alike-after ts (unbounded.ended us w ws b) = refl

abbrev Alike : Performer → unbounded.Performer → Type 0
Alike go free = (x : OpenScheme) (ws : List ℕ) (b : Results) → go x ws b ≡ alike (free x ws b)

module _ (go : Performer) (free : unbounded.Performer) (ih : Alike go free) (c : Chart) where
  alike-on : (ts : List Tick) (x : OpenScheme) (ws : List ℕ) (b : Results)
      → course_after ts (go x ws b) ≡ alike (unbounded.course_after ts (free x ws b))
  alike-on ts x ws b = ap (course_after ts) (ih x ws b) ∙ alike-after ts (free x ws b)

  module _ (d : ℕ → Bool) (never : (o : ℕ) → d o ≡ false) where
    alike-call : (x : OpenScheme) (a : SchemeCall) (ws : List ℕ) (b : Results)
        → call_course go c x a ws b (d x.opened) ≡ alike (unbounded.call_course free c x a ws b)
    alike-call x a ws b = grind (arith, common_steps)

    alike-act : (x : OpenScheme) (w : ℕ) (ws : List ℕ) (b : Results) (s : Stop)
        → stop_course go c d x w ws b s ≡ alike (unbounded.stop_course free c x w ws b s)
    alike-act x w ws b (plain m r u) = alike-on (one_tick x m PLAIN_CODE) _ ws _
    alike-act x w ws b (call m r h u) = alike-call x (call_by_operation c m h u) ws _
    alike-act x w ws b (function h u₀ u₁) = alike-call x (call_by_function c h u₀ u₁) ws b
    alike-act x w ws b (test u) = alike-on (one_tick x 0 PLAIN_CODE) _ ws b
    alike-act x w ws b home = alike-on (one_tick x 0 HOME_CODE) _ ws b
    alike-act x w ws b back = refl

alike-perform : (k : ℕ) (c : Chart) (d : ℕ → Bool) → ((o : ℕ) → d o ≡ false) → Alike (scheme_course k c d) (unbounded.scheme_course k c)
unfolding scheme_course unbounded.scheme_course
alike-perform zero c d never x ws b = refl
alike-perform (suc k) c d never x [] b = refl
alike-perform (suc k) c d never x (w ∷ ws) b =
    alike-act (scheme_course k c d) (unbounded.scheme_course k c) (alike-perform k c d never) c d never x w ws b (stop_at c x.node)

-- ---- scheme 1 has no end, as at its End it goes on from home
data Endless : unbounded.Course → Type 0 where
  endless-spent : (ts : List Tick) → Endless (unbounded.spent ts)

endless-after : (ts : List Tick) (r : unbounded.Course) → Endless r → Endless (unbounded.course_after ts r)
endless-after ts r (endless-spent us) = endless-spent (ts ++ us)

module _ (c : Chart) (facts : Facts c) where
  module _ (go : unbounded.Performer)
      (ih : (x : OpenScheme) (ws : List ℕ) (b : Results) → StopOf c 1 x.node → Endless (go x ws b)) where
    endless-on : (ts : List Tick) (x : OpenScheme) (ws : List ℕ) (b : Results) → StopOf c 1 x.node
        → Endless (unbounded.course_after ts (go x ws b))
    endless-on ts x ws b s = endless-after ts (go x ws b) (ih x ws b s)

    endless-resume : (x : OpenScheme) (a : SchemeCall) → ((w : ℕ) (b : Results) → StopOf c 1 (a.resumed w b))
        → (r : unbounded.Course) → Endless (unbounded.resumed_course go c x a r)
    endless-resume x a s (unbounded.spent ts) = endless-spent ts
    endless-resume x a s (unbounded.ended ts w ws b) = endless-on ts (open_at c x.opened (a.resumed w b)) ws b (s w b)

    endless-call : (x : OpenScheme) (a : SchemeCall) (ws : List ℕ) (b : Results) → ((w : ℕ) (b : Results) → StopOf c 1 (a.resumed w b))
        → Endless (unbounded.call_course go c x a ws b)
    endless-call x a ws b s = grind (arith, common_steps, endless-after, endless-resume)

    module _ (x : OpenScheme) (w : ℕ) (ws : List ℕ) (b : Results) (g : StopOf c 1 x.node) where
      abbrev v : ℕ
      v = x.node

      own : (u : ℕ) → StopOf c (scheme c v) u → StopOf c 1 u
      own u = subst (λ (h : ℕ). StopOf c h u) g.same

      endless-act : {s : Stop} → View c v s → Endless (unbounded.stop_course go c x w ws b s)
      endless-act (a-plain e a) =
          endless-on (one_tick x (mask c v) PLAIN_CODE) _ ws _ (own _ (arc-to c facts v w g.inside (λ p. omega arith)))
      endless-act (a_call e a) =
          endless-call x (call_by_operation c (mask c v) (argument c v) (next0 c v)) ws (with_result (result c v) x.number b)
          (λ y z. own _ (arc-to c facts v y g.inside (λ p. omega arith)))
      endless-act (a-function e) =
          endless-call x (call_by_function c (argument c v) (next0 c v) (next1 c v)) ws b
          (λ y z. own _ (function-to c facts v y (result_of (argument c v) z) g.inside e))
      endless-act (a-home e s) = endless-on (one_tick x 0 HOME_CODE) _ ws b (facts.starts 1 (omega arith) facts.first)
      endless-act (a_back e s) = absurd (s g.same)
      endless-act (a-begin e) = endless-on (one_tick x 0 PLAIN_CODE) _ ws b (own _ (begin-to c facts v w g.inside e g.stopping))
      endless-act (a-condition e) = endless-on (one_tick x 0 PLAIN_CODE) _ ws b (own _ (facts.tests v w g.inside e))

  endless : (k : ℕ) (x : OpenScheme) (ws : List ℕ) (b : Results) → StopOf c 1 x.node → Endless (unbounded.scheme_course k c x ws b)
  unfolding unbounded.scheme_course
  endless zero x ws b g = endless-spent []
  endless (suc k) x [] b g = endless-spent []
  endless (suc k) x (w ∷ ws) b g =
      endless-act (unbounded.scheme_course k c) (endless k) x w ws b g (view c x.node (facts.kinds x.node g.inside))

  -- ---- the two walks
  carried-ticks : (go : Bool → ℕ → List ℕ → Results → List Tick) (r : unbounded.Course)
      → Endless r → ticks_after_course go c (alike r) ≡ unbounded.ticks_of r
  carried-ticks go r (endless-spent ts) = refl

  alike-walks : handler c ≡ 0 → (n : ℕ) (ws : List ℕ) → unswapped_walk n c ws ≡ unbounded.walk c ws
  unfolding unswapped_walk walk_from unbounded.walk unbounded.scheme_course
  alike-walks h n ws = grind (arith, nat_tests, home-stop, facts, no-drop, alike-perform, endless, carried-ticks)

-- ---- of every text that the reader accepts
pub no-handler : NoHandler
no-handler text ok h n ws = own-binding text ok n ws ∙ alike-walks (contents text) (facts text ok) h n ws
