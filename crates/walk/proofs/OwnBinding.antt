-- Where every number is served by its own scheme, the walk of an accepted chart is the walk with no rebinding:
-- an open scheme goes by its own number.
use Rattle.std.proofs.Common.{ℕ, zero, suc, ◌-◌, ◌≤◌, Bool, true, false, ◌≡◌, refl, ap, ◌∙◌, sym, subst, List, [], ◌∷◌, ◌++◌, length, arith}
use Rattle.std.proofs.Math.ListN.{length-map}
use Rattle.std.proofs.lemmas.Grind.{common_steps}
use Rattle.words.proofs.lists.Ranges.{get_or-range}
use Rattle.results.specs.Results.{Results, result_of, cleared_results}
use Rattle.bindings.specs.Binding.{own_binding, server_of}
use Rattle.charts.specs.Chart.{Chart, scheme, argument, handler, schemes, end, mask}
use Rattle.walk.specs.Stops.{start, Stop}
use Rattle.walk.specs.Walk.{Signal, signals, OpenScheme, open_at_stop, Tick, Course, spent, ended, dropped, course_after, SchemeCall}
use Rattle.walk.specs.Walk.{Performer, resumed_course, opened_scheme, call_course, stop_course, scheme_course, is_dropping, bottom}
use Rattle.walk.specs.Walk.{ticks_after_course, walk_from, walk, one_tick}
use Rattle.walk.specs.Simpler.{OwnBinding}
use Rattle.walk.proofs.Facts.{StopOf, Facts}
use Rattle.walk.proofs.FactsHold.{facts}
use Rattle.walk.proofs.Views.{View, a-plain, a_call, a-function, a-home, a_back, a-begin, a-condition, view}
use Rattle.walk.proofs.Trace.{Serves, drop-handler, stop-as, home-stop, arc-to, function-to, begin-to}
use Rattle.text.specs.declared.frames.codes.TheConstants.{HOME_CODE, PLAIN_CODE}
use Rattle.walk.specs.Unswapped as unswapped

-- ---- each number is served by its own scheme
pub served-own : (h : ℕ) → 1 ≤ h → h ≤ 16 → server_of own_binding h ≡ h
served-own h l m = get_or-range 1 16 (h - 1) 0 (omega arith) ∙ omega arith

pub own-serves : (c : Chart) → Facts c → Serves c own_binding
own-serves c facts h l m = grind (arith, common_steps)

abbrev own : List ℕ → List Signal
own = signals own_binding

-- ---- a course of the walk, and one with no rebinding
module _ (c : Chart) where
  data Alike : Course → unswapped.Course → Type 0 where
    both-spent : (ts : List Tick) → Alike (spent ts) (unswapped.spent ts)
    both-ended : (ts : List Tick) (w : ℕ) (ws : List ℕ) (b : Results) → Alike (ended ts w (own ws) b) (unswapped.ended ts w ws b)
    both-dropped : (ts : List Tick) (ws : List ℕ) (b : Results) → (handler c ≡ 0 → ⊥)
        → Alike (dropped ts (own ws) b) (unswapped.dropped ts ws b)

  alike-after : (ts : List Tick) {r : Course} {q : unswapped.Course} → Alike r q → Alike (course_after ts r) (unswapped.course_after ts q)
  alike-after ts (both-spent us) = both-spent (ts ++ us)
  alike-after ts (both-ended us w ws b) = both-ended (ts ++ us) w ws b
  alike-after ts (both-dropped us ws b n) = both-dropped (ts ++ us) ws b n

  -- performing an open scheme on from a stop of the scheme of its number
  abbrev Performs : Performer → unswapped.Performer → Type 0
  Performs go free = (x : OpenScheme) (ws : List ℕ) (b : Results) → StopOf c x.number x.node → Alike (go x (own ws) b) (free x ws b)

  module _ (facts : Facts c) (d : ℕ → Bool) (handled : (o : ℕ) → d o ≡ true → handler c ≡ 0 → ⊥) where
    module _ (go : Performer) (free : unswapped.Performer) (ih : Performs go free) where
      -- from another stop of its scheme
      alike-on : (x : OpenScheme) (u : ℕ) (ws : List ℕ) (b : Results) → StopOf c x.number u
          → Alike (go (open_at_stop x u) (own ws) b) (free (unswapped.open_at c x.opened u) ws b)
      alike-on x u ws b s = grind (arith, common_steps)

      alike-resume : (x : OpenScheme) (a : SchemeCall) → ((w : ℕ) (b : Results) → StopOf c x.number (a.resumed w b))
          → {r : Course} {q : unswapped.Course} → Alike r q → Alike (resumed_course go x a r) (unswapped.resumed_course free c x a q)
      alike-resume x a s (both-spent ts) = both-spent ts
      alike-resume x a s (both-ended ts w ws b) = alike-after ts (alike-on x (a.resumed w b) ws b (s w b))
      alike-resume x a s (both-dropped ts ws b n) = both-dropped ts ws b n

      alike-call : (x : OpenScheme) (a : SchemeCall) (ws : List ℕ) (b : Results)
          → ((w : ℕ) (b : Results) → StopOf c x.number (a.resumed w b))
          → (2 ≤ a.called) × (a.called ≤ schemes c) → (t : Bool) → (t ≡ true → handler c ≡ 0 → ⊥)
          → Alike (call_course go c own_binding x a (own ws) b t) (unswapped.call_course free c x a ws b t)
      alike-call x a ws b s l true n = both-dropped _ ws _ (n refl)
      alike-call x a ws b s l false n =
          let h : ℕ = a.called in
          let y : OpenScheme = opened_scheme c own_binding x a in
          let e : Results = cleared_results h b in
          alike-after (one_tick x a.mask a.code) (alike-resume x a s (subst
          (λ (k : ℕ). Alike (go (open_at_stop y (start c k)) (own ws) e) (free (unswapped.open_at c (suc x.opened) (start c h)) ws e))
          (sym (served-own h (omega arith) (omega (arith, facts.most))))
          (alike-on y (start c h) ws e (facts.starts h (omega arith) l.1))))

      module _ (x : OpenScheme) (w : ℕ) (ws : List ℕ) (b : Results) (g : StopOf c x.number x.node) where
        abbrev v : ℕ
        v = x.node

        here : {u : ℕ} → StopOf c (scheme c v) u → StopOf c x.number u
        here = stop-as c g.same

        alike-act : {s : Stop} → View c v s
            → Alike (stop_course go c d x (record { word = w; binding = own_binding }) (own ws) b s)
            (unswapped.stop_course free c d x w ws b s)
        alike-act (a-plain e a) =
            alike-after (one_tick x (mask c v) PLAIN_CODE) (alike-on x _ ws _ (here (arc-to c facts v w g.inside (λ p. omega arith))))
        alike-act (a_call e a) =
            alike-call x _ ws _ (λ y z. here (arc-to c facts v y g.inside (λ p. omega arith)))
            (facts.calls v g.inside e a) (d x.opened) (handled x.opened)
        alike-act (a-function e) =
            alike-call x _ ws b (λ y z. here (function-to c facts v y (result_of (argument c v) z) g.inside e))
            (facts.functions v g.inside e) (d x.opened) (handled x.opened)
        alike-act (a-home e s) =
            alike-after (one_tick x 0 HOME_CODE) (alike-on x _ ws b (here (stop-as c (sym s) (facts.starts 1 (omega arith) facts.first))))
        alike-act (a_back e s) = both-ended _ w ws b
        alike-act (a-begin e) =
            alike-after (one_tick x 0 PLAIN_CODE) (alike-on x _ ws b (here (begin-to c facts v w g.inside e g.stopping)))
        alike-act (a-condition e) = alike-after (one_tick x 0 PLAIN_CODE) (alike-on x _ ws b (here (facts.tests v w g.inside e)))

    alike-perform : (k : ℕ) → Performs (scheme_course k c d) (unswapped.scheme_course k c d)
    unfolding scheme_course unswapped.scheme_course
    alike-perform zero x ws b s = both-spent []
    alike-perform (suc k) x [] b s = both-spent []
    alike-perform (suc k) x (w ∷ ws) b s =
        alike-act (scheme_course k c d) (unswapped.scheme_course k c d) (alike-perform k) x w ws b s
        (view c x.node (facts.kinds x.node s.inside))

  -- ---- the first open scheme, and what follows it
  module _ (facts : Facts c) (n : ℕ) where
    alike-first : (f : Bool) (x : OpenScheme) (ws : List ℕ) (b : Results) → StopOf c x.number x.node
        → Alike (scheme_course (length ws) c (is_dropping n c f) x (own ws) b)
        (unswapped.scheme_course (length ws) c (is_dropping n c f) (unswapped.open_at c x.opened x.node) ws b)
    alike-first f x ws b s = let k : ℕ = length ws in let d : ℕ → Bool = is_dropping n c f in
        alike-on facts d (drop-handler n c f) (scheme_course k c d) (unswapped.scheme_course k c d)
        (alike-perform facts d (drop-handler n c f) k)
        x x.node ws b s

    alike-from : (k : ℕ) (f : Bool) (v : ℕ) (ws : List ℕ) (b : Results) → StopOf c (bottom c f) v
        → walk_from k n c f v (own ws) b ≡ unswapped.walk_from k n c f v ws b
    unfolding walk_from unswapped.walk_from
    alike-from zero f v ws b s = refl
    alike-from (suc k) f v ws b s =
        let x : OpenScheme = record { node = v; number = bottom c f; opened = 1 } in
        ap (λ (m : ℕ). ticks_after_course (walk_from k n c) c (scheme_course m c (is_dropping n c f) x (own ws) b)) (length-map ws _)
        ∙ go (alike-from k) (alike-first f x ws b s)
      where
        go : ((f : Bool) (v : ℕ) (ws : List ℕ) (b : Results) → StopOf c (bottom c f) v
            → walk_from k n c f v (own ws) b ≡ unswapped.walk_from k n c f v ws b)
            → {r : Course} {q : unswapped.Course} → Alike r q
            → ticks_after_course (walk_from k n c) c r ≡ unswapped.ticks_after_course (unswapped.walk_from k n c) c q
        go ih (both-spent ts) = refl
        go ih (both-ended ts w us d) = ap (λ (xs : List Tick). ts ++ xs) (ih false (end c 1) us d (home-stop c facts))
        go ih (both-dropped ts us d m) = let l = facts.handled m in
            ap (λ (xs : List Tick). ts ++ xs) (ih true (start c (handler c)) us d (facts.starts (handler c) (omega (arith, l)) l.1))

-- ---- of every text that the reader accepts
pub own-binding : OwnBinding
unfolding walk unswapped.walk
own-binding text ok n ws = grind (arith, common_steps, length-map, home-stop, facts, alike-from)
