-- The recursive walk makes the ticks of the trace from home: the list of callers does what the recursion does.
use Rattle.std.proofs.Common.{if◌then◌else◌, ℕ, zero, suc, ◌≤◌, ◌<◌, Bool, true, false, ◌≡◌, refl, ap, ◌∙◌, sym, List, [], ◌∷◌, ◌++◌}
use Rattle.std.proofs.Common.{append_assoc, length, arith, le_of_suc-le-suc, not-suc-le-zero}
use Rattle.std.proofs.lemmas.Grind.{common_steps}
use Rattle.results.specs.Results.{Results, no_results}
use Rattle.bindings.specs.Binding.{Binding, server_of}
use Rattle.charts.specs.Chart.{Chart, handler, end}
use Rattle.walk.specs.Stops.{start, Stop, plain, call, function, test, home, back, stop_at, by_arc, by_word}
use Rattle.walk.specs.Walk.{Signal, OpenScheme, Tick, one_tick, Course, spent, ended, dropped, course_after, SchemeCall, Performer, resumed_course}
use Rattle.walk.specs.Walk.{call_course, stop_course, scheme_course, is_dropping, bottom, ticks_after_course, walk_from, walk}
use Rattle.walk.proofs.Trace.{Open, opens, moved_to, at, tick_of, stop_tick, node_resumed, resumed, position_returned, position_handling}
use Rattle.walk.proofs.Trace.{position_called, position_moved, trace, position_at_home, trace-length}
use Rattle.walk.specs.Simpler.{TickAWord}
use Rattle.text.specs.declared.frames.codes.TheConstants.{HOME_CODE, PLAIN_CODE}
use Rattle.std.proofs.lemmas.Bool.Decides.{nat_tests}

-- ---- a scheme that has ended, or was dropped, leaves fewer than n words
abbrev Shorter : ℕ → Course → Type 0
Shorter n (spent ts) = Unit {0}
Shorter n (ended ts w ws b) = length ws < n
Shorter n (dropped ts ws b) = length ws < n

shorter-le : (n m : ℕ) (r : Course) → n ≤ m → Shorter n r → Shorter m r
shorter-le n m r l h = grind (arith, nat_tests)

shorter-after : (n m : ℕ) (ts : List Tick) (r : Course) → n ≤ m → Shorter n r → Shorter m (course_after ts r)
shorter-after n m ts r l h = grind (arith, nat_tests)

abbrev Short : Performer → Type 0
Short go = (x : OpenScheme) (ws : List Signal) (b : Results) → Shorter (length ws) (go x ws b)

module _ (go : Performer) (ih : Short go) where
  step : (ts : List Tick) (x : OpenScheme) (ws : List Signal) (b : Results) → Shorter (suc (length ws)) (course_after ts (go x ws b))
  step ts x ws b = shorter-after (length ws) _ ts (go x ws b) (omega arith) (ih x ws b)

  step-in : (c : Chart) (s : Binding) (x : OpenScheme) (a : SchemeCall) (ws : List Signal) (b : Results) (d : Bool)
      → Shorter (suc (length ws)) (call_course go c s x a ws b d)
  step-in c s x a ws b false = grind (arith, common_steps)
  step-in c s x a ws b true = grind (arith, common_steps)

  shorter-act : (c : Chart) (d : ℕ → Bool) (x : OpenScheme) (w : Signal) (ws : List Signal) (b : Results) (s : Stop)
      → Shorter (suc (length ws)) (stop_course go c d x w ws b s)
  shorter-act c d x w ws b (plain m r u) = step (one_tick x m PLAIN_CODE) _ ws _
  shorter-act c d x w ws b (call m r h u) = step-in c w.binding x _ ws _ (d x.opened)
  shorter-act c d x w ws b (function h u₀ u₁) = step-in c w.binding x _ ws b (d x.opened)
  shorter-act c d x w ws b (test u) = step (one_tick x 0 PLAIN_CODE) _ ws b
  shorter-act c d x w ws b home = step (one_tick x 0 HOME_CODE) _ ws b
  shorter-act c d x w ws b back = omega arith

shorter : (k : ℕ) (c : Chart) (d : ℕ → Bool) → Short (scheme_course k c d)
unfolding scheme_course
shorter zero c d x ws b = tt
shorter (suc k) c d x [] b = tt
shorter (suc k) c d x (w ∷ ws) b = shorter-act (scheme_course k c d) (shorter k c d) c d x w ws b (stop_at c x.node)

-- ---- a course, and then the callers: what the trace makes of it
module _ (n : ℕ) (c : Chart) where
  abbrev onward : List Open → Bool → Course → List Tick
  onward ks f (spent ts) = ts
  onward ks f (ended ts w ws b) = ts ++ trace n c ws (position_returned c ks w b f)
  onward ks f (dropped ts ws b) = ts ++ trace n c ws (position_handling c b)

  onward-after : (ks : List Open) (f : Bool) (ts : List Tick) (r : Course) → onward ks f (course_after ts r) ≡ ts ++ onward ks f r
  onward-after ks f ts r = grind (arith, nat_tests, append_assoc, position_returned, trace, position_handling)

  -- an open scheme of the trace, with its callers, as the recursion has it
  abbrev above : List Open → Open → OpenScheme
  above ks x = record { node = x.node; number = x.number; opened = suc (length ks) }

  abbrev performed : ℕ → Open → List Open → List Signal → Results → Bool → Course
  performed k x ks ws b f = scheme_course k c (is_dropping n c f) (above ks x) ws b

  abbrev Same : ℕ → Type 0
  Same k = (ws : List Signal) (x : Open) (ks : List Open) (b : Results) (f : Bool) → length ws ≤ k
      → trace n c ws (at x ks b f) ≡ onward ks f (performed k x ks ws b f)

  module _ (k : ℕ) (ih : Same k) where
    -- the scheme goes on
    same-after : (ts : List Tick) (ws : List Signal) (x : Open) (ks : List Open) (b : Results) (f : Bool) → length ws ≤ k
        → ts ++ trace n c ws (at x ks b f) ≡ onward ks f (course_after ts (performed k x ks ws b f))
    same-after ts ws x ks b f l = grind (arith, common_steps)

    -- the caller x goes on, from the node that its call gives
    module _ (x : Open) (ks : List Open) (f : Bool) (a : SchemeCall)
        (e : (w : ℕ) (b : Results) → a.resumed w b ≡ resumed c x.node w b) where
      abbrev go : Performer
      go = scheme_course k c (is_dropping n c f)

      same-resume : (r : Course) → Shorter (suc k) r → onward (x ∷ ks) f r ≡ onward ks f (resumed_course go (above ks x) a r)
      same-resume r l = grind (arith, common_steps)

      -- a call: the scheme called, and then the caller; or a drop
      same-call : (s : Binding) (ws : List Signal) (b : Results) → length ws ≤ k → (d : Bool)
          → tick_of x.node x.number a.mask (if d then 96 else a.code) (suc (length ks))
          ∷ trace n c ws (position_called c x ks a.called (server_of s a.called) b f d)
          ≡ onward ks f (call_course go c s (above ks x) a ws b d)
      same-call s ws b l true = grind (arith, common_steps)
      same-call s ws b l false = grind (arith, common_steps, opens, shorter-le, shorter, onward-after, same-resume)

    same-act : (x : Open) (ks : List Open) (w : Signal) (ws : List Signal) (b : Results) (f : Bool) → length ws ≤ k
        → (s : Stop) → stop_at c x.node ≡ s → let d = is_dropping n c f (suc (length ks)) in
        stop_tick d (suc (length ks)) x s ∷ trace n c ws (position_moved c d x ks w b f s)
        ≡ onward ks f (stop_course (scheme_course k c (is_dropping n c f)) c (is_dropping n c f) (above ks x) w ws b s)
    same-act x ks w ws b f l (plain m r u) q = same-after (one_tick (above ks x) m PLAIN_CODE) ws (moved_to x (by_arc c w.word u)) ks _ f l
    same-act x ks w ws b f l (call m r h u) q =
        same-call x ks f _ (λ y e. sym (ap (node_resumed c x.node y e) q)) w.binding ws _ l (is_dropping n c f (suc (length ks)))
    same-act x ks w ws b f l (function h u₀ u₁) q =
        same-call x ks f _ (λ y e. sym (ap (node_resumed c x.node y e) q)) w.binding ws b l (is_dropping n c f (suc (length ks)))
    same-act x ks w ws b f l (test u) q = same-after (one_tick (above ks x) 0 PLAIN_CODE) ws (moved_to x (by_word c w.word u)) ks b f l
    same-act x ks w ws b f l home q = same-after (one_tick (above ks x) 0 HOME_CODE) ws (moved_to x (start c 1)) ks b f l
    same-act x ks w ws b f l back q = refl

  same : (k : ℕ) → Same k
  unfolding scheme_course trace
  same zero [] x ks b f l = refl
  same zero (w ∷ ws) x ks b f l = absurd (not-suc-le-zero l)
  same (suc k) [] x ks b f l = refl
  same (suc k) (w ∷ ws) x ks b f l = same-act k (same k) x ks w ws b f (le_of_suc-le-suc l) (stop_at c x.node) refl

  -- ---- the first open scheme, and what follows it
  walk-from : (k : ℕ) (f : Bool) (v : ℕ) (ws : List Signal) (b : Results) → length ws ≤ k
      → walk_from k n c f v ws b ≡ trace n c ws (at (opens v (bottom c f) (bottom c f)) [] b f)
  unfolding walk_from trace
  walk-from zero f v [] b l = refl
  walk-from zero f v (w ∷ ws) b l = absurd (not-suc-le-zero l)
  walk-from (suc k) f v ws b l =
      let x : Open = opens v (bottom c f) (bottom c f) in
      go (performed (length ws) x [] ws b f) (shorter (length ws) c (is_dropping n c f) (above [] x) ws b) (walk-from k)
      ∙ sym (same (length ws) ws x [] b f (omega arith))
    where
      go : (r : Course) → Shorter (length ws) r
          → ((f : Bool) (v : ℕ) (ws : List Signal) (b : Results) → length ws ≤ k
          → walk_from k n c f v ws b ≡ trace n c ws (at (opens v (bottom c f) (bottom c f)) [] b f))
          → ticks_after_course (walk_from k n c) c r ≡ onward [] f r
      go (spent ts) s ih = refl
      go (ended ts w us d) s ih = ap (λ (xs : List Tick). ts ++ xs) (ih false (end c 1) us d (omega arith))
      go (dropped ts us d) s ih = ap (λ (xs : List Tick). ts ++ xs) (ih true (start c (handler c)) us d (omega arith))

  pub walk-trace : (ws : List Signal) → walk n c ws ≡ trace n c ws (position_at_home c no_results)
  unfolding walk
  walk-trace ws = walk-from (length ws) false (end c 1) ws no_results (omega arith)

-- so each word makes one tick
pub tick-a-word : TickAWord
tick-a-word n c ws = ap (λ (ts : List Tick). length ts) (walk-trace n c ws) ∙ trace-length n c ws (position_at_home c no_results)
