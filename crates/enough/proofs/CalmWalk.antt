-- With as many places as the longest chain has schemes, and every number served by its own scheme, no call of the walk finds as many
-- schemes open: none gets 17, and none is a drop.
use Rattle.std.proofs.Common.{ℕ, suc, ◌≤◌, Bool, true, false, ◌&&◌, ◌||◌, not, ◌≡◌, refl, sym, ◌∙◌, ap, subst, ◌⊎◌, List, [], ◌∷◌, ◌==◌}
use Rattle.std.proofs.Common.{length, arith, ne_eqb}
use Rattle.std.proofs.lemmas.Grind.{common_steps}
use Rattle.std.specs.List.{AllByRecursion}
use Rattle.words.proofs.lists.Tests.{no_both, and-no}
use Rattle.results.specs.Results.{Results, no_results}
use Rattle.bindings.specs.Binding.{own_binding, server_of}
use Rattle.charts.specs.Chart.{Chart, kind, argument, handler, schemes}
use Rattle.walk.specs.Stops.{Stop, stop_at}
use Rattle.walk.specs.Walk.{Signal, Tick, is_drop, is_dropping, bottom, walk}
use Rattle.walk.proofs.Facts.{Facts}
use Rattle.walk.proofs.Views.{View, a-plain, a_call, a-function, a-home, a_back, a-begin, a-condition}
use Rattle.walk.proofs.Trace.{Open, opens, WalkPosition, at, position_returned, position_called, position_moved, tick_at, move, trace}
use Rattle.walk.proofs.Trace.{position_at_home, Serves, Caller, Under, Good, view-of, moves, home-good}
use Rattle.walk.proofs.OwnBinding.{served-own, own-serves}
use Rattle.walk.proofs.Drops.{is_call_stop, drop-exactly}
use Rattle.walk.proofs.Recursion.{walk-trace}
use Rattle.places.specs.chains.Calls.{is_circular, places}
use Rattle.places.specs.chains.Chains.{Calls, Chain, first, on}
use Rattle.places.proofs.chains.CallLaws.{holds-function, holds-operation}
use Rattle.places.proofs.chains.Longest.{no-longer}
use Rattle.agreement.specs.Agreement.{is_full_call, bound}
use Rattle.agreement.proofs.Bounds.{bound-go}
use Rattle.agreement.proofs.FullCalls.{full-exactly}
use Rattle.std.proofs.lemmas.Bool.Decides.{nat_tests}

-- ---- the schemes open at a position of the walk are a chain
caller-calls : (c : Chart) (h : ℕ) (k : Open) → Caller c h k → Calls c k.server h
caller-calls c h k r = grind (arith, common_steps, holds-operation, holds-function)

-- an open scheme that goes by its own number
abbrev Own : Open → Type 0
Own k = k.number ≡ k.server

open-chain : (c : Chart) (x : Open) (ks : List Open) → Under c 1 x ks → AllByRecursion Own (x ∷ ks) → Chain c (suc (length ks)) x.server
open-chain c x [] u own = subst (Chain c 1) (sym u.1) first
open-chain c x (k ∷ ks) u own =
    on (open-chain c k ks u.1 own.1) (subst (Calls c k.server) own.0 (caller-calls c x.number k u.0))

-- scheme 1 is the first open one, and all go by their own numbers
record Plain (y : WalkPosition) : Type 0 where
  first : y.first ≡ false
  owned : AllByRecursion Own (y.now ∷ y.callers)

abbrev ToldOwn : Signal → Type 0
ToldOwn w = w.binding ≡ own_binding

module _ (c : Chart) (f : Facts c) (calm : is_circular c ≡ false) (n : ℕ) (enough : places c ≤ n) where
  module _ (x : Open) (ks : List Open) (b : Results) (t : Bool) (p : Plain (at x ks b t)) (g : Good c (at x ks b t)) where
    abbrev v : ℕ
    v = x.node

    not-full : (kind c v ≡ 2) ⊎ (kind c v ≡ 4) → 2 ≤ argument c v → (suc (length ks) == n) ≡ false
    not-full k l =
        let h : ℕ = argument c v in
        let under : Under c 1 x ks = subst (λ (u : Bool). Under c (bottom c u) x ks) p.first g.under in
        let s : Chain c (suc (suc (length ks))) h = open-chain c (opens v h h) (x ∷ ks)
        (record { stop = g.top; calls = k; called = refl; deep = l }, under) (refl, p.owned) in
        ne_eqb (suc (length ks)) n (λ q. omega (arith, no-longer c f calm (suc (suc (length ks))) h s))

    stays : (u : ℕ) (d : Results) → Plain (at (opens u x.number x.server) ks d t)
    stays u d = record { first = p.first; owned = p.owned }

    called-by : (h k : ℕ) (d : Results) (u : Bool) → h ≡ k → u ≡ false → Plain (position_called c x ks h k d t u)
    called-by h k d true e q = no_both true refl q
    called-by h k d false e q = record { first = p.first; owned = (e, p.owned) }

    module _ (w : Signal) (told : ToldOwn w) where
      called-plain : (h : ℕ) (d : Results) → (2 ≤ h) × (h ≤ schemes c) → (suc (length ks) == n) ≡ false
          → Plain (position_called c x ks h (server_of w.binding h) d t (is_dropping n c t (suc (length ks))))
      called-plain h d l q = grind (arith, common_steps, served-own, and-no, called-by)

      returned-plain : (ks : List Open) → AllByRecursion Own ks → Plain (position_returned c ks w.word b t)
      returned-plain [] own = record { first = refl; owned = (refl, tt) }
      returned-plain (k ∷ ks) own = record { first = p.first; owned = own }

      -- a call finds fewer schemes open than places, and the position after it is plain too
      calm-by : {s : Stop} → View c v s
          → ((is_call_stop s && suc (length ks) == n) ≡ false) × Plain
          (position_moved c (is_dropping n c t (suc (length ks))) x ks w b t s)
      calm-by (a-plain k a) = grind (arith, common_steps, stays)
      calm-by (a_call k a) = grind (arith, common_steps, not-full, called-plain)
      calm-by (a-function k) = grind (arith, common_steps, not-full, called-plain)
      calm-by (a-home k s) = grind (arith, common_steps, stays)
      calm-by (a_back k s) = grind (arith, common_steps, returned-plain)
      calm-by (a-begin k) = grind (arith, common_steps, stays)
      calm-by (a-condition k) = grind (arith, common_steps, stays)

  -- a tick that gets no 17 and is no drop, and the position after it
  record Calm (t : Tick) (y : WalkPosition) : Type 0 where
    made : is_full_call n t ≡ false
    quiet : is_drop t ≡ false
    kept : Plain y

  both : (a p q : Bool) → (a && q) ≡ false → (a && (p && q)) ≡ false
  both a p q e = grind (arith, nat_tests)

  calm-at : (x : WalkPosition) → Plain x → Good c x → (w : Signal) → ToldOwn w → Calm (tick_at n c x) (move n c w x)
  calm-at x p g w told =
      let o : Bool = suc (length x.callers) == n in
      let k : Bool = is_call_stop (stop_at c x.now.node) in
      let r = calm-by x.now x.callers x.results x.first p g w told (view-of c f x g) in
      record {
        made = full-exactly c f n x g ∙ both k (x.first || handler c == 0) o r.0;
        quiet = drop-exactly c f n x g ∙ both k (not x.first && not (handler c == 0)) o r.0;
        kept = r.1;
      }

  calm-trace : (ws : List Signal) (x : WalkPosition) → AllByRecursion ToldOwn ws → Plain x → Good c x
      → (bound n (trace n c ws x) ≡ length ws) × AllByRecursion (λ (t : Tick). is_drop t ≡ false) (trace n c ws x)
  unfolding trace bound
  calm-trace [] x told p g = (refl, tt)
  calm-trace (w ∷ ws) x told p g =
      let k : Calm (tick_at n c x) (move n c w x) = calm-at x p g w told.0 in
      let serves : Serves c w.binding = subst (Serves c) (sym told.0) (own-serves c f) in
      let r = calm-trace ws (move n c w x) told.1 k.kept (moves c f n w x serves g) in
      (bound-go n (tick_at n c x) (trace n c ws (move n c w x)) k.made ∙ ap suc r.0, (k.quiet, r.1))

  pub calm-walk : (ws : List Signal) → AllByRecursion (λ (w : Signal). w.binding ≡ own_binding) ws
      → (bound n (walk n c ws) ≡ length ws) × AllByRecursion (λ (t : Tick). is_drop t ≡ false) (walk n c ws)
  calm-walk ws told =
      subst (λ (ts : List Tick). (bound n ts ≡ length ws) × AllByRecursion (λ (t : Tick). is_drop t ≡ false) ts) (sym (walk-trace n c ws))
      (calm-trace ws (position_at_home c no_results) told (record { first = refl; owned = (refl, tt) }) (home-good c f no_results))
