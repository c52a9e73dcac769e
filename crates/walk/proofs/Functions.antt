-- While no 1 is written to the bit of the number that it calls, a function leaves by its 0 arc: from its call on the bit is 0, and the
-- function waits among the callers, until its own return. The bindings told do not matter.
use Rattle.std.proofs.Common.{ℕ, suc, ◌+◌, ◌≤◌, ◌<◌, Bool, true, false, ◌&&◌, ◌≡◌, refl, ap, ◌∙◌, sym, subst, ◌⊎◌, ⊎_elim, ◌==◌, slice_index, List}
use Rattle.std.proofs.Common.{[], ◌∷◌, ◌++◌, map, length, length-append, arith, eqb-true, eq-eqb}
use Rattle.std.proofs.lemmas.Grind.{common_steps}
use Rattle.std.specs.List.{list_any}
use Rattle.words.proofs.lists.Tests.{no_both, or-l, or-r, and-l, and-r}
use Rattle.words.proofs.lists.Searches.{some-cons}
use Rattle.results.specs.Results.{Results, result_of, with_result, cleared_results}
use Rattle.results.proofs.ResultLaws.{cleared-own, cleared-keeps, result-keeps}
use Rattle.text.specs.frames.Frame.{size}
use Rattle.charts.specs.Chart.{Chart, kind, argument, next0, result}
use Rattle.walk.specs.Stops.{by_arc, Stop, plain, call, function, test, home, back, stop_at}
use Rattle.walk.specs.Walk.{Signal, Tick, is_drop}
use Rattle.walk.specs.Functions.{is_walk_write_of_one, is_return_to, WalkUnwritten, ZeroArc}
use Rattle.walk.proofs.Facts.{Facts}
use Rattle.walk.proofs.FactsHold.{facts}
use Rattle.walk.proofs.Views.{View, a-plain, a_call, a-function, a-home, a_back, a-begin, a-condition, view, stop-function}
use Rattle.walk.proofs.Trace.{Open, WalkPosition, at, stop_code, stop_tick, position_returned, position_moved, is_drop_at, tick_at, move, trace}
use Rattle.walk.proofs.Recursion.{walk-trace}

-- ---- ticks by their first
none-first : (p : Tick → Bool) (t : Tick) (ts : List Tick) → list_any p (t ∷ ts) ≡ false → p t ≡ false
none-first p t ts e = or-l (p t) (list_any p ts) (sym (some-cons p t ts) ∙ e)

none-rest : (p : Tick → Bool) (t : Tick) (ts : List Tick) → list_any p (t ∷ ts) ≡ false → list_any p ts ≡ false
none-rest p t ts e = or-r (p t) (list_any p ts) (sym (some-cons p t ts) ∙ e)

some-tick : {A : Type 0} (t : Tick) (ts us : List Tick) → [] ≡ ts ++ (t ∷ us) → A
some-tick t [] us e = absurd (let z : ◌≡◌ {A = ℕ} 0 1 = cc in omega arith)
some-tick t (x ∷ ts) us e = absurd (let z : ◌≡◌ {A = ℕ} 0 1 = cc in omega arith)

abbrev words_of : List Signal → List ℕ
words_of ws = map (λ w. w.word) ws

-- only a return has code 3
is-back : (d : Bool) (s : Stop) → stop_code d s ≡ 3 → s ≡ back
is-back d (plain m r u) e = absurd (omega arith)
is-back true (call m r h u) e = absurd (omega arith)
is-back false (call m r h u) e = absurd (omega arith)
is-back true (function h u₀ u₁) e = absurd (omega arith)
is-back false (function h u₀ u₁) e = absurd (omega arith)
is-back d (test u) e = absurd (omega arith)
is-back d home e = absurd (omega arith)
is-back d back e = refl

-- ---- every number has a view, as past the last node all bytes read as 0
inside-or-0 : (c : Chart) → Facts c → (v : ℕ) → (kind c v ≡ 0) ⊎ (v < size c)
inside-or-0 c facts v = grind (arith, common_steps)

view-any : (c : Chart) → Facts c → (v : ℕ) → View c v (stop_at c v)
view-any c facts v = view c v (⊎_elim (λ (e : kind c v ≡ 0). omega arith) (λ (l : v < size c). facts.kinds v l) (inside-or-0 c facts v))

calls-deep : (c : Chart) → Facts c → (v : ℕ) → kind c v ≡ 4 → 2 ≤ argument c v
calls-deep c facts v k = grind (arith, common_steps)

-- ---- number h called by function y, with callers ks under it
module _ (c : Chart) (y : Open) (h : ℕ) (ks : List Open) (deep : 2 ≤ h) where
  -- its call is not finished, and its bit is 0
  data Waits : WalkPosition → Type 0 where
    waits : (u : Open) (above : List Open) (b : Results) (f : Bool) → result_of h b ≡ false → Waits (at u (above ++ (y ∷ ks)) b f)

  abbrev own : Tick → Bool
  own = is_return_to (suc (length ks))

  -- a tick that neither drops the open schemes, nor is the own return, nor writes 1 to the bit
  record Passing (t : Tick) : Type 0 where
    kept : is_drop t ≡ false
    inside : own t ≡ false
    unwritten : is_walk_write_of_one c h t ≡ false

  abbrev AllPassing : List Tick → Type 0
  AllPassing [] = Unit {0}
  AllPassing (t ∷ ts) = Passing t × AllPassing ts

  all-passing : (ts : List Tick) → list_any is_drop ts ≡ false → list_any own ts ≡ false → list_any (is_walk_write_of_one c h) ts ≡ false
      → AllPassing ts
  all-passing [] d r q = grind (arith, common_steps)
  all-passing (t ∷ ts) d r q = grind (arith, common_steps, all-passing ts, none-first, none-rest)

  returned-waits : (js : List Open) (w : ℕ) (b : Results) (f : Bool) → result_of h b ≡ false
      → (suc (length (js ++ (y ∷ ks))) == suc (suc (length ks))) ≡ false → Waits (position_returned c (js ++ (y ∷ ks)) w b f)
  returned-waits [] w b f e q = no_both _ (eq-eqb (suc (suc (length ks))) (suc (suc (length ks))) refl) q
  returned-waits (j ∷ js) w b f e q = waits _ js b f e

  module _ (u : Open) (w : Signal) (js : List Open) (b : Results) (f : Bool) (e : result_of h b ≡ false) where
    abbrev v : ℕ
    v = u.node

    abbrev g : ℕ
    g = u.number

    abbrev o : ℕ
    o = suc (length (js ++ (y ∷ ks)))

    written-not : kind c v ≡ 2 → (kind c v == 2 && (g == h && result c v == 2)) ≡ false → g ≡ h → result c v ≡ 2 → ⊥
    written-not k q s r = grind (arith, common_steps)

    waits-by : (d : Bool) → {s : Stop} → View c v s → Passing (stop_tick d o u s) → Waits (position_moved c d u (js ++ (y ∷ ks)) w b f s)
    waits-by d (a-plain k a) p = waits _ js _ f (result-keeps (result c v) g h b deep (written-not k p.unwritten) e)
    waits-by true (a_call k a) p = no_both true refl p.kept
    waits-by false (a_call k a) p =
        waits _ (u ∷ js) _ f (cleared-keeps (argument c v) h (with_result (result c v) g b)
        (result-keeps (result c v) g h b deep (written-not k p.unwritten) e))
    waits-by true (a-function k) p = no_both true refl p.kept
    waits-by false (a-function k) p = waits _ (u ∷ js) _ f (cleared-keeps (argument c v) h b e)
    waits-by d (a-home k s) p = waits _ js b f e
    waits-by d (a_back k s) p = returned-waits js w.word b f e p.inside
    waits-by d (a-begin k) p = waits _ js b f e
    waits-by d (a-condition k) p = waits _ js b f e

  module _ (n : ℕ) (facts : Facts c) (kinded : kind c y.node ≡ 4) (called : argument c y.node ≡ h) where
    -- the call itself, which is no drop
    called-waits : (w : Signal) (b : Results) (f d : Bool) → (stop_code d (stop_at c y.node) == 96) ≡ false
        → Waits (position_moved c d y ks w b f (stop_at c y.node))
    called-waits w b f true q = no_both _ (ap (λ (s : Stop). stop_code true s == 96) (stop-function c y.node kinded)) q
    called-waits w b f false q = subst (λ (s : Stop). Waits (position_moved c false y ks w b f s)) (sym (stop-function c y.node kinded))
        (waits _ [] (cleared_results (argument c y.node) b) f (ap (λ (k : ℕ). result_of h (cleared_results k b)) called ∙ cleared-own h b))

    waits-on : (w : Signal) (x : WalkPosition) → Waits x → Passing (tick_at n c x) → Waits (move n c w x)
    waits-on w x (waits u js b f e) p = waits-by u w js b f e (is_drop_at n c x) (view-any c facts u.node) p

    -- the own return: the function takes its 0 arc
    own-return : (w : Signal) (x : WalkPosition) → Waits x → own (tick_at n c x) ≡ true
        → (move n c w x).now.node ≡ by_arc c w.word (next0 c y.node)
    own-return w x (waits u [] b f e) q = grind (arith, common_steps, and-l, stop-function, eqb-true, is-back)
    own-return w x (waits u (j ∷ js) b f e) q = grind (arith, common_steps, length-append, and-r, eqb-true)

    goes-on : (between : List Tick) (ws : List Signal) (x : WalkPosition) (last next : Tick) (rest : List Tick) → Waits x
        → trace n c ws x ≡ between ++ (last ∷ (next ∷ rest)) → AllPassing between → own last ≡ true
        → next.node ≡ by_arc c (slice_index (words_of ws) (length between)) (next0 c y.node)
    unfolding trace
    goes-on between [] x last next rest k q passing end = some-tick last between (next ∷ rest) q
    goes-on [] (w ∷ []) x last next rest k q passing end =
        let e : [] ≡ next ∷ rest = cc in some-tick next [] rest e
    goes-on [] (w ∷ (z ∷ ws)) x last next rest k q passing end =
        let e : tick_at n c x ≡ last = cc in
        let d : next ≡ tick_at n c (move n c w x) = cc in
        ap (λ (t : Tick). t.node) d ∙ own-return w x k (ap own e ∙ end)
    goes-on (t ∷ ts) (w ∷ ws) x last next rest k q passing end =
        let e : t ≡ tick_at n c x = cc in
        let d : trace n c ws (move n c w x) ≡ ts ++ (last ∷ (next ∷ rest)) = cc in
        goes-on ts ws (move n c w x) last next rest (waits-on w x k (subst Passing e passing.0)) d passing.1 end

module _ (n : ℕ) (c : Chart) (facts : Facts c) where
  -- from the call on
  from-call : (ws : List Signal) (x : WalkPosition) (between rest : List Tick) (first last next : Tick)
      → trace n c ws x ≡ first ∷ (between ++ (last ∷ (next ∷ rest))) → WalkUnwritten c first between last
      → next.node ≡ by_arc c (slice_index (words_of ws) (suc (length between))) (next0 c first.node)
  unfolding trace
  from-call [] x between rest first last next q u = some-tick first [] _ q
  from-call (w ∷ ws) x between rest first last next q u =
      let y : Open = x.now in let h : ℕ = argument c y.node in let ks : List Open = x.callers in
      let e : first ≡ tick_at n c x = cc in
      let d : trace n c ws (move n c w x) ≡ between ++ (last ∷ (next ∷ rest)) = cc in
      let at_call : WalkUnwritten c (tick_at n c x) between last = subst (λ (t : Tick). WalkUnwritten c t between last) e u in
      let deep : 2 ≤ h = calls-deep c facts y.node at_call.function in
      goes-on c y h ks deep n facts at_call.function refl between ws (move n c w x) last next rest
      (called-waits c y h ks deep n facts at_call.function refl w x.results x.first (is_drop_at n c x) at_call.made) d
      (all-passing c y h ks deep between at_call.kept at_call.inside at_call.unwritten) at_call.own
      ∙ ap (λ (t : Tick). by_arc c (slice_index (words_of ws) (length between)) (next0 c t.node)) (sym e)

  from-start : (before : List Tick) (ws : List Signal) (x : WalkPosition) (between rest : List Tick) (first last next : Tick)
      → trace n c ws x ≡ before ++ (first ∷ (between ++ (last ∷ (next ∷ rest)))) → WalkUnwritten c first between last
      → next.node ≡ by_arc c (slice_index (words_of ws) (length before + suc (length between))) (next0 c first.node)
  unfolding trace
  from-start [] ws x between rest first last next q u =
      let k : suc (length between) ≡ 0 + suc (length between) = omega arith in
      from-call ws x between rest first last next q u ∙ ap (λ (k : ℕ). by_arc c (slice_index (words_of ws) k) (next0 c first.node)) k
  from-start (t ∷ ts) [] x between rest first last next q u = some-tick t [] _ q
  from-start (t ∷ ts) (w ∷ ws) x between rest first last next q u =
      let d : trace n c ws (move n c w x) ≡ ts ++ (first ∷ (between ++ (last ∷ (next ∷ rest)))) = cc in
      let k : suc (length ts + suc (length between)) ≡ suc (length ts) + suc (length between) = omega arith in
      from-start ts ws (move n c w x) between rest first last next d u
      ∙ ap (λ (k : ℕ). by_arc c (slice_index (words_of (w ∷ ws)) k) (next0 c first.node)) k

pub zero-arc : ZeroArc
unfolding ZeroArc
zero-arc text read places words before between rest first last next q u = grind (arith, common_steps, facts, walk-trace, from-start)
