-- One tick of the machine on the table of a chart is one tick of the walk, but for a call at a full stack, which stops it with 17.
use Rattle.std.proofs.Common.{if◌then◌else◌, ℕ, suc, ◌+◌, ◌-◌, ◌≤◌, ◌<◌, Bool, true, false, ◌&&◌, ◌||◌, not, ◌≡◌, ap, ap₂, ◌∙◌, sym, nat_le, ◌==◌}
use Rattle.std.proofs.Common.{◌⊎◌, inl, inr, List, [], ◌∷◌, length, set, arith, eqb-true, ne_eqb, leb-true, leb-false}
use borrow.Author.Tests.{lt-leb}
use Rattle.std.proofs.lemmas.Grind.{common_steps}
use Rattle.std.proofs.lemmas.Bool.{cond-false}
use Rattle.words.proofs.lists.Tests.{and-no, and-r}
use Rattle.text.specs.frames.Frame.{size}
use Rattle.results.specs.Results.{Results, with_result, cleared_results}
use Rattle.bindings.specs.Binding.{Binding, server_of}
use Rattle.charts.specs.Chart.{Chart, kind, scheme, argument, next0, mask, handler, schemes, end}
use Rattle.walk.specs.Stops.{start, by_arc, by_word, Stop}
use Rattle.walk.specs.Walk.{Tick, is_dropping, bottom}
use Rattle.walk.proofs.Facts.{StopOf, Facts}
use Rattle.walk.proofs.Views.{View, a-plain, a_call, a-function, a-home, a_back, a-begin, a-condition, stop-call, stop-function}
use Rattle.walk.proofs.Trace.{Open, moved_to, WalkPosition, at, tick_of, stop_tick, node_resumed, resumed, position_returned}
use Rattle.walk.proofs.Trace.{position_called, position_moved, tick_at, move, Serves, Caller, Under, Good, view-of}
use Rattle.image.specs.Layout.{tick_kind}
use Rattle.image.specs.Image.{Image, Label}
use Rattle.chart_rows.specs.Labels.{is_numbered, label}
use Rattle.chart_rows.proofs.chart_labels.LabelKinds.{label-owner}
use Rattle.translator.specs.Table.{table}
use Rattle.state.specs.State.{State, bottom_alone, label_at, place_at, number_at}
use Rattle.state.specs.Changes.{with_bits}
use Rattle.fitness.specs.Fitness.{is_of_handler}
use Rattle.ticks.specs.Tick.{row_leads, MachineTick, finished, stopped, moved_tick, popped_state, is_full_stack_kept, pushed_tick}
use Rattle.ticks.specs.Tick.{popped_tick, tick_by, tick}
use Rattle.rows.specs.Rows.{Found, found}
use Rattle.agreement.specs.Agreement.{is_full_call}
use Rattle.agreement.proofs.TableFacts.{TableFacts}
use Rattle.agreement.proofs.StopLabels.{label-home, is-numbered, label_held_by, held}
use Rattle.agreement.proofs.Places.{below, zeros_over, stacked, labelled, open_number, open_server, holding, state_of_position, bottom_of}
use Rattle.agreement.proofs.Places.{get-bottom, get-top, get-under, set-top, set-push, set-off, set-drop}
use Rattle.std.proofs.lemmas.Bool.Decides.{nat_tests}

-- what the machine answers for a tick of the walk that leads to state s
abbrev pub answer : ℕ → Tick → State → MachineTick
answer n t s = if is_full_call n t then stopped 17 else finished t.mask t.code s

-- the tick of a label x that is known, in a scheme called by number g
tick-at : (i : Image) (s : State) (w l g : ℕ) (x : Label) → place_at s (s.depth - 1) ≡ l → number_at s (s.depth - 1) ≡ g → label_at i l ≡ x
    → tick i s w ≡ tick_by i s w l x (with_result x.result g s.bits) (tick_kind x.kind)
unfolding tick
tick-at i s w l g x e h f = grind (arith, common_steps)

-- the kind of a node that calls, which is no End
abbrev Calling : ℕ → Type 0
Calling k = (k ≡ 2) ⊎ (k ≡ 4)

no-end : (k : ℕ) → Calling k → k ≡ 1 → ⊥
no-end k h q = grind (arith, nat_tests)

module _ (c : Chart) (n : ℕ) (n≤ : n ≤ 32) (serving : Binding) where
  abbrev state : Open → List Open → Results → Bool → State
  state x ks b f = state_of_position c n serving (at x ks b f)

  -- ---- what each kind of tick makes of the state of a position
  to-top : (m code u : ℕ) (x : Open) (ks : List Open) (b d : Results) (f : Bool) (r : Found) → r ≡ found (label c u)
      → let s = state x ks b f in moved_tick m code (with_bits s d) (s.depth - 1) r ≡ finished m code (state (moved_to x u) ks d f)
  to-top m code u x ks b d f r e = grind (arith, stacked, open_number, labelled, open_server, holding, set-top, zeros_over)

  to-under : (m code u : ℕ) (x k : Open) (ks : List Open) (b d : Results) (f : Bool) (r : Found) → length ks < 31 → r ≡ found (label c u)
      → let s = state x (k ∷ ks) b f in moved_tick m code (popped_state s d) (s.depth - 2) r ≡ finished m code (state (moved_to k u) ks d f)
  to-under m code u x k ks b d f r l e = grind (arith, common_steps, set-drop, set-off)

  module _ (facts : Facts c) (table_facts : TableFacts c) (serves : Serves c serving) where
    -- ---- whether a full stack is dropped
    -- the scheme of the bottom, under a node that calls
    bottom-scheme : (g : ℕ) (x : Open) (ks : List Open) → StopOf c x.server x.node → Calling (kind c x.node) → Under c g x ks
        → let v = (bottom_of x ks).node in (v < size c) × (is_numbered c v ≡ true) × (scheme c v ≡ g)
    bottom-scheme g x [] s call under = grind (arith, common_steps, is-numbered, no-end)
    bottom-scheme g x (k ∷ ks) s call (caller, under) = grind (arith, common_steps, bottom-scheme g k ks)

    keeps : (f : Bool) (o l : ℕ) → 2 ≤ l → (label_at (table c) l).owner ≡ bottom c f → (f ≡ true → handler c ≡ 0 → ⊥) → o ≡ n
        → ((table c).handler == 0 || is_of_handler (table c) l) ≡ not (is_dropping n c f o)
    unfolding table
    keeps f o l two own handled e = grind (arith, nat_tests)

    module _ (x : Open) (ks : List Open) (b : Results) (f : Bool) (g : Good c (at x ks b f)) (call : Calling (kind c x.node)) where
      full-kept : suc (length ks) ≡ n → is_full_stack_kept (table c) (state x ks b f) ≡ not (is_dropping n c f (suc (length ks)))
      full-kept e =
          let u : ℕ = (bottom_of x ks).node in
          let under = bottom-scheme (bottom c f) x ks g.top call g.under in
          let holds = table_facts.numbers u under.0 under.1 in
          let owned : (label_at (table c) (label c u)).owner ≡ bottom c f =
          ap (λ (y : Label). y.owner) holds.2 ∙ label-owner c u ∙ under.2 in
          ap (λ (l : ℕ). (table c).handler == 0 || is_of_handler (table c) l) (get-bottom (labelled c) x ks (zeros_over ks))
          ∙ keeps f (suc (length ks)) (label c u) holds.0 owned g.handled e

      -- a call of number h: the entry of the scheme that serves it is put above the top; at a full stack the places are dropped, or it is
      -- refused
      module _ (m j h : ℕ) (d : Results) (low : 16 ≤ j + h) (other : j + h ≡ 96 → ⊥) (some : 2 ≤ h) (most : h ≤ schemes c) where
        abbrev made : ℕ → Tick
        made code = tick_of x.node x.number m code (suc (length ks))

        abbrev Goal : Bool → Bool → Type 0
        Goal full t = pushed_tick (table c) (state x ks b f) m (j + h) h (server_of serving h) d full
            ≡ answer n (made (if t then 96 else j + h))
            (state_of_position c n serving (position_called c x ks h (server_of serving h) d f t))

        at-full : (t : Bool) → is_dropping n c f (suc (length ks)) ≡ t → suc (length ks) ≡ n
            → is_full_stack_kept (table c) (state x ks b f) ≡ not t → Goal true t
        unfolding table below
        at-full t q e k = grind (arith, nat_tests)

        room : (t : Bool) → is_dropping n c f (suc (length ks)) ≡ t → suc (length ks) < n → Goal false t
        room true q e = absurd (let z : suc (length ks) ≡ n =
            eqb-true (suc (length ks)) n (and-r (not f && not (handler c == 0)) (suc (length ks) == n) q) in omega arith)
        room false q e =
            let k : ℕ = server_of serving h in
            let l = serves h some most in
            let o : ℕ = suc (length ks) in
            let gs : List ℕ = set (stacked open_server x ks) o k in
            ap₂ (λ (ls hs : List ℕ). finished m (j + h) (holding n (suc o) serving (cleared_results h d) ls hs gs))
            (ap (set (stacked (labelled c) x ks) o) (table_facts.entries k (omega (arith, l)) l.1)
            ∙ set-push (labelled c) x ks (label c (start c k)) (omega arith))
            (set-push open_number x ks h (omega arith))
            ∙ ap (λ (zs : List ℕ). finished m (j + h) (holding n (suc o) serving (cleared_results h d)
            (below (labelled c) (x ∷ ks) (label c (start c k) ∷ zeros_over (x ∷ ks)))
            (below open_number (x ∷ ks) (h ∷ zeros_over (x ∷ ks))) zs))
            (set-push open_server x ks k (omega arith))
            ∙ sym (cond-false (is_full_call n (made (j + h))) (stopped 17) _
            (and-no (nat_le 16 (j + h) && not (j + h == 96)) (suc (length ks) == n) (ne_eqb (suc (length ks)) n (λ z. omega arith))))

        to-push : length ks < n → Goal (nat_le n (suc (length ks))) (is_dropping n c f (suc (length ks)))
        to-push deep = search (arith, leb-false, leb-true, nat_le, full-kept, at-full, room)

    -- the row that a caller takes when its call has ended
    resumed-row : (h : ℕ) (k : Open) (w : ℕ) (b : Results) → Caller c h k
        → row_leads (table c) b (labelled c k) w ≡ found (label c (resumed c k.node w b))
    unfolding table
    resumed-row h k w b caller = grind (arith, stop-function, node_resumed, labelled, a-function, held, stop-call)

    tick-back : (x : Open) (ks : List Open) (b : Results) (f : Bool) (w : ℕ) → length ks < n → Good c (at x ks b f)
        → let s = state x ks b f in popped_tick (table c) s w 0 b (nat_le s.depth 1) ≡ finished 0 3
        (state_of_position c n serving (position_returned c ks w b f))
    unfolding below
    tick-back x [] b f w low g =
        let e = facts.ends 1 (omega arith) facts.first in
        ap (λ (l : ℕ). finished 0 3 (holding n 1 serving b (bottom_alone l) (bottom_alone 1) (bottom_alone 1)))
        (sym (label-home c (end c 1) e.1 e.2))
    tick-back x (k ∷ ks) b f w low g =
        ap (popped_tick (table c) (state x (k ∷ ks) b f) w 0 b) (lt-leb (suc (suc (length ks))) 1 (omega arith))
        ∙ to-under 0 3 (resumed c k.node w b) x k ks b b f _ (omega arith)
        (ap (λ (l : ℕ). row_leads (table c) b l w) (get-under (labelled c) k ks (labelled c x) (zeros_over (k ∷ ks)))
        ∙ resumed-row x.number k w b g.under.0)

    -- with the label that the table holds for the stop
    tick-by : (x : Open) (ks : List Open) (b : Results) (f : Bool) (w : ℕ) → length ks < n
        → Good c (at x ks b f) → {s : Stop} → View c x.node s
        → let y = label_held_by c x.node s in let t = is_dropping n c f (suc (length ks)) in
        tick_by (table c) (state x ks b f) w (labelled c x) y (with_result y.result x.number b) (tick_kind y.kind)
        ≡ answer n (stop_tick t (suc (length ks)) x s)
        (state_of_position c n serving (position_moved c t x ks (record { word = w; binding = serving }) b f s))
    unfolding table
    tick-by x ks b f w low g (a-plain e a) =
        to-top (mask c x.node) 0 (by_arc c w (next0 c x.node)) x ks b _ f _ (table_facts.row-plain x.node w _ g.top.inside e)
    tick-by x ks b f w low g (a_call e a) = let l = facts.calls x.node g.top.inside e a in
        to-push x ks b f g (inl e) (mask c x.node) 16 (argument c x.node) _ (omega arith)
        (λ q. omega (arith, facts.most)) l.0 l.1 low
    tick-by x ks b f w low g (a-function e) = let l = facts.functions x.node g.top.inside e in
        to-push x ks b f g (inr e) 0 64 (argument c x.node) b (omega arith) (λ q. omega (arith, facts.most)) l.0 l.1 low
    tick-by x ks b f w low g (a-home e s) =
        to-top 0 4 (start c 1) x ks b b f _ (ap found (table_facts.entries 1 (omega arith) facts.first))
    tick-by x ks b f w low g (a_back e s) = tick-back x ks b f w low g
    tick-by x ks b f w low g (a-begin e) =
        to-top 0 0 (by_word c w (next0 c x.node)) x ks b b f _ (table_facts.row-begin x.node w _ g.top.inside e g.top.stopping)
    tick-by x ks b f w low g (a-condition e) =
        to-top 0 0 (by_word c w x.node) x ks b b f _ (table_facts.row-condition x.node w _ g.top.inside e g.top.stopping)

    pub tick-is : (w : ℕ) (x : WalkPosition) → length x.callers < n → Good c x
        → let y = move n c (record { word = w; binding = serving }) x in
        tick (table c) (state_of_position c n serving x) w ≡ answer n (tick_at n c x) (state_of_position c n serving y)
    tick-is w x low g = let v = view-of c facts x g in
        tick-at (table c) (state_of_position c n serving x) w (labelled c x.now) x.now.number _
        (get-top (labelled c) x.callers (labelled c x.now) (zeros_over x.callers))
        (get-top open_number x.callers x.now.number (zeros_over x.callers))
        (held c x.now.node table_facts g.top v)
        ∙ tick-by x.now x.callers x.results x.first w low g v
