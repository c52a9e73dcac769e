-- One tick on the smaller image is the tick on the given one, its labels renumbered; so are any number of ticks.
use Rattle.std.proofs.Common.{if◌then◌else◌, ℕ, zero, suc, ◌+◌, ◌-◌, ◌≤◌, ◌<◌, Bool, true, false, ◌≡◌, refl, sym, ◌∙◌, ap, ap₂, subst, List, nat_le}
use Rattle.std.proofs.Common.{[], ◌∷◌, map, arith, length, set, leb-false}
use Rattle.std.proofs.lemmas.Grind.{common_steps}
use Rattle.results.specs.Results.{Results, with_result, cleared_results}
use Rattle.bindings.specs.Binding.{server_of}
use Rattle.image.specs.Layout.{tick_kind}
use Rattle.image.specs.Image.{Image, Label}
use Rattle.image.specs.inner.Sound.{SoundImage}
use Rattle.rows.specs.Rows.{Found, found, missing}
use Rattle.state.specs.State.{State, label_at, entry_at, place_at, number_at}
use Rattle.state.specs.Changes.{with_places, with_depth, with_bits}
use Rattle.fitness.proofs.Fitness.{Fits}
use Rattle.ticks.specs.Tick.{row_leads, MachineTick, finished, stopped, moved_tick, popped_state, state_alone, opened_state}
use Rattle.ticks.specs.Tick.{is_full_stack_kept, full_tick, pushed_tick, popped_tick, tick_by, tick}
use Rattle.ticks.proofs.Leads.{call-kind, kind-high, carry-told}
use Rattle.ticks.proofs.Keeps.{Keeps, tick-keeps}
use Rattle.runs.specs.Run.{MachineRun, run_after, ticks}
use Rattle.covering.proofs.Hits.{OneRow}
use Rattle.grouping.proofs.Rounds.{ClassRound}
use Rattle.minimising.specs.group_numbers.Smaller.{renumbered_label, joined_labels}
use Rattle.minimising.proofs.group_numbers.Numbering.{new-zero, label-new}
use Rattle.minimised.specs.Alike.{Stops17}
use Rattle.minimised.specs.Renamed.{renumbered_state, renamed_tick, renamed_machine_run}
use Rattle.minimised.proofs.Renumbered.{map-set, same-handler, entry-at, place-new, only-new, renamed_found, GroupLeads, row-some, row-new}
use Rattle.minimised.proofs.Fitting.{of-handler-new}

-- the tick of a label that is known
tick-at : (i : Image) (s : State) (w l : ℕ) (x : Label) → place_at s (s.depth - 1) ≡ l → label_at i l ≡ x
    → tick i s w ≡ tick_by i s w l x (with_result x.result (number_at s (s.depth - 1)) s.bits) (tick_kind x.kind)
unfolding tick
tick-at i s w l x e f = grind (arith, common_steps)

module _ (i : Image) (S : SoundImage i) (c : List ℕ) (R : ClassRound i c) where
  abbrev new : ℕ → ℕ
  new = renumbered_label c

  abbrev small : Image
  small = joined_labels i c

  -- ---- changes of a state
  moved-new : (m code : ℕ) (t : State) (k : ℕ) (f : Found)
      → moved_tick m code (renumbered_state c t) k (renamed_found c f) ≡ renamed_tick c (moved_tick m code t k f)
  moved-new m code t k (found u) =
      ap (λ (ps : List ℕ). finished m code (with_places t ps t.numbers t.servers)) (map-set new t.places k u)
  moved-new m code t k missing = refl

  dropping-new : (s : State) (b : Results) → popped_state (renumbered_state c s) b ≡ renumbered_state c (popped_state s b)
  dropping-new s b =
      let d : ℕ = s.depth - 1 in
      ap (λ (ps : List ℕ). with_depth (with_places (with_bits s b) ps (set s.numbers d 0) (set s.servers d 0)) d)
      (ap (set (map new s.places) d) (sym (new-zero i S c R)) ∙ map-set new s.places d 0)

  alone-new : (s : State) (l h : ℕ) (b : Results) → state_alone (renumbered_state c s) (new l) h b
      ≡ renumbered_state c (state_alone s l h b)
  alone-new s l h b = grind (arith, common_steps, only-new)

  opening-new : (s : State) (h k : ℕ) (b : Results)
      → opened_state (renumbered_state c s) (entry_at small k) h k b ≡ renumbered_state c (opened_state s (entry_at i k) h k b)
  opening-new s h k b =
      let d : ℕ = s.depth in
      ap (λ (ps : List ℕ). with_depth (with_places (with_bits s b) ps (set s.numbers d h) (set s.servers d k)) (suc d))
      (ap (set (map new s.places) d) (entry-at i S c R k) ∙ map-set new s.places d (entry_at i k))

  -- ---- a call
  module _ (s : State) (inside : place_at s 0 < length i.labels) where
    keeps-new : is_full_stack_kept small (renumbered_state c s) ≡ is_full_stack_kept i s
    keeps-new = grind (arith, common_steps, same-handler, of-handler-new, place-new)

    full-new : (m : ℕ) (b : Results) → full_tick small (renumbered_state c s) m b ≡ renamed_tick c (full_tick i s m b)
    full-new m b =
        ap₂ (λ (t : Bool) (g : ℕ). by t (state_alone (renumbered_state c s) (entry_at small g) g (cleared_results g b))) keeps-new
        (same-handler i S c R)
        ∙ ap (λ (l : ℕ). by (is_full_stack_kept i s) (state_alone (renumbered_state c s) l i.handler (cleared_results i.handler b)))
        (entry-at i S c R i.handler)
        ∙ ap (by (is_full_stack_kept i s)) (alone-new s (entry_at i i.handler) i.handler (cleared_results i.handler b))
        ∙ go (is_full_stack_kept i s) (state_alone s (entry_at i i.handler) i.handler (cleared_results i.handler b))
      where
        by : Bool → State → MachineTick
        by t u = if t then stopped 17 else finished m 96 u

        go : (t : Bool) (u : State) → (if t then stopped 17 else finished m 96 (renumbered_state c u)) ≡ renamed_tick
            c (if t then stopped 17 else finished m 96 u)
        go true u = refl
        go false u = refl

    pushed-new : (m code h k : ℕ) (b : Results) (t : Bool)
        → pushed_tick small (renumbered_state c s) m code h k b t ≡ renamed_tick c (pushed_tick i s m code h k b t)
    pushed-new m code h k b true = full-new m b
    pushed-new m code h k b false = ap (finished m code) (opening-new s h k (cleared_results h b))

module _ (i : Image) (S : SoundImage i) (one : OneRow i) where
  -- ---- a state that fits: its top, and the label beneath it, which is a call
  module _ (s : State) (f : Fits i s) where
    abbrev top : ℕ
    top = place_at s (s.depth - 1)

    abbrev under : ℕ
    under = place_at s (s.depth - 2)

    top-inside : top < length i.labels
    top-inside = f.labels (s.depth - 1) (omega (arith, f.some))

    under-inside : nat_le s.depth 1 ≡ false → under < length i.labels
    under-inside e = f.labels (s.depth - 2) (omega (arith, leb-false s.depth 1 e))

    under-high : nat_le s.depth 1 ≡ false → 2 ≤ under
    under-high e = grind (arith, common_steps, kind-high, carry-told, leb-false, call-kind, under-inside)

    -- ---- no tick misses a row
    moved-some : (m code : ℕ) (t : State) (k : ℕ) (g : Found) (u : ℕ) → g ≡ found u → Stops17 (moved_tick m code t k g)
    moved-some m code t k g u e = subst (λ (x : Found). Stops17 (moved_tick m code t k x)) (sym e) tt

    pushed-some : (m code h k : ℕ) (b : Results) (t : Bool) → Stops17 (pushed_tick i s m code h k b t)
    pushed-some m code h k b true = grind (arith, common_steps)
    pushed-some m code h k b false = grind (arith, common_steps)

    popped-some : (w m : ℕ) (b : Results) (t : Bool) → nat_le s.depth 1 ≡ t → Stops17 (popped_tick i s w m b t)
    popped-some w m b true e = grind (arith, common_steps)
    popped-some w m b false e = grind (arith, common_steps, row-some, under-inside, under-high, moved-some)

    some-by : (w : ℕ) (b : Results) (k : ℕ) → (label_at i top).kind ≡ k → Stops17 (tick_by i s w top (label_at i top) b (tick_kind k))
    some-by w b zero e = grind (arith, common_steps, kind-high, row-some, top-inside, moved-some)
    some-by w b (suc zero) e = grind (arith, common_steps, pushed-some)
    some-by w b (suc (suc zero)) e = grind (arith, common_steps, pushed-some)
    some-by w b (suc (suc (suc zero))) e = grind (arith, common_steps, popped-some)
    some-by w b (suc (suc (suc (suc k)))) e = grind (arith, common_steps)

    pub never-18 : (w : ℕ) → Stops17 (tick i s w)
    unfolding tick
    never-18 w = let x : Label = label_at i top in some-by w (with_result x.result (number_at s (s.depth - 1)) s.bits) x.kind refl

  -- ---- one tick
  module _ (c : List ℕ) (R : ClassRound i c) (leads : GroupLeads i c) where
    popped-new : (s : State) → Fits i s → (w m : ℕ) (b : Results) (t : Bool) → nat_le s.depth 1 ≡ t
        → popped_tick (joined_labels i c) (renumbered_state c s) w m b t ≡ renamed_tick c (popped_tick i s w m b t)
    popped-new s f w m b true e =
        ap (λ (l : ℕ). finished m 3 (state_alone (renumbered_state c s) l 1 b)) (sym (new-zero i S c R))
        ∙ ap (finished m 3) (alone-new i S c R s 0 1 b)
    popped-new s f w m b false e =
        let k : ℕ = s.depth - 2 in
        ap₂ (λ (t : State) (l : ℕ). moved_tick m 3 t k (row_leads (joined_labels i c) b l w)) (dropping-new i S c R s b)
        (place-new i S c R s k)
        ∙ ap (moved_tick m 3 (renumbered_state c (popped_state s b)) k)
        (row-new i S one b (under s f) w (under-high s f e) (under-inside s f e) c R leads)
        ∙ moved-new i S c R m 3 (popped_state s b) k (row_leads i b (under s f) w)

    tick-by : (s : State) (f : Fits i s) (w : ℕ) (b : Results) (k : ℕ) → (label_at i (top s f)).kind ≡ k
        → tick_by (joined_labels i c) (renumbered_state c s) w (renumbered_label c (top s f)) (label_at i (top s f)) b (tick_kind k)
        ≡ renamed_tick c (tick_by i s w (top s f) (label_at i (top s f)) b (tick_kind k))
    tick-by s f w b zero e =
        let l : ℕ = top s f in
        let k : ℕ = s.depth - 1 in
        ap (moved_tick (label_at i l).mask 0 (renumbered_state c (with_bits s b)) k)
        (row-new i S one b l w (kind-high i S l (top-inside s f) (omega arith)) (top-inside s f) c R leads)
        ∙ moved-new i S c R (label_at i l).mask 0 (with_bits s b) k (row_leads i b l w)
    tick-by s f w b (suc zero) e = let h : ℕ = (label_at i (top s f)).called in
        pushed-new i S c R s (f.labels 0 f.some) (label_at i (top s f)).mask (16 + h)
        h (server_of s.serving h) b (nat_le s.size s.depth)
    tick-by s f w b (suc (suc zero)) e = let h : ℕ = (label_at i (top s f)).called in
        pushed-new i S c R s (f.labels 0 f.some) (label_at i (top s f)).mask (64 + h)
        h (server_of s.serving h) b (nat_le s.size s.depth)
    tick-by s f w b (suc (suc (suc zero))) e = popped-new s f w (label_at i (top s f)).mask b (nat_le s.depth 1) refl
    tick-by s f w b (suc (suc (suc (suc k)))) e =
        let m : ℕ = (label_at i (top s f)).mask in
        ap (λ (u : ℕ). moved_tick m 4 (renumbered_state c (with_bits s b)) (s.depth - 1) (found u)) (entry-at i S c R 1)
        ∙ moved-new i S c R m 4 (with_bits s b) (s.depth - 1) (found (entry_at i 1))

    pub tick-new : (s : State) → Fits i s → (w : ℕ) → tick (joined_labels i c) (renumbered_state c s) w ≡ renamed_tick c (tick i s w)
    tick-new s f w =
        let l : ℕ = top s f in
        let x : Label = label_at i l in
        let b : Results = with_result x.result (number_at s (s.depth - 1)) s.bits in
        tick-at (joined_labels i c) (renumbered_state c s) w (renumbered_label c l) x (place-new i S c R s (s.depth - 1))
        (label-new i S c R l (top-inside s f))
        ∙ tick-by s f w b x.kind refl
        ∙ sym (ap (renamed_tick c) (tick-at i s w l x refl refl))

    -- ---- any number of ticks
    pub ticks-new : (ws : List ℕ) (s : State) → Fits i s → ticks (joined_labels i c) (renumbered_state c s) ws
        ≡ renamed_machine_run c (ticks i s ws)
    unfolding ticks
    ticks-new [] s f = refl
    ticks-new (w ∷ ws) s f =
        ap (run_after (renumbered_state c s) (λ t. ticks (joined_labels i c) t ws)) (tick-new s f w)
        ∙ go (tick i s w) (tick-keeps i S s f w) (ticks-new ws)
      where
        go : (t : MachineTick) → Keeps i S t
            → ((u : State) → Fits i u → ticks (joined_labels i c) (renumbered_state c u) ws ≡ renamed_machine_run c (ticks i u ws))
            → run_after (renumbered_state c s) (λ t. ticks (joined_labels i c) t ws) (renamed_tick c t)
            ≡ renamed_machine_run c (run_after s (λ u. ticks i u ws) t)
        go (finished m k u) q ih =
            ap (λ (r : MachineRun). record { masks = m ∷ r.masks; codes = k ∷ r.codes; state = r.state; verdict = r.verdict }) (ih u q)
        go (stopped k) q ih = refl
