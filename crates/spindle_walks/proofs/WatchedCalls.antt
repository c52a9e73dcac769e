-- One call, by what it does to the spindle that is watched: it leaves its state, or makes the tick of the walk's position and moves on.
use Rattle.std.proofs.Common.{if◌then◌else◌, ℕ, ◌+◌, ◌-◌, ◌≤◌, ◌<◌, Bool, true, false, ◌≡◌, refl, sym, ◌∙◌, ap, subst, List, length, set}
use Rattle.std.proofs.Common.{length-set, get_or-set_same, get_or-set_other, arith}
use Rattle.std.proofs.lemmas.Grind.{common_steps}
use Rattle.std.proofs.lemmas.Bool.{cases_Bool}
use Rattle.bindings.specs.Binding.{Binding, rebound_binding}
use Rattle.text.specs.frames.Frame.{contents}
use Rattle.text.specs.frames.Verdict.{fine}
use Rattle.text.specs.frames.Answer.{success}
use Rattle.charts.specs.Chart.{Chart}
use Rattle.walk.specs.Walk.{Signal}
use Rattle.walk.proofs.Facts.{Facts}
use Rattle.walk.proofs.Trace.{WalkPosition, tick_at, move, Serves}
use Rattle.image.specs.Decode.{decoded_image}
use Rattle.image.specs.Check.{image_verdict}
use Rattle.translator.specs.Table.{table}
use Rattle.state.specs.State.{State, no_state}
use Rattle.fitness.proofs.Fitness.{Fits}
use Rattle.ticks.specs.Tick.{MachineTick, finished, stopped, tick}
use Rattle.ticks.proofs.Keeps.{Keeps, tick-keeps}
use Rattle.rebinding.specs.Rebind.{rebind}
use Rattle.rebinding.proofs.Keeps.{rebinding-fits}
use Rattle.agreement.specs.Agreement.{is_barred_rebinding, is_full_call, binding_after}
use Rattle.agreement.proofs.TableFacts.{TableFacts}
use Rattle.agreement.proofs.Places.{state_of_position}
use Rattle.agreement.proofs.Simulation.{answer, tick-is}
use Rattle.agreement.proofs.Ticks.{StandsWell, moves-on}
use Rattle.agreement.proofs.Chain.{sound, serves, same-bar, rebind-is}
use Rattle.spindles.specs.Spindles.{state_at, SpinOutcome, spin}
use Rattle.spindles.specs.Laws.{OthersLeft}
use Rattle.spindles.proofs.OneCall.{Comes, turns_back, on, comes, spin-by}
use Rattle.spindles.proofs.Others.{others-left}
use Rattle.spindles.specs.spindle_places.Calls.{Head, spins, rebinds, spin_on, head_after}
use Rattle.spindle_walks.specs.Walks.{is_success}

-- ---- what a finished tick tells of the answer that it is
abbrev mask_of : MachineTick → ℕ
mask_of (finished m k t) = m
mask_of (stopped n) = 0

abbrev code_of : MachineTick → ℕ
code_of (finished m k t) = k
code_of (stopped n) = 0

abbrev after_of : State → MachineTick → State
after_of s (finished m k t) = t
after_of s (stopped n) = s

abbrev ticked_count : MachineTick → ℕ
ticked_count (finished m k t) = 1
ticked_count (stopped n) = 0

-- a word and the binding that is told before it
abbrev pub signal_told : Binding → ℕ → Signal
signal_told s w = record { word = w; binding = s }

-- the states of a list are as many after a call
spin-length : (t : List ℕ) (states : List State) (taken k w : ℕ) → length (spin t states taken k w).states ≡ length states
spin-length t states taken k w = grind (arith, common_steps, spin-by, comes, length-set)

left-alone : (t : List ℕ) (states : List State) (taken j w k : ℕ) → (k ≡ j → ⊥)
    → state_at (spin t states taken j w).states k ≡ state_at states k
unfolding OthersLeft
left-alone = others-left

module _ (c : Chart) (facts : Facts c) (table_facts : TableFacts c) (image : List ℕ) (passes : image_verdict image ≡ fine)
    (decodes : decoded_image (contents image) ≡ table c) (n : ℕ) (n≤ : n ≤ 32) (k : ℕ) where
  -- the spindle stands where the walk does
  pub record At (h : Head) (s : Binding) (x : WalkPosition) : Type 0 where
    pub inside : k < length h.states
    pub at : state_at h.states k ≡ state_of_position c n s x
    pub stands : StandsWell c n x
    pub fits : Fits (table c) (state_of_position c n s x)

  -- ---- a call of this spindle
  pub data Turned (h : Head) (s : Binding) (x : WalkPosition) (w : ℕ) (r : SpinOutcome) : Type 0 where
    stays : is_success r.reply ≡ false → At (record { states = r.states; taken = r.taken }) s x → Turned h s x w r
    steps : is_success r.reply ≡ true → r.mask ≡ (tick_at n c x).mask → r.code ≡ (tick_at n c x).code
        → At (record { states = r.states; taken = r.taken }) s (move n c (signal_told s w) x) → Turned h s x w r

  module _ (h : Head) (s : Binding) (x : WalkPosition) (w : ℕ) (z : At h s x) where
    abbrev y : WalkPosition
    y = move n c (signal_told s w) x

    serving : Serves c s
    serving = serves c facts table_facts image passes decodes n n≤ s x z.fits

    tick-at : tick (table c) (state_at h.states k) w ≡ answer n (tick_at n c x) (state_of_position c n s y)
    tick-at = grind (arith, common_steps, tick-is, serving)

    kept : (m code : ℕ) (t : State) → tick (table c) (state_at h.states k) w ≡ finished m code t → Fits (table c) t
    kept m code t e =
        let sd = sound c facts table_facts image passes decodes n n≤ in
        subst (Keeps (table c) sd) e
        (tick-keeps (table c) sd (state_at h.states k) (subst (Fits (table c)) (sym z.at) z.fits) w)

    turned-by : {r : SpinOutcome} → Comes (image_verdict image) (table c) h.states h.taken k w r → Turned h s x w r
    turned-by (turns_back m j) = stays refl (record { inside = z.inside; at = z.at; stands = z.stands; fits = z.fits })
    turned-by (on m code t passed fit e free) = go (is_full_call n (tick_at n c x)) refl (sym tick-at ∙ e)
      where
        go : (b : Bool) → is_full_call n (tick_at n c x) ≡ b
            → (if is_full_call n (tick_at n c x) then stopped 17
            else finished (tick_at n c x).mask (tick_at n c x).code (state_of_position c n s y)) ≡ finished m code t
            → Turned h s x w (record {
              reply = success 1;
              mask = m;
              code = code;
              states = set h.states k t;
              taken = h.taken + t.depth - (state_at h.states k).depth;
            })
        go true f q = absurd (
            let o : ◌≡◌ {A = ℕ} 0 1 =
            ap ticked_count
            (sym (ap (λ (b : Bool). if b then stopped 17
            else finished (tick_at n c x).mask (tick_at n c x).code (state_of_position c n s y)) f)
            ∙ q) in
            omega arith)
        go false f q =
            let o : finished (tick_at n c x).mask (tick_at n c x).code (state_of_position c n s y) ≡ finished m code t =
            sym (ap (λ (b : Bool). if b then stopped 17
            else finished (tick_at n c x).mask (tick_at n c x).code (state_of_position c n s y)) f)
            ∙ q in
            let same : t ≡ state_of_position c n s y = sym (ap (after_of t) o) in
            steps refl (sym (ap mask_of o)) (sym (ap code_of o))
            (record {
              inside = subst (λ (l : ℕ). k < l) (sym (length-set h.states k t)) z.inside;
              at = get_or-set_same h.states k t no_state z.inside ∙ same;
              stands = moves-on c n s facts serving w x z.stands f;
              fits = subst (Fits (table c)) same (kept m code t e);
            })

    pub turned : Turned h s x w (spin_on h image k w)
    turned = grind (arith, common_steps, spin-by, comes, turned-by)

  -- ---- a call of another
  pub passed-over : (h : Head) (s : Binding) (x : WalkPosition) → At h s x → (t : List ℕ) (j w : ℕ) → (k ≡ j → ⊥)
      → At (head_after h (spins t j w)) s x
  passed-over h s x z t j w other = grind (arith, common_steps, spin-length, left-alone)

  -- ---- rebindings
  pub bound-over : (h : Head) (s : Binding) (x : WalkPosition) → At h s x → (t : List ℕ) (j m g : ℕ) → (k ≡ j → ⊥)
      → At (head_after h (rebinds t j m g)) s x
  bound-over h s x z t j m g other = grind (arith, common_steps, length-set, get_or-set_other)

  module _ (h : Head) (s : Binding) (x : WalkPosition) (z : At h s x) (m g : ℕ) where
    bound-state : (t : Bool) → is_barred_rebinding c m g ≡ t
        → (rebind image (state_at h.states k) m g).state ≡ state_of_position c n (if t then s else rebound_binding m g s) x
    bound-state t e = grind (arith, common_steps, same-bar, rebind-is)

    bound-fits : (t : Bool) → is_barred_rebinding c m g ≡ t
        → Fits (table c) (state_of_position c n (if t then s else rebound_binding m g s) x)
    bound-fits true e = z.fits
    bound-fits false e =
        rebinding-fits (table c) (sound c facts table_facts image passes decodes n n≤).most (state_of_position c n s x) m g z.fits
        (same-bar c facts table_facts image passes decodes n n≤ m g ∙ e)

    pub bound-own : At (head_after h (rebinds image k m g)) (binding_after c m g s) x
    bound-own = grind (arith, common_steps, cases_Bool (is_barred_rebinding c m g), get_or-set_same, length-set, bound-state, bound-fits)
