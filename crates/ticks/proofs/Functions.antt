-- A function's label takes its row for bit 0 if nothing writes 1 to the bit of the number called meanwhile:
-- from the call on the bit is 0, and the label stays in its place under the top, until the call's own return.
use Rattle.std.proofs.Common.{if◌then◌else◌, ℕ, zero, suc, ◌+◌, ◌-◌, ◌≤◌, ◌<◌, Bool, true, false, ◌≡◌, refl, ap, ◌∙◌, subst, nat_le}
use Rattle.std.proofs.Common.{◌⊎◌, inl, inr, ◌==◌, length, get_or-set_other, arith, eqb-true, eq-eqb}
use borrow.Author.Tests.{eqb-false, lt-leb}
use Rattle.std.proofs.lemmas.Grind.{common_steps}
use Rattle.words.proofs.lists.Tests.{no_both, or-l, or-cases, and-l, and-r, and-true, and-false}
use Rattle.results.specs.Results.{Results, result_of, with_result, cleared_results}
use Rattle.bindings.specs.Binding.{server_of}
use Rattle.results.proofs.ResultLaws.{cleared-own, result-keeps}
use Rattle.text.specs.frames.Frame.{contents}
use Rattle.image.specs.Layout.{tick_kind}
use Rattle.image.specs.Image.{Image, Label, return_label}
use Rattle.image.specs.Decode.{decoded_image}
use Rattle.image.specs.inner.Sound.{SoundImage}
use Rattle.image.proofs.Accepted.{image-sound}
use Rattle.rows.specs.Rows.{best_row, Found, found, missing, lead_of}
use Rattle.state.specs.State.{State, label_at, entry_at, place_at, number_at}
use Rattle.state.specs.Changes.{with_bits}
use Rattle.fitness.specs.Fitness.{is_call, is_of_handler}
use Rattle.fitness.proofs.FitCases.{kind-call}
use Rattle.fitness.proofs.Fitness.{Fits, unfits}
use Rattle.ticks.specs.Tick.{row_leads, MachineTick, finished, stopped, moved_tick, state_alone, is_full_stack_kept, pushed_tick}
use Rattle.ticks.specs.Tick.{popped_tick, tick_by, tick, top_of}
use Rattle.ticks.specs.Functions.{is_at_full_call, CallClears, Drop, Drops, is_machine_write_of_one, is_return_at, MachineUnwritten, none}
use Rattle.ticks.specs.Functions.{more, binding_changed, return_tick, ZeroRow}

-- ---- a finished call

pub call-clears : CallClears
unfolding CallClears tick
call-clears i s call w m code t e = grind (arith, common_steps)

-- ---- a drop
abbrev Dropped : Image → Label → State → MachineTick → Type 0
Dropped i x s (finished m code t) = Drop i x s m code t
Dropped i x s (stopped n) = Unit {0}

pub drops : Drops
unfolding Drops tick
drops i s full w m code t e = subst (Dropped i x s) e
    (go (or-cases (x.kind == 1) (x.kind == 2) (and-l (is_call x) (nat_le s.size s.depth) full)))
  where
    x : Label
    x = label_at i (top_of s)

    b : Results
    b = with_result x.result (number_at s (s.depth - 1)) s.bits

    dropped : (r : Bool) → is_full_stack_kept i s ≡ r → Dropped i x s (if r then stopped 17
        else finished x.mask 96 (state_alone s (entry_at i i.handler) i.handler (cleared_results i.handler b)))
    dropped true q = tt
    dropped false q = record {
      mask = refl;
      coded = refl;
      alone = refl;
      places = refl;
      numbers = refl;
      servers = refl;
      serving = refl;
      cleared = cleared-own i.handler b;
      kept = λ h l other. let z : i.handler ≡ 0 → ⊥ = eqb-false i.handler 0 (or-l (i.handler == 0) (is_of_handler i (place_at s 0)) q) in
          get_or-set_other b (i.handler - 1) (h - 1) false false (λ k. other (omega arith));
    }

    pushes : (code : ℕ) (r : Bool) → r ≡ true → Dropped i x s (pushed_tick i s x.mask code x.called (server_of s.serving x.called) b r)
    pushes code true q = dropped (is_full_stack_kept i s) refl
    pushes code false q = no_both false q refl

    go : ((x.kind == 1) ≡ true) ⊎ ((x.kind == 2) ≡ true) → Dropped i x s (tick_by i s w (top_of s) x b (tick_kind x.kind))
    go (inl p) = rw (eqb-true x.kind 1 p)
        (pushes (16 + x.called) (nat_le s.size s.depth) (and-r (is_call x) (nat_le s.size s.depth) full))
    go (inr p) = rw (eqb-true x.kind 2 p)
        (pushes (64 + x.called) (nat_le s.size s.depth) (and-r (is_call x) (nat_le s.size s.depth) full))

-- a call that does not find the stack full has a place free
free : (i : Image) (s : State) → is_at_full_call i s ≡ false → is_call (label_at i (top_of s)) ≡ true → nat_le s.size s.depth ≡ false
free i s e call = and-false (is_call (label_at i (top_of s))) (nat_le s.size s.depth) e call

-- ---- label l at place d - 1 under the top, and the bit of number h 0
module _ (l d h : ℕ) (some : 1 ≤ d) (deep : 2 ≤ h) where
  record Waits (s : State) : Type 0 where
    above : suc d ≤ s.depth
    label : place_at s (d - 1) ≡ l
    unset : result_of h s.bits ≡ false

  abbrev After : MachineTick → Type 0
  After (finished m code t) = Waits t
  After (stopped n) = Unit {0}

  module _ (i : Image) (s : State) (y : Waits s) where
    moved-waits : (m code : ℕ) (t : State) (k : ℕ) (f : Found) → (d - 1 ≡ k → ⊥) → Waits t → After (moved_tick m code t k f)
    moved-waits m code t k (found u) p z = grind (arith, common_steps)
    moved-waits m code t k missing p z = grind (arith, common_steps)

    bits-wait : (b : Results) → result_of h b ≡ false → Waits (with_bits s b)
    bits-wait b e = record { above = y.above; label = y.label; unset = e }

    pushed-waits : (m code g k : ℕ) (b : Results) → nat_le s.size s.depth ≡ false → result_of h b ≡ false
        → After (pushed_tick i s m code g k b (nat_le s.size s.depth))
    pushed-waits m code g k b room e = grind (arith, common_steps)

    popped-waits : (w m : ℕ) (b : Results) → (s.depth ≡ suc d → ⊥) → result_of h b ≡ false
        → After (popped_tick i s w m b (nat_le s.depth 1))
    popped-waits w m b low e = grind (arith, common_steps, get_or-set_other, lt-leb, moved-waits)

    -- by the tick kind of the top label; a call has a place free, and a return is not the call's own
    by-waits : (w k : ℕ) (x : Label) (b : Results) → result_of h b ≡ false → (1 ≤ k → k ≤ 2 → nat_le s.size s.depth ≡ false)
        → (k ≡ 3 → s.depth ≡ suc d → ⊥) → After (tick_by i s w (top_of s) x b (tick_kind k))
    by-waits w zero x b e room own = grind (arith, common_steps, moved-waits, bits-wait)
    by-waits w (suc zero) x b e room own = grind (arith, common_steps, pushed-waits)
    by-waits w (suc (suc zero)) x b e room own = grind (arith, common_steps, pushed-waits)
    by-waits w (suc (suc (suc zero))) x b e room own = grind (arith, common_steps, popped-waits)
    by-waits w (suc (suc (suc (suc k)))) x b e room own = grind (arith, common_steps, moved-waits, bits-wait)

    tick-waits : (w : ℕ) → is_at_full_call i s ≡ false → is_return_at i (suc d) s ≡ false → is_machine_write_of_one i h s ≡ false
        → After (tick i s w)
    unfolding tick
    tick-waits w room own unwritten =
        let x : Label = label_at i (top_of s) in
        by-waits w x.kind x (with_result x.result (number_at s (s.depth - 1)) s.bits)
        (result-keeps x.result (number_at s (s.depth - 1)) h s.bits deep
        (λ p q. no_both _ (and-true _ _ (eq-eqb (number_at s (s.depth - 1)) h p) (eq-eqb x.result 2 q)) unwritten) y.unset)
        (λ low high. free i s room (kind-call x.kind low (omega arith)))
        (λ p q. no_both _ (and-true _ _ (eq-eqb x.kind 3 p) (eq-eqb s.depth (suc d) q)) own)

  all-wait : (i : Image) {s t : State} → MachineUnwritten i h (suc d) s t → Waits s → Waits t
  all-wait i none y = y
  all-wait i {s = s} (more w e room own unwritten rest) y = all-wait i rest (subst After e (tick-waits i s y w room own unwritten))
  all-wait i (binding_changed g rest) y = all-wait i rest (record { above = y.above; label = y.label; unset = y.unset })

-- ---- the labels of a sound image
module _ (i : Image) (sound : SoundImage i) where
  -- only label 1 returns
  return-is : (l : ℕ) → (label_at i l).kind ≡ 3 → label_at i l ≡ return_label
  return-is l k = grind (arith, common_steps, sound.back, sound.home, sound.others)

  -- a function's label calls a number of 2 up
  function-calls : (l : ℕ) → l < length i.labels → (label_at i l).kind ≡ 2 → 2 ≤ (label_at i l).called
  function-calls l m k = grind (arith, common_steps, sound.back, sound.home, sound.others)

  module _ (s : State) (f : Fits i s) (kinded : (label_at i (top_of s)).kind ≡ 2) where
    abbrev x : Label
    x = label_at i (top_of s)

    abbrev h : ℕ
    h = x.called

    deep : 2 ≤ h
    deep = function-calls (top_of s) (f.labels (s.depth - 1) (omega (arith, f.some))) kinded

    -- the call
    called-waits : (w m code : ℕ) (t : State) → tick i s w ≡ finished m code t → is_at_full_call i s ≡ false
        → Waits (top_of s) s.depth h f.some deep t
    unfolding tick
    called-waits w m code t e room = grind (arith, common_steps, get_or-set_other, cleared-own, free, deep)

    -- its own return
    own-return : (u : State) → Waits (top_of s) s.depth h f.some deep u → is_return_at i (suc s.depth) u ≡ true
        → (v : ℕ) → tick i u v ≡ return_tick u (lead_of (best_row (top_of s) v 0 0 i.rows))
    unfolding tick
    own-return u y own v =
        let z : Label = label_at i (top_of u) in
        let d : u.depth ≡ suc s.depth =
        eqb-true u.depth (suc s.depth) (and-r (z.kind == 3) (u.depth == suc s.depth) own) in
        let k : z.kind ≡ 3 = eqb-true z.kind 3 (and-l (z.kind == 3) (u.depth == suc s.depth) own) in
        let p : u.depth - 2 ≡ s.depth - 1 = omega arith in
        ap (λ (c : Label). tick_by i u v (top_of u) c (with_result c.result (number_at u (u.depth - 1)) u.bits) (tick_kind c.kind))
        (return-is (top_of u) k)
        ∙ ap (popped_tick i u v 0 u.bits) (lt-leb u.depth 1 (omega (arith, f.some)))
        ∙ ap (λ (l : ℕ). return_tick u (row_leads i u.bits l v)) (ap (place_at u) p ∙ y.label)
        ∙ ap (λ (t : Bool). return_tick u (lead_of (best_row (top_of s) v (if t then 1 else 0) 0 i.rows))) y.unset

pub zero-row : ZeroRow
unfolding ZeroRow
zero-row text passes s sized fit kinded w m code t u e room ticks own v =
    let i : Image = decoded_image (contents text) in
    let sound : SoundImage i = image-sound text passes in
    let f : Fits i s = unfits i s sized fit in
    own-return i sound s f kinded u
    (all-wait (top_of s) s.depth (label_at i (top_of s)).called f.some (deep i sound s f kinded) i ticks
    (called-waits i sound s f kinded w m code t e room)) own v
