-- Runs and rebindings on the smaller image of an accepted image:
-- they answer and write what those on the given one do, in a list of them too.
use Rattle.std.proofs.Common.{ℕ, ◌≤◌, Bool, true, false, ◌≡◌, refl, sym, ◌∙◌, ap, ap₂, subst, List, [], ◌∷◌, length, arith, inl, inr}
use Rattle.std.proofs.lemmas.Grind.{common_steps}
use Rattle.words.proofs.lists.Tests.{cases}
use Rattle.bindings.specs.Binding.{is_bad_rebinding}
use Rattle.text.specs.frames.Frame.{contents}
use Rattle.text.specs.frames.Verdict.{Verdict, fine, refused, when}
use Rattle.image.specs.Image.{Image, image_text}
use Rattle.image.specs.Decode.{decoded_image}
use Rattle.image.specs.Check.{image_verdict}
use Rattle.image.specs.inner.Sound.{SoundImage}
use Rattle.state.specs.State.{State, fresh, StateOutcome, fresh_state}
use Rattle.fitness.proofs.Fitness.{Fits}
use Rattle.ticks.specs.Tick.{tick}
use Rattle.ticks.proofs.Keeps.{fresh-fits}
use Rattle.runs.specs.Run.{MachineRun, ticks, RunOutcome, has_no_room, run_on, run}
use Rattle.runs.proofs.Keeps.{ticks-keep}
use Rattle.rebinding.specs.Rebind.{rebind_on, rebind}
use Rattle.rebinding.proofs.Keeps.{rebinding-fits}
use Rattle.agreement.specs.Agreement.{CallInput, to_run, to_rebind, call_outputs}
use Rattle.agreement.proofs.Chain.{run-is, rebind-is, fresh-is}
use Rattle.covering.specs.Matched.{is_uneven}
use Rattle.covering.proofs.Hits.{OneRow, one-row}
use Rattle.grouping.specs.Classes.{grouping}
use Rattle.grouping.proofs.Rounds.{ClassRound, group-round, group-leads}
use Rattle.minimising.specs.group_numbers.Smaller.{smaller_image}
use Rattle.minimising.proofs.group_numbers.Numbering.{entries-count}
use Rattle.joined_again.proofs.Again.{smaller-passes, smaller-decoded}
use Rattle.minimised.specs.Renamed.{renumbered_state, renamed_tick, renamed_machine_run, renamed_run, renamed_state_outcome}
use Rattle.minimised.proofs.Renumbered.{same-handler, nothing-new}
use Rattle.minimised.proofs.Fitting.{fits-new}
use Rattle.minimised.proofs.SmallerTicks.{tick-new, ticks-new}

run-on-new : (c : List ℕ) (v : Verdict) (r : MachineRun) (s : State) (ms ks : List ℕ)
    → run_on v (λ _. renamed_machine_run c r) (renumbered_state c s) ms ks ≡ renamed_run c (run_on v (λ _. r) s ms ks)
run-on-new c fine r s ms ks = refl
run-on-new c (refused k j) r s ms ks = refl

rebind-on-new : (c : List ℕ) (v : Verdict) (s : State) (h k : ℕ)
    → rebind_on v (renumbered_state c s) h k ≡ renamed_state_outcome c (rebind_on v s h k)
rebind-on-new c fine s h k = refl
rebind-on-new c (refused n j) s h k = refl

module _ (i : Image) (S : SoundImage i) (even : is_uneven i ≡ false) where
  one : OneRow i
  one = one-row i S even

  R : ClassRound i (grouping i)
  R = group-round i S one

  -- ---- by the grouping
  pub smaller-fits : (s : State) → Fits i s → Fits (smaller_image i) (renumbered_state (grouping i) s)
  smaller-fits = fits-new i S (grouping i) R

  pub smaller-tick : (s : State) → Fits i s → (w : ℕ) → tick (smaller_image i) (renumbered_state (grouping i) s) w
      ≡ renamed_tick (grouping i) (tick i s w)
  smaller-tick = tick-new i S one (grouping i) R (group-leads i S one)

  pub smaller-ticks : (ws : List ℕ) (s : State) → Fits i s
      → ticks (smaller_image i) (renumbered_state (grouping i) s) ws ≡ renamed_machine_run (grouping i) (ticks i s ws)
  smaller-ticks = ticks-new i S one (grouping i) R (group-leads i S one)

  pub renamed-fresh : (n : ℕ) → renumbered_state (grouping i) (fresh n) ≡ fresh n
  renamed-fresh n = grind (arith, common_steps, nothing-new, R)

  same-bar : (h k : ℕ) → is_bad_rebinding (length (smaller_image i).entries) (smaller_image i).handler
      h k ≡ is_bad_rebinding (length i.entries) i.handler h k
  same-bar h k = ap₂ (λ (m g : ℕ). is_bad_rebinding m g h k) (entries-count i S (grouping i) R) (same-handler i S (grouping i) R)

  -- ---- by the texts
  module _ (text : List ℕ) (passes : image_verdict text ≡ fine) (decodes : decoded_image (contents text) ≡ i) where
    abbrev text' : List ℕ
    text' = image_text (smaller_image i)

    pub run-new : (s : State) (ws ms ks : List ℕ) → Fits i s
        → run text' (renumbered_state (grouping i) s) ws ms ks ≡ renamed_run (grouping i) (run text s ws ms ks)
    run-new s ws ms ks f = grind (arith, common_steps, smaller-passes, run-is, smaller-decoded, run-on-new, smaller-fits, smaller-ticks)

    pub rebind-new : (s : State) (h k : ℕ) → Fits i s
        → rebind text' (renumbered_state (grouping i) s) h k ≡ renamed_state_outcome (grouping i) (rebind text s h k)
    rebind-new s h k f = grind (arith, common_steps, smaller-passes, smaller-decoded, rebind-is, rebind-on-new, smaller-fits, same-bar)

    -- ---- what they hand back fits
    run-fits : (s : State) (ws ms ks : List ℕ) → Fits i s → Fits i (run text s ws ms ks).state
    run-fits s ws ms ks f = subst (λ (r : RunOutcome). Fits i r.state)
        (sym (run-is text i passes decodes s ws ms ks f)) (go (has_no_room ws ms ks))
      where
        go : (t : Bool) → Fits i (run_on (when 16 t) (λ _. ticks i s ws) s ms ks).state
        go true = f
        go false = ticks-keep i S ws s f

    rebind-fits : (s : State) (h k : ℕ) → Fits i s → Fits i (rebind text s h k).state
    rebind-fits s h k f = elim (cases (is_bad_rebinding (length i.entries) i.handler h k)) [
      | inl e ↦ subst (λ (r : StateOutcome). Fits i r.state) (sym (rebind-is text i passes decodes s h k f e)) f
      | inr e ↦ subst (λ (r : StateOutcome). Fits i r.state) (sym (rebind-is text i passes decodes s h k f e)) (rebinding-fits i S.most s h k f e)
    ]

    -- ---- a list of runs and rebindings
    pub chain-new : (given : List CallInput) (s : State) → Fits i s
        → call_outputs run rebind text' (renumbered_state (grouping i) s) given ≡ call_outputs run rebind text s given
    unfolding call_outputs
    chain-new [] s f = grind (arith, common_steps)
    chain-new (to_run a ∷ rest) s f = grind (arith, common_steps, chain-new rest, run-new, run-fits)
    chain-new (to_rebind h k ∷ rest) s f = grind (arith, common_steps, chain-new rest, rebind-new, rebind-fits)

    pub calls-new : (n : ℕ) → 1 ≤ n → n ≤ 32 → (given : List CallInput)
        → call_outputs run rebind text' (fresh_state n).state given ≡ call_outputs run rebind text (fresh_state n).state given
    calls-new n l h given =
        ap (λ (s : State). call_outputs run rebind text' s given) (fresh-is n l h ∙ sym (renamed-fresh n))
        ∙ chain-new given (fresh n) (fresh-fits i S n l h)
        ∙ sym (ap (λ (s : State). call_outputs run rebind text s given) (fresh-is n l h))
