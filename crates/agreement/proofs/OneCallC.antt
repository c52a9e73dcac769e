-- One call from C of any kind that meets its contract hands back what a run or a rebinding on the image's text does, and leaves its
-- state.
use Rattle.std.proofs.Common.{ℕ, ◌≡◌, refl, sym, ◌∙◌, ap, subst, List, [], ◌∷◌, arith, take}
use Rattle.std.proofs.lemmas.Grind.{common_steps}
use Rattle.text.specs.frames.Frame.{contents}
use Rattle.text.specs.frames.Verdict.{Verdict}
use Rattle.text.specs.frames.Answer.{refusal, success}
use Rattle.text.proofs.frames.Refuses.{RefusesWith, next-refuses, when-refuses}
use Rattle.image.specs.Decode.{decoded_image}
use Rattle.image.specs.Check.{image_verdict}
use Rattle.state.specs.declared.State.{State as Kept}
use Rattle.state.specs.State.{State, StateOutcome}
use Rattle.state.specs.Kept.{view}
use Rattle.fitness.specs.Fitness.{is_unfit}
use Rattle.runs.specs.Run.{RunOutcome, run}
use Rattle.runs.specs.TickOutcome.{TickOutcome, image_tick}
use Rattle.runs.specs.InPlace.{if_ticked}
use Rattle.ticks.proofs.Normal.{Normal, tick-normal}
use Rattle.runs.specs.machine.Prepared.{PreparedTable}
use Rattle.runs.proofs.machine.Live.{live-run-is, live-tick-is}
use Rattle.fairleadow.specs.RunsForC.{GivesRunC, tick_for, GivesTickC}
use Rattle.fairleadow.specs.RebindingForC.{rebind_for, GivesRebindingC}
use Rattle.agreement.specs.Agreement.{RunInput, CallInput, to_run, to_rebind}
use Rattle.agreement.specs.Calls.{one_word}
use Rattle.agreement.specs.ForC.{RunOutputC, CallOutputC, by_run_c, by_rebinding_c, call_output_c, output_of_tick_c, TableOfC, prepared}
use Rattle.agreement.specs.ForC.{CallC, run_call, run_call_live, tick_call, tick_call_live, rebind_call, rebind_call_live}
use Rattle.agreement.proofs.Numbers.{Positive, image-positive, prepare-success}
use Rattle.agreement.proofs.OneCall.{prepared-rebind-is, prepared-holds, run_asked, handed_output, handed_state, ran-holds, ticked-holds, rebound-holds}
use Rattle.ticks.specs.Tick as machine
use Rattle.runs.proofs.machine.OneTick as one
use Rattle.std.proofs.lemmas.Bool.Decides.{nat_tests}

-- ---- a run of one word where the places for its mask and its code held m₀ and k₀: a refused tick leaves them
abbrev run_over : ℕ → ℕ → TickOutcome → RunOutcome
run_over m₀ k₀ x =
    record { reply = x.reply; state = x.state; masks = if_ticked x x.mask m₀ ∷ []; codes = if_ticked x x.code k₀ ∷ [] }

module _ (s : State) (m₀ k₀ : ℕ) where
  none-made : (n i : ℕ) → (n ≡ 0 → ⊥) → ◌≡◌ {A = RunOutcome} (record { reply = refusal n i 0; state = s; masks = m₀ ∷ []; codes = k₀ ∷ [] })
      (run_over m₀ k₀ (record { reply = refusal n i 0; mask = 0; code = 0; state = s }))
  none-made n i h = grind (arith, common_steps)

  over-by : (v : Verdict) (d : machine.MachineTick) → RefusesWith Positive v → Normal s d
      → one.run_of_word s m₀ k₀ v d ≡ run_over m₀ k₀ (one.advance_by s v d)
  over-by v d v_high d-high = grind (arith, nat_tests, none-made)

  run-over : (t : List ℕ) (w : ℕ) → run t s (w ∷ []) (m₀ ∷ []) (k₀ ∷ []) ≡ run_over m₀ k₀ (image_tick t s w)
  run-over t w =
      let i = decoded_image (contents t) in
      one.run-one t s w m₀ k₀
      ∙ over-by (one.verdict_before_16 t s) (machine.tick i s w)
      (next-refuses Positive (image_verdict t) _ (image-positive t) (when-refuses Positive 15 (is_unfit i s) (omega arith)))
      (tick-normal i s w)
      ∙ sym (ap (run_over m₀ k₀) (one.advance-by t s w))

-- ---- one call
pub record LikeC (image : List ℕ) (s : Kept) (g : CallInput) (d : CallOutputC) (after : Kept) : Type 0 where
  pub handed-is : d ≡ call_output_c (handed_output image (view s) g)
  pub state-is : view after ≡ handed_state image (view s) g

-- a call of fairleadow_prepare that returned 0 succeeded with the count that it wrote
pub table-prepared : (image : List ℕ) {table : List ℕ} → TableOfC image table → PreparedTable image table
table-prepared image (prepared before after at n c k h) =
    subst (λ (b : List ℕ). PreparedTable image (take k b)) (sym c.written)
    (prepared-holds image before n (prepare-success image before (sym c.told.number-is) ∙ ap success (sym c.told.count-is)) k h)

module _ (image : List ℕ) (s : Kept) where
  run-like : (a : RunInput) {x : RunOutcome} {t : RunOutputC} {after : Kept} → x ≡ run_asked image (view s) a
      → GivesRunC x s t.number t.index t.count after t.masks t.codes → LikeC image s (to_run a) (by_run_c t) after
  run-like a {x} {t} {after} e d = grind (arith, run_asked, ran-holds)

  tick-like : (w : ℕ) {x : TickOutcome} {m₀ k₀ returned at made m k : ℕ} {after : Kept} → x ≡ tick_for image s w
      → GivesTickC x s m₀ k₀ returned at made after m k
      → LikeC image s (one_word w m₀ k₀) (output_of_tick_c returned at made m k) after
  tick-like w {x} {m₀} {k₀} {returned} {at} {made} {m} {k} {after} e d = grind (arith, common_steps, run-over, ticked-holds)

  rebinding-like : (h k : ℕ) {x : StateOutcome} {returned at made : ℕ} {after : Kept} → x ≡ rebind_for image s h k
      → GivesRebindingC x s returned at made after → LikeC image s (to_rebind h k) (by_rebinding_c returned at made) after
  rebinding-like h k {x} {returned} {at} {made} {after} e d = grind (arith, common_steps, rebound-holds)

  pub call-like : {g : CallInput} {d : CallOutputC} {after : Kept} → CallC image s g d after → LikeC image s g d after
  call-like (run_call {a = a} c) = run-like a refl c
  call-like (run_call_live {a = a} t c) = run-like a (live-run-is (table-prepared image t) (view s) a.words a.masks a.codes) c
  call-like (tick_call {w = w} c) = tick-like w refl c
  call-like (tick_call_live {w = w} t c) = tick-like w (live-tick-is (table-prepared image t) (view s) w) c
  call-like (rebind_call {h = h} {k = k} c) = rebinding-like h k refl c
  call-like (rebind_call_live {h = h} {k = k} t c) = rebinding-like h k (prepared-rebind-is (table-prepared image t) (view s) h k) c
