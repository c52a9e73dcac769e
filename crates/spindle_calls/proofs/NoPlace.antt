-- A finished tick finds no place exactly where it is a call and all 64 are taken.
use Rattle.std.proofs.Common.{ℕ, ◌-◌, ◌≤◌, ◌≡◌, refl, sym, ◌∙◌, ap, subst, false, ◌↔◌, List, arith}
use Rattle.std.proofs.lemmas.Grind.{common_steps}
use Rattle.text.specs.frames.Frame.{contents}
use Rattle.text.specs.frames.Verdict.{Verdict, fine, refused, when}
use Rattle.text.specs.frames.Answer.{Reply, success, refusal}
use Rattle.text.proofs.frames.Verdicts.{next-rest, when-fine}
use Rattle.image.specs.Image.{Image}
use Rattle.image.specs.Decode.{decoded_image}
use Rattle.image.specs.Check.{image_verdict}
use Rattle.image.specs.inner.Sound.{SoundImage}
use Rattle.image.proofs.Accepted.{image-sound}
use Rattle.state.specs.State.{State, place_at}
use Rattle.fitness.specs.Fitness.{is_unfit}
use Rattle.fitness.proofs.Fitness.{Fits, unfits}
use Rattle.ticks.specs.Tick.{MachineTick, finished, stopped, tick}
use Rattle.runs.specs.TickOutcome.{TickOutcome, image_tick}
use Rattle.runs.proofs.machine.OneTick.{advance_by, advance-by}
use Rattle.spindles.specs.Spindles.{state_at, outcome_spun_by, outcome_spun_on, spin}
use Rattle.spindles.proofs.Others.{Tried, tried}
use Rattle.spindles.specs.spindle_places.PlacesBalance.{places_called}
use Rattle.spindles.proofs.spindle_places.Depths.{Deepens, called-few, tick-deepens}
use Rattle.spindle_calls.specs.NoPlace.{NoPlaceExactly}
use Rattle.runs.proofs.machine.OneTick as one

-- ---- the reply by what the tick is found to be
module _ (states : List State) (taken k : ℕ) (room : taken ≤ 64) where
  abbrev s : State
  s = state_at states k

  none-exactly : (m code : ℕ) (u : State) → Deepens s.depth (finished m code u)
      → let x : TickOutcome = record { reply = success 1; mask = m; code = code; state = u } in
      ((outcome_spun_by states taken k x).reply ≡ refusal 26 0 0) ↔ ((places_called code s.depth ≡ 1) × (taken ≡ 64))
  none-exactly m code u deep = grind (arith, common_steps)

abbrev success_count : Reply → ℕ
success_count (success n) = 1
success_count (refusal n j l) = 0

pub no-place-exactly : NoPlaceExactly
unfolding NoPlaceExactly spin
no-place-exactly t states taken k w n passed sized e =
    subst (λ (v : Verdict). ((outcome_spun_on v states taken k (λ _. image_tick t s w)).reply ≡ refusal 26 0 0)
    ↔ ((places_called (image_tick t s w).code s.depth ≡ 1) × (taken ≡ 64))) (sym passed)
    (subst By (sym (advance-by t s w))
    (go (one.verdict_before_16 t s) refl (tick i s w) refl (ap (λ (x : TickOutcome). x.reply) (sym (advance-by t s w)) ∙ e)))
  where
    s : State
    s = state_at states k

    i : Image
    i = decoded_image (contents t)

    z : Tried (image_verdict t) states taken k
    z = tried (image_verdict t) states taken k passed

    By : TickOutcome → Type 0
    By x = ((outcome_spun_by states taken k x).reply ≡ refusal 26 0 0) ↔ ((places_called x.code s.depth ≡ 1) × (taken ≡ 64))

    go : (v : Verdict) → one.verdict_before_16 t s ≡ v → (d : MachineTick) → tick i s w ≡ d
        → (advance_by s v d).reply ≡ success n → By (advance_by s v d)
    go (refused m j) f d g q = absurd (let o : ◌≡◌ {A = ℕ} 0 1 = ap success_count q in omega arith)
    go fine f (stopped m) g q = absurd (let o : ◌≡◌ {A = ℕ} 0 1 = ap success_count q in omega arith)
    go fine f (finished m code u) g q =
        let sound : SoundImage i = image-sound t z.accepted in
        let fit : is_unfit i s ≡ false =
        when-fine 15 (is_unfit i s) (next-rest (image_verdict t) (λ _. when 15 (is_unfit i s)) f) in
        let fits : Fits i s = unfits i s sized fit in
        none-exactly states taken k z.room m code u
        (subst (Deepens s.depth) g
        (tick-deepens i s w fits.some
        (called-few i sound (place_at s (s.depth - 1)) (fits.labels (s.depth - 1) (omega (arith, fits.some))))))

pub ruleset no_place_is_told_exactly = no-place-exactly
