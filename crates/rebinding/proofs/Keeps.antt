-- A rebinding leaves a fitting state fitting, refused or not.
use Rattle.std.proofs.Common.{if◌then◌else◌, ℕ, ◌-◌, ◌≤◌, ◌<◌, Bool, true, false, ◌&&◌, not, ◌≡◌, sym, ap, ◌∙◌, List, arith, nat_le, ◌==◌}
use Rattle.std.proofs.Common.{length, set, get_or-set_same, get_or-set_other, ne_eqb, le-leb}
use Rattle.std.proofs.Math.Decide.{ℕ_discrete}
use Rattle.std.proofs.lemmas.Grind.{common_steps}
use Rattle.words.proofs.lists.Tests.{and-true}
use Rattle.bindings.specs.Binding.{server_of, is_bad_rebinding}
use Rattle.text.specs.frames.Frame.{contents}
use Rattle.text.specs.frames.Verdict.{fine}
use Rattle.image.specs.Image.{Image}
use Rattle.image.specs.Decode.{decoded_image}
use Rattle.image.specs.Check.{image_verdict}
use Rattle.image.proofs.Accepted.{image-sound}
use Rattle.state.specs.State.{State, Sized}
use Rattle.fitness.specs.Fitness.{is_callable, is_badly_served, is_unfit}
use Rattle.fitness.proofs.Fitness.{Fits, fits, unfits, range-callable}
use Rattle.rebinding.specs.Rebind.{rebinding, rebind}
use Rattle.rebinding.proofs.rebindable.Refusal.{AllowedRebinding, allowed}

pub rebinding-sized : (s : State) (h k : ℕ) → Sized s → Sized (rebinding h k s)
rebinding-sized s h k z = grind (arith, common_steps)

module _ (i : Image) (few : length i.entries ≤ 16) (s : State) (h k : ℕ) where
  abbrev H : ℕ
  H = length i.entries

  -- whether the scheme that serves number g may not serve it
  abbrev bad : ℕ → Bool → ℕ → Bool
  bad g t j = not (if t then is_callable i j else j == g)

  pub rebinding-fits : Fits i s → is_bad_rebinding H i.handler h k ≡ false → Fits i (rebinding h k s)
  rebinding-fits f e = record {
    whole = rebinding-sized s h k f.whole;
    small = f.small;
    some = f.some;
    most = f.most;
    labels = f.labels;
    carries = f.carries;
    bottom = f.bottom;
    above = f.above;
    serves = λ g a b. serves g a b (ℕ_discrete g h);
  }
    where
      may : AllowedRebinding H i.handler h k
      may = allowed H i.handler h k e

      serves : (g : ℕ) → 2 ≤ g → g < 17 → Dec (g ≡ h) → is_badly_served i (rebinding h k s) g ≡ false
      serves g a b (yes q) =
          let same : server_of (set s.serving (h - 1) k) g ≡ k =
          ap (server_of (set s.serving (h - 1) k)) q
          ∙ get_or-set_same s.serving (h - 1) k 0 (omega (arith, f.whole.serving, may.number-low, may.number-high)) in
          let free : (nat_le g H && not (g == i.handler)) ≡ true =
          and-true (nat_le g H) (not (g == i.handler)) (le-leb g H (omega (arith, may.number-high)))
          (ap not (ne_eqb g i.handler (λ p. may.other (sym q ∙ p)))) in
          ap (bad g (nat_le g H && not (g == i.handler))) same ∙ ap (λ (t : Bool). bad g t k) free
          ∙ ap not (range-callable i k may.scheme-low may.scheme-high)
      serves g a b (no q) =
          ap (bad g (nat_le g H && not (g == i.handler)))
          (get_or-set_other s.serving (h - 1) (g - 1) k 0 (λ p. q (omega (arith, may.number-low))))
          ∙ f.serves g a b

  pub rebinding-unfit : is_unfit i s ≡ false → Sized s → is_bad_rebinding H i.handler h k ≡ false → is_unfit i (rebinding h k s) ≡ false
  rebinding-unfit u z e = fits i (rebinding h k s) (rebinding-fits (unfits i s z u) e)

-- every accepted image, whatever its rows
module _ (text : List ℕ) (passes : image_verdict text ≡ fine) (s : State) (h k : ℕ) where
  abbrev image : Image
  image = decoded_image (contents text)

  pub rebind-fits : Sized s → is_unfit image s ≡ false → is_unfit image (rebind text s h k).state ≡ false
  unfolding rebind
  rebind-fits z u = grind (arith, common_steps, image-sound, rebinding-unfit)
