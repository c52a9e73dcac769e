-- A state that fits an image fits, with its labels renumbered, the smaller image.
use Rattle.std.proofs.Common.{ℕ, ◌+◌, ◌<◌, Bool, false, ◌&&◌, ◌||◌, ◌≡◌, ◌∙◌, ap, ap₂, List, arith, length, eqb-true, nat_le, ◌==◌}
use Rattle.std.proofs.Math.ListN.{length-map}
use Rattle.std.proofs.lemmas.Grind.{common_steps}
use Rattle.words.proofs.lists.Tests.{and-l, not-false}
use Rattle.image.specs.Image.{Image, Label}
use Rattle.image.specs.inner.Sound.{SoundImage}
use Rattle.state.specs.State.{State, label_at, place_at, number_at, server_at, Sized}
use Rattle.fitness.specs.Fitness.{is_callable, is_able_to_carry, is_filled_place, is_of_handler, has_bad_bottom, is_badly_served}
use Rattle.fitness.proofs.Fitness.{Fits}
use Rattle.grouping.proofs.Rounds.{ClassRound}
use Rattle.minimising.specs.group_numbers.Smaller.{renumbered_label, joined_labels}
use Rattle.minimising.proofs.group_numbers.Numbering.{new-zero, new-inside, label-new, entries-count}
use Rattle.minimised.specs.Renamed.{renumbered_state}
use Rattle.minimised.proofs.Renumbered.{same-handler, place-new, one-same}

pub sized-new : (c : List ℕ) (s : State) → Sized s → Sized (renumbered_state c s)
sized-new c s z = grind (arith, common_steps, length-map)

module _ (i : Image) (S : SoundImage i) (c : List ℕ) (R : ClassRound i c) where
  abbrev new : ℕ → ℕ
  new = renumbered_label c

  abbrev small : Image
  small = joined_labels i c

  -- ---- each test of a state's fitness says the same of the renumbered labels
  callable-new : (k : ℕ) → is_callable small k ≡ is_callable i k
  callable-new k = ap (λ (h : ℕ). nat_le 2 k && nat_le k h) (entries-count i S c R)

  -- label 1, or one of scheme k
  stands-new : (l k : ℕ) → l < length i.labels
      → (new l == 1 || (label_at small (new l)).owner == k) ≡ (l == 1 || (label_at i l).owner == k)
  stands-new l k h = ap₂ (λ (t : Bool) (x : Label). t || x.owner == k) (one-same i S c R l h) (label-new i S c R l h)

  carry-new : (l h k a : ℕ) → l < length i.labels → a < length i.labels
      → is_able_to_carry small (new l) h k (new a) ≡ is_able_to_carry i l h k a
  carry-new l h k a hl ha = grind (arith, common_steps, label-new, callable-new, stands-new)

  pub of-handler-new : (l : ℕ) → l < length i.labels → is_of_handler small (new l) ≡ is_of_handler i l
  of-handler-new l h = grind (arith, common_steps, same-handler, stands-new)

  served-new : (s : State) (h : ℕ) → is_badly_served small (renumbered_state c s) h ≡ is_badly_served i s h
  served-new s h = grind (arith, common_steps, entries-count, same-handler)

  module _ (s : State) (f : Fits i s) where
    bottom-new : has_bad_bottom small (renumbered_state c s) ≡ has_bad_bottom i s
    bottom-new = grind (arith, common_steps, same-handler, place-new, label-new, of-handler-new)

    above-new : (k : ℕ) → is_filled_place s k ≡ false → is_filled_place (renumbered_state c s) k ≡ false
    above-new k e = grind (arith, common_steps, eqb-true, not-false, place-new, and-l, new-zero)

    pub fits-new : Fits small (renumbered_state c s)
    fits-new = record {
      whole = sized-new c s f.whole;
      small = f.small;
      some = f.some;
      most = f.most;
      labels = λ k h. grind (arith, common_steps, place-new, new-inside);
      carries = λ k h.
          ap₂ (λ (l a : ℕ). is_able_to_carry small l (number_at s (k + 1)) (server_at s (k + 1)) a)
          (place-new i S c R s k) (place-new i S c R s (k + 1))
          ∙ carry-new (place_at s k) (number_at s (k + 1)) (server_at s (k + 1)) (place_at s (k + 1))
          (f.labels k (omega arith)) (f.labels (k + 1) h)
          ∙ f.carries k h;
      bottom = bottom-new ∙ f.bottom;
      above = λ k l h. above-new k (f.above k l h);
      serves = λ h a b. served-new s h ∙ f.serves h a b;
    }
