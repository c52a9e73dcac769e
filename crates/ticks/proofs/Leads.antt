-- On a sound image: labels by their kind, and where the rows and the entry of a scheme lead.
use Rattle.std.proofs.Common.{ℕ, zero, suc, ◌≤◌, ◌<◌, Bool, true, false, ◌&&◌, ◌||◌, not, ◌≡◌, refl, ap, ◌∙◌, sym, ◌==◌}
use Rattle.std.proofs.Common.{subst, length, arith, eqb-true}
use Rattle.std.proofs.lemmas.Grind.{common_steps}
use Rattle.words.proofs.lists.Tests.{and-l}
use Rattle.image.specs.Image.{Image, Label, Row, nth_row}
use Rattle.image.specs.inner.Sound.{Reaches, SoundImage}
use Rattle.state.specs.State.{label_at, entry_at}
use Rattle.fitness.specs.Fitness.{is_call, is_callable, is_able_to_carry, is_of_handler}
use Rattle.rows.specs.Rows.{is_match, Choice, row, no_choice, best_row, found, missing, lead_of}
use Rattle.rows.specs.Choices.{Best}
use Rattle.rows.proofs.BestRows.{best-is}

module _ (i : Image) (sound : SoundImage i) where
  -- a row that is taken is one of the label's
  pub row-leads : (l w b u : ℕ) → lead_of (best_row l w b 0 i.rows) ≡ found u → Reaches i (label_at i l).owner u
  row-leads l w b u e = go (best_row l w b 0 i.rows) refl
    where
      go : (x : Choice) → best_row l w b 0 i.rows ≡ x → Reaches i (label_at i l).owner u
      go no_choice q = absurd (let p : missing ≡ found u = sym (ap lead_of q) ∙ e in let z : ◌≡◌ {A = ℕ} 0 1 = cc in omega arith)
      go (row k r) q =
          let best : Best l w b i.rows k r = best-is l w b i.rows k r q in
          let from : r.from ≡ l = eqb-true r.from l (and-l (r.from == l) (is_match w b r) best.matches) in
          let p : found r.next ≡ found u = sym (ap lead_of q) ∙ e in
          let next : r.next ≡ u = cc in
          subst (Reaches i (label_at i l).owner) (ap (λ (x : Row). x.next) best.is ∙ next)
          (subst (λ (m : ℕ). Reaches i (label_at i m).owner (nth_row i k).next) (ap (λ (x : Row). x.from) best.is ∙ from)
          (sound.each k best.inside).leading)

  -- ---- labels by their kind
  pub data Sort (l : ℕ) : Type 0 where
    home_sort : l ≡ 0 → (label_at i l).kind ≡ 4 → (label_at i l).owner ≡ 1 → Sort l
    return_sort : l ≡ 1 → (label_at i l).kind ≡ 3 → (label_at i l).owner ≡ 0 → Sort l
    numbered_sort : 2 ≤ l → (label_at i l).kind ≤ 2 → Sort l

  pub sort : (l : ℕ) → l < length i.labels → Sort l
  sort zero m = home_sort refl (ap (λ (x : Label). x.kind) sound.home) (ap (λ (x : Label). x.owner) sound.home)
  sort (suc zero) m = return_sort refl (ap (λ (x : Label). x.kind) sound.back) (ap (λ (x : Label). x.owner) sound.back)
  sort (suc (suc l)) m = numbered_sort (omega arith) (sound.others (suc (suc l)) (omega arith) m).kinds

  -- a label of a tick kind up to 2 is neither home nor a return
  pub kind-high : (l : ℕ) → l < length i.labels → (label_at i l).kind ≤ 2 → 2 ≤ l
  kind-high l h k = grind (arith, common_steps)

  pub call-kind : (l : ℕ) → is_call (label_at i l) ≡ true → (1 ≤ (label_at i l).kind) × ((label_at i l).kind ≤ 2)
  call-kind l e = grind (arith, common_steps)

  -- a label of kind 1 or 2 is no home and no return, and calls a scheme of 2 to H
  pub called-range : (l : ℕ) → l < length i.labels → (1 ≤ (label_at i l).kind) × ((label_at i l).kind ≤ 2)
      → (2 ≤ (label_at i l).called) × ((label_at i l).called ≤ length i.entries)
  called-range l m k = grind (arith, common_steps)

  pub not-return : (l : ℕ) → l < length i.labels → ((label_at i l).kind ≡ 3 → ⊥) → l ≡ 1 → ⊥
  not-return l m k e = grind (arith, common_steps)

  -- what a scheme of 2 and up may lead to may stand above a call that it serves
  abbrev pub is_able_to_stand_over : ℕ → ℕ → Bool
  is_able_to_stand_over k u = u == 1 || (label_at i u).owner == k

  pub reaches-over : (k u : ℕ) → 2 ≤ k → Reaches i k u → is_able_to_stand_over k u ≡ true
  reaches-over k u l r = grind (arith, common_steps)

  -- ---- schemes that may be called
  pub enters : (k : ℕ) → 2 ≤ k → k ≤ length i.entries → Reaches i k (entry_at i k)
  enters k two most = grind (arith, common_steps)

  -- ---- a label under the one above it: number h is called, scheme k serves, and a is its label
  module _ (l h k a : ℕ) where
    pub carry-told : is_able_to_carry i l h k a ≡ true
        → (is_call (label_at i l) ≡ true) × (h ≡ (label_at i l).called) × (is_callable i k ≡ true) × (is_able_to_stand_over k a ≡ true)
    carry-told e = grind (arith, common_steps)

    pub may-carry : is_call (label_at i l) ≡ true → h ≡ (label_at i l).called → is_callable i k ≡ true
        → is_able_to_stand_over k a ≡ true → is_able_to_carry i l h k a ≡ true
    may-carry c e m o = grind (arith, common_steps)

  -- what is kept under a label is kept under what that leads to
  pub carry-leads : (l h k a u : ℕ) → (a ≡ 1 → ⊥) → is_able_to_carry i l h k a ≡ true → Reaches i (label_at i a).owner u
      → is_able_to_carry i l h k u ≡ true
  carry-leads l h k a u n e r = grind (arith, common_steps)

  -- ---- the bottom: what scheme 1 leads to, and what the handler leads to;
  -- p and q say whether number and server are those of the one or the other
  abbrev pub has_bad_bottom_by : ℕ → Bool → Bool → Bool
  has_bad_bottom_by l p q = not (((label_at i l).owner == 1 && p) || (is_of_handler i l && q))

  module _ (l : ℕ) (p q : Bool) where
    first-bottom : (label_at i l).owner ≡ 1 → p ≡ true → has_bad_bottom_by l p q ≡ false
    first-bottom o e = grind (arith, common_steps)

    pub handler-bottom : 2 ≤ i.handler → Reaches i i.handler l → q ≡ true → has_bad_bottom_by l p q ≡ false
    handler-bottom h r e = grind (arith, common_steps)

  pub home-bottom : (q : Bool) → has_bad_bottom_by 0 true q ≡ false
  home-bottom q = first-bottom 0 true q (ap (λ (x : Label). x.owner) sound.home) refl

  pub bottom-leads : (l u : ℕ) (p q : Bool) → (l ≡ 1 → ⊥) → has_bad_bottom_by l p q ≡ false
      → Reaches i (label_at i l).owner u → has_bad_bottom_by u p q ≡ false
  bottom-leads l u p q n e r = grind (arith, common_steps)
