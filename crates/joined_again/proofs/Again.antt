-- The smaller image joined again is itself.
use Rattle.std.proofs.Common.{if◌then◌else◌, ℕ, ◌+◌, ◌≤◌, ◌<◌, Bool, true, false, ◌≡◌, sym, ◌∙◌, ap, List, map, zero-add, arith, slice_index, filter}
use Rattle.std.proofs.Common.{length, eq-eqb}
use Rattle.words.specs.lists.Numbers.{range}
use Rattle.words.proofs.lists.Counts.{count-alike, count-all}
use Rattle.words.proofs.lists.Ranges.{map-places}
use Rattle.words.proofs.lists.Elements.{map-own, filter-own}
use Rattle.words.proofs.lists.Joins.{all-places, all-of, all-range}
use Rattle.text.specs.frames.Frame.{contents}
use Rattle.text.specs.frames.Verdict.{fine}
use Rattle.text.proofs.frames.Verdicts.{next-first, next-rest, when-fine}
use Rattle.image.specs.Image.{Image, Row, image_text, nth_row}
use Rattle.image.specs.Decode.{decoded_image}
use Rattle.image.specs.Check.{image_verdict}
use Rattle.image.specs.inner.Sound.{no_label, SoundRow, SoundImage}
use Rattle.image.proofs.Passes.{image-fine}
use Rattle.image.proofs.Decoded.{image-decoded}
use Rattle.rows.specs.Rows.{is_candidate}
use Rattle.state.specs.State.{label_at}
use Rattle.covering.specs.Matched.{is_uneven}
use Rattle.covering.proofs.Covered.{sound-rows}
use Rattle.covering.proofs.Hits.{OneRow, one-row}
use Rattle.grouping.specs.Rule.{Meets}
use Rattle.grouping.specs.Classes.{class_of, is_first, grouping}
use Rattle.grouping.proofs.Onward.{onward_label, onward-is}
use Rattle.grouping.proofs.Rounds.{ClassRound, group-round, group-leads}
use Rattle.grouping.proofs.Coarsest.{bit-of, within-grouping}
use Rattle.minimising.specs.group_numbers.Smaller.{renumbered_label, renumbered_row, joined_labels, smaller_image}
use Rattle.minimising.specs.Entry.{minimise_verdict}
use Rattle.minimising.proofs.group_numbers.Numbering.{new-inside, label-new, joined-sound}
use Rattle.minimising.proofs.group_numbers.Led.{Member, member, one-new, even-new, onward-new}
use Rattle.std.proofs.lemmas.Grind.{common_steps}
use Rattle.std.proofs.lemmas.Bool.Decides.{nat_tests}

-- ---- an image in which each label is alone stays as it is
module _ (i : Image) (S : SoundImage i) (c : List ℕ) (alone : (l : ℕ) → l < length i.labels → class_of c l ≡ l) where
  abbrev n : ℕ
  n = length i.labels

  first-own : (l : ℕ) → l < n → is_first c l ≡ true
  first-own l h = eq-eqb (class_of c l) l (alone l h)

  number-own : (l : ℕ) → l < n → renumbered_label c l ≡ l
  number-own l h = grind (arith, alone l h, count-alike (λ _. true) (is_first c) 0 l, first-own, count-all 0 l)

  row-own : (r : Row) → SoundRow i r → renumbered_row c r ≡ r
  row-own r x = grind (arith, number-own r.from x.high, number-own r.next x.leading.inside)

  pub joined-own : joined_labels i c ≡ i
  unfolding joined_labels
  joined-own =
      let e : map (renumbered_label c) i.entries ≡ i.entries =
      map-own (renumbered_label c) i.entries (all-places (λ l. renumbered_label c l ≡ l) 0 i.entries
      (λ k h. number-own (slice_index i.entries k) (S.starts k h).inside)) in
      let l : map (label_at i) (filter (is_first c) (range 0 n)) ≡ i.labels =
      ap (map (label_at i)) (filter-own (is_first c) (range 0 n)
      (all-range (λ l. is_first c l ≡ true) 0 n (λ k h. first-own (0 + k) (omega arith))))
      ∙ map-places (label_at i) no_label i.labels 0 (λ k h. ap (label_at i) (zero-add k)) in
      let r : map (renumbered_row c) (filter (λ r. is_first c r.from) i.rows) ≡ i.rows =
      ap (map (renumbered_row c)) (filter-own (λ r. is_first c r.from) i.rows
      (all-of (SoundRow i) (λ r. is_first c r.from ≡ true) (λ r x. first-own r.from x.high) i.rows (sound-rows i S)))
      ∙ map-own (renumbered_row c) i.rows (all-of (SoundRow i) (λ r. renumbered_row c r ≡ r) row-own i.rows (sound-rows i S)) in
      λ j. record { handler = i.handler; entries = e j; labels = l j; rows = r j }

-- ---- the labels of the smaller image are alone in their groups
module _ (i : Image) (S : SoundImage i) (even : is_uneven i ≡ false) where
  one : OneRow i
  one = one-row i S even

  abbrev c : List ℕ
  c = grouping i

  R : ClassRound i (grouping i)
  R = group-round i S one

  pub smaller-sound : SoundImage (smaller_image i)
  smaller-sound = joined-sound i S (grouping i) R

  one' : OneRow (smaller_image i)
  one' = one-new i S (grouping i) R one

  pub smaller-even : is_uneven (smaller_image i) ≡ false
  smaller-even = even-new i S (grouping i) R one

  abbrev d : List ℕ
  d = grouping (smaller_image i)

  R' : ClassRound (smaller_image i) (grouping (smaller_image i))
  R' = group-round (smaller_image i) smaller-sound one'

  -- groups of the smaller image make a grouping of the given one
  abbrev whole : ℕ → ℕ
  whole l = class_of (grouping (smaller_image i)) (renumbered_label (grouping i) l)

  inside : (l : ℕ) → l < length i.labels → renumbered_label (grouping i) l < length (smaller_image i).labels
  inside = new-inside i S (grouping i) R

  module _ (l w b k : ℕ) (h : k < length i.rows) (own : is_candidate l w b (nth_row i k) ≡ true) where
    from-is : (nth_row i k).from ≡ l
    from-is = grind (arith, nat_tests, own)

    next-whole : (t : Bool) → (if t then 1 else 0) ≡ b → whole (nth_row i k).next
        ≡ class_of d (onward_label (smaller_image i) (renumbered_label c l) w t)
    next-whole t q =
        let low : 2 ≤ l = omega (arith, (S.each k h).low, from-is) in
        let high : l < length i.labels = omega (arith, (S.each k h).high, from-is) in
        grind (arith, q, own, onward-is i S one l w t low high k h, onward-new i S (grouping i) R one (group-leads i S one) l w t low high)

  whole-meets : Meets i whole
  whole-meets = record {
    same = λ l m hl hm e.
        grind (arith, label-new i S (grouping i) R l hl, label-new i S (grouping i) R m hm, R'.same (renumbered_label c l) (renumbered_label c m) (inside l hl) (inside m hm) e);
    leads = λ l m hl hm e w b hw hb j k hj hk p q.
        let t = bit-of b hb in
        next-whole l w b j hj p t.0 t.1
        ∙ group-leads (smaller_image i) smaller-sound one' (renumbered_label c l) (renumbered_label c m) (inside l hl) (inside m hm) e w t.0
        ∙ sym (next-whole m w b k hk q t.0 t.1);
  }

  alone-again : (l : ℕ) → l < length (smaller_image i).labels → class_of d l ≡ l
  alone-again l h =
      let k : ℕ = class_of d l in
      let x : Member i S c R l = member i S c R l h in
      let y : Member i S c R k = member i S c R k (omega (arith, R'.below l h)) in
      let e : whole y.label ≡ whole x.label = grind (arith, y.number, x.number, R'.own l h) in
      grind (arith, within-grouping i S one whole whole-meets y.label x.label y.inside x.inside e, y.number, x.number)

  pub smaller-again : smaller_image (smaller_image i) ≡ smaller_image i
  smaller-again = joined-own (smaller_image i) smaller-sound (grouping (smaller_image i)) alone-again

  pub smaller-passes : image_verdict (image_text (smaller_image i)) ≡ fine
  smaller-passes = image-fine (smaller_image i) smaller-sound

  pub smaller-decoded : decoded_image (contents (image_text (smaller_image i))) ≡ smaller_image i
  smaller-decoded = image-decoded (smaller_image i) smaller-sound

-- ---- an image that is made smaller
pub record AllowedImage (t : List ℕ) : Type 0 where
  pub accepted : image_verdict t ≡ fine
  pub even : is_uneven (decoded_image (contents t)) ≡ false

pub minimise-allowed : (t : List ℕ) → minimise_verdict t ≡ fine → AllowedImage t
unfolding minimise_verdict
minimise-allowed t e = grind (arith, common_steps, next-first, next-rest, when-fine)
