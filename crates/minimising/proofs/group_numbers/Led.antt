-- Rows of the smaller image: those that match are the rows of the lowest member that match, led to the new labels, so there is just one.
use Rattle.std.proofs.Common.{if◌then◌else◌, ℕ, zero, suc, ◌≤◌, ◌<◌, Bool, true, false, ◌≡◌, ◌∙◌, List, [], ◌∷◌, map, arith, ◌==◌, filter}
use Rattle.std.proofs.Common.{length, eqb-true, eq-eqb, ne_eqb}
use Rattle.std.proofs.Math.ListN.{length-map}
use Rattle.std.proofs.lemmas.Grind.{common_steps}
use Rattle.words.proofs.lists.Tests.{no_both}
use Rattle.words.proofs.lists.Counts.{count-le, count-apart}
use Rattle.words.proofs.lists.Ranges.{filter-yes, filter-no}
use Rattle.words.proofs.lists.Filters.{filter-none}
use Rattle.image.specs.Image.{Image, Row}
use Rattle.image.specs.inner.Sound.{SoundImage}
use Rattle.rows.specs.Rows.{is_candidate}
use Rattle.covering.specs.Matched.{hits, is_uneven}
use Rattle.covering.proofs.Hits.{OneRow, the-row, even-of}
use Rattle.grouping.specs.Classes.{class_of, is_first}
use Rattle.grouping.proofs.Onward.{onward_label}
use Rattle.grouping.proofs.Rounds.{ClassRound}
use Rattle.minimising.specs.group_numbers.Smaller.{renumbered_label, renumbered_row, joined_labels}
use Rattle.minimising.proofs.group_numbers.Numbering.{Nth, nth, class-first, class-high, new-first, labels-count}

module _ (c : List ℕ) (l w b : ℕ) (t : is_first c l ≡ true) where
  from-same : (k : ℕ) → is_first c k ≡ true → (renumbered_label c k == renumbered_label c l) ≡ (k == l)
  from-same k e = grind (arith, common_steps, eq-eqb, ne_eqb, eqb-true, count-apart)

  -- the rows that match, renumbered
  pub rows-led : (rs : List Row)
      → filter (is_candidate (renumbered_label c l) w b) (map (renumbered_row c) (filter (λ r. is_first c r.from) rs)) ≡ map
      (renumbered_row c) (filter (is_candidate l w b) rs)
  rows-led [] = grind (arith, common_steps, filter-none)
  rows-led (r ∷ rs) = grind (arith, common_steps, rows-led rs, filter-no, no_both, filter-yes, ne_eqb, from-same)

module _ (i : Image) (S : SoundImage i) (c : List ℕ) (R : ClassRound i c) where
  abbrev n : ℕ
  n = length i.labels

  abbrev new : ℕ → ℕ
  new = renumbered_label c

  -- ---- the lowest member of the group with number k
  pub record Member (k : ℕ) : Type 0 where
    pub label : ℕ
    pub inside : label < n
    pub first : is_first c label ≡ true
    pub number : new label ≡ k
    pub high : 2 ≤ k → 2 ≤ label

  pub member : (k : ℕ) → k < length (joined_labels i c).labels → Member k
  member k h =
      let x : Nth (is_first c) n k = nth (is_first c) n k (omega (arith, labels-count i S c R)) in
      record {
        label = x.member;
        inside = x.inside;
        first = x.passes;
        number = new-first i S c R x.member x.passes ∙ x.number;
        high = λ low. omega (arith, x.number, count-le (is_first c) 0 x.member);
      }

  pub matching-led : (l w b : ℕ) → l < n
      → filter (is_candidate (new l) w b) (joined_labels i c).rows
      ≡ map (renumbered_row c) (filter (is_candidate (class_of c l) w b) i.rows)
  unfolding joined_labels
  matching-led l w b h = grind (arith, class-first, rows-led)

  module _ (one : OneRow i) where
    pub one-new : OneRow (joined_labels i c)
    one-new k w b low high = grind (arith, member k high, eqb-true, matching-led, length-map)

    pub even-new : is_uneven (joined_labels i c) ≡ false
    even-new = even-of (joined_labels i c) go
      where
        go : (l w b : ℕ) → 2 ≤ l → l < length (joined_labels i c).labels → w < 65536 → b < 2 → hits (joined_labels i c) l w b ≡ 1
        go l w zero low high hw hb = one-new l w false low high
        go l w (suc zero) low high hw hb = one-new l w true low high
        go l w (suc (suc b)) low high hw hb = absurd (omega arith)

    -- a label of the smaller image leads to the group where each member's own row leads
    pub onward-new : ((l m : ℕ) → l < n → m < n → class_of c l ≡ class_of c m → (w : ℕ) (b : Bool)
        → class_of c (onward_label i l w b) ≡ class_of c (onward_label i m w b))
        → (l w : ℕ) (b : Bool) → 2 ≤ l → l < n → onward_label (joined_labels i c) (new l) w b ≡ new (onward_label i l w b)
    onward-new leads l w b low h =
        let m : ℕ = class_of c l in
        let hm : m < n = omega (arith, R.below l h) in
        let x = the-row i one m w b (class-high i S c R l h low) hm in
        grind (arith, matching-led l w (if b then 1 else 0) h, x.1, leads m l hm h (R.own l h) w b)
