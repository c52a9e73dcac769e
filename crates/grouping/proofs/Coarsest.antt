-- The grouping meets the rule, every grouping that meets the rule is within it, and none of these has fewer groups.
use Rattle.std.proofs.Common.{if◌then◌else◌, ℕ, zero, suc, ◌+◌, ◌≤◌, ◌<◌, Bool, true, false, not, ◌≡◌, refl, sym, ◌∙◌, ap, ◌⊎◌, inl, ◌==◌}
use Rattle.std.proofs.Common.{inr, arith, length, eqb-true, eq-eqb, ne_eqb}
use borrow.Author.Tests.{eqb-false}
use Rattle.std.proofs.lemmas.Grind.{common_steps}
use Rattle.words.specs.lists.Numbers.{any, count}
use Rattle.words.proofs.lists.Tests.{and-l, split, not-true, bit-low}
use Rattle.words.proofs.lists.Searches.{any-false, any-none}
use Rattle.words.proofs.lists.Counts.{count-within}
use Rattle.text.specs.frames.Frame.{contents}
use Rattle.image.specs.Image.{Image, nth_row}
use Rattle.image.specs.Decode.{decoded_image}
use Rattle.image.specs.inner.Sound.{SoundImage}
use Rattle.image.proofs.Accepted.{image-sound}
use Rattle.state.specs.State.{label_at}
use Rattle.rows.specs.Rows.{is_candidate}
use Rattle.covering.specs.Matched.{is_uneven}
use Rattle.covering.proofs.Hits.{OneRow, one-row}
use Rattle.grouping.specs.Rule.{Grouping, Meets, is_lowest, groups}
use Rattle.grouping.specs.Classes.{class_of, is_first, is_staying_with, classes, grouping}
use Rattle.grouping.specs.Fewest.{GroupsMeet, GroupsCoarsest, GroupsFewest}
use Rattle.grouping.proofs.Onward.{same-fields, onward_label, onward-inside, low-same, onward-is, the-hit}
use Rattle.grouping.proofs.Rounds.{has_same_fields_at, first-alike, class-same, stays-made, stays-alike, rounds, group-round, group-leads}

pub bit-of : (b : ℕ) → b < 2 → (t : Bool) × ((if t then 1 else 0) ≡ b)
bit-of zero h = (false, refl)
bit-of (suc zero) h = (true, refl)
bit-of (suc (suc b)) h = absurd (omega arith)

module _ (i : Image) (S : SoundImage i) (one : OneRow i) where
  abbrev n : ℕ
  n = length i.labels

  -- a row that matches leads where its label leads
  row-leads : (l w b j : ℕ) → j < length i.rows → is_candidate l w b (nth_row i j) ≡ true → (t : Bool)
      → (if t then 1 else 0) ≡ b → (nth_row i j).next ≡ onward_label i l w t
  row-leads l w b j h e t q = search (arith, and-l, eqb-true, onward-is)

  -- (i)
  pub grouping-meets : Meets i (class_of (grouping i))
  grouping-meets = record {
    same = (group-round i S one).same;
    leads = λ l m hl hm e w b hw hb j k hj hk p q.
        let t = bit-of b hb in
        ap (class_of (grouping i)) (row-leads l w b j hj p t.0 t.1)
        ∙ group-leads i S one l m hl hm e w t.0
        ∙ sym (ap (class_of (grouping i)) (row-leads m w b k hk q t.0 t.1));
  }

  -- ---- any grouping that meets the rule
  module _ (g : Grouping) (M : Meets i g) where
    meets-onward : (l m : ℕ) → l < n → m < n → g l ≡ g m → (w : ℕ) (b : Bool) → w < 65536
        → g (onward_label i l w b) ≡ g (onward_label i m w b)
    meets-onward l m hl hm e w b hw = go (split l 2) (split m 2)
      where
        low : l ≡ m → g (onward_label i l w b) ≡ g (onward_label i m w b)
        low q = ap (λ (x : ℕ). g (onward_label i x w b)) q

        go : (l < 2) ⊎ (2 ≤ l) → (m < 2) ⊎ (2 ≤ m) → g (onward_label i l w b) ≡ g (onward_label i m w b)
        go (inl x) y = low (low-same i S l m hl hm (M.same l m hl hm e) x)
        go (inr x) (inl y) = low (sym (low-same i S m l hm hl (sym (M.same l m hl hm e)) y))
        go (inr x) (inr y) =
            let p = the-hit i S one l w b x hl in
            let q = the-hit i S one m w b y hm in
            ap g (onward-is i S one l w b x hl p.place p.inside p.holding)
            ∙ M.leads l m hl hm e w (if b then 1 else 0) hw (bit-low b) p.place q.place p.inside q.inside p.holding q.holding
            ∙ sym (ap g (onward-is i S one m w b y hm q.place q.inside q.holding))

    within-classes : (k l m : ℕ) → l < n → m < n → g l ≡ g m → class_of (classes i k) l ≡ class_of (classes i k) m
    unfolding classes
    within-classes zero l m hl hm e =
        class-same i (has_same_fields_at i) (first-alike i) l m hl hm (same-fields (label_at i l) (label_at i m) (M.same l m hl hm e))
    within-classes (suc k) l m hl hm e =
        class-same i (is_staying_with i (classes i k)) (stays-alike i S one (classes i k) (rounds i S one k)) l m hl hm
        (stays-made i S one (classes i k) (rounds i S one k) l m (within-classes k l m hl hm e) (λ w b hw.
        within-classes k (onward_label i l w b) (onward_label i m w b) (onward-inside i S l w b hl) (onward-inside i S m w b hm)
        (meets-onward l m hl hm e w b hw)))

    pub within-grouping : (l m : ℕ) → l < n → m < n → g l ≡ g m → class_of (grouping i) l ≡ class_of (grouping i) m
    unfolding grouping
    within-grouping = within-classes n

    -- (ii) the lowest member of a group of the coarsest grouping is the lowest of its own group
    pub fewest : groups (class_of (grouping i)) n ≤ groups g n
    fewest = count-within (is_lowest (class_of (grouping i))) (is_lowest g) 0 n (λ l a h t.
        let p : any (λ k. class_of (grouping i) k == class_of (grouping i) l) 0 l ≡ false =
        not-true (any (λ k. class_of (grouping i) k == class_of (grouping i) l) 0 l) t in
        ap not (any-none (λ k. g k == g l) 0 l (λ k m. ne_eqb (g (0 + k)) (g l) (λ e.
        eqb-false (class_of (grouping i) (0 + k)) (class_of (grouping i) l)
        (any-false (λ k. class_of (grouping i) k == class_of (grouping i) l) 0 l p (0 + k) (omega arith) (omega arith))
        (within-grouping (0 + k) l (omega arith) (omega arith) e)))))

  -- ---- the groups are counted by the labels that are their own class
  first-lowest : (l : ℕ) → l < n → is_first (grouping i) l ≡ true → is_lowest (class_of (grouping i)) l ≡ true
  first-lowest l h t = grind (arith, common_steps, eqb-true, any-none, group-round, ne_eqb)

  lowest-first : (l : ℕ) → l < n → is_lowest (class_of (grouping i)) l ≡ true → is_first (grouping i) l ≡ true
  lowest-first l h t = eq-eqb (class_of (grouping i) l) l (go (split (class_of (grouping i) l) l))
    where
      go : (class_of (grouping i) l < l) ⊎ (l ≤ class_of (grouping i) l) → class_of (grouping i) l ≡ l
      go (inl x) =
          let none = any-false (λ k. class_of (grouping i) k == class_of (grouping i) l) 0 l (not-true (any (λ k. class_of (grouping i) k == class_of (grouping i) l) 0 l) t) in
          absurd (eqb-false _ _ (none (class_of (grouping i) l) (omega arith) (omega arith)) ((group-round i S one).own l h))
      go (inr x) = omega (arith, (group-round i S one).below l h)

  pub groups-counted : groups (class_of (grouping i)) n ≡ count (is_first (grouping i)) 0 n
  groups-counted = search (arith, count-within, first-lowest, lowest-first)

-- ---- both where 23 does not apply
module _ (i : Image) (S : SoundImage i) (even : is_uneven i ≡ false) where
  pub even-meets : Meets i (class_of (grouping i))
  even-meets = grouping-meets i S (one-row i S even)

  pub even-fewest : (g : Grouping) → Meets i g → groups (class_of (grouping i)) (length i.labels) ≤ groups g (length i.labels)
  even-fewest = fewest i S (one-row i S even)

-- ---- of every such text
pub groups-meet : GroupsMeet
groups-meet t ok even = even-meets (decoded_image (contents t)) (image-sound t ok) even

pub groups-coarsest : GroupsCoarsest
groups-coarsest t ok even g M l m hl hm e = grind (arith, image-sound, one-row, within-grouping)

pub groups-fewest : GroupsFewest
groups-fewest t ok even g M = even-fewest (decoded_image (contents t)) (image-sound t ok) even g M
