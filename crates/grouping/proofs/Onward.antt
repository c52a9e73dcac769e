-- Where a label's row leads by a word and a bit, and when a list of classes parts two labels.
use Rattle.std.proofs.Common.{if◌then◌else◌, ℕ, suc, ◌≤◌, ◌<◌, Bool, true, false, ◌≡◌, refl, sym, ◌∙◌, ap, List, ◌==◌}
use Rattle.std.proofs.Common.{slice_index_or, filter, [], ◌∷◌, arith, length, inl, inr}
use Rattle.std.proofs.lemmas.Grind.{common_steps}
use Rattle.std.specs.List.{list_any, AllByRecursion}
use Rattle.std.proofs.lemmas.Bool.Decides.{nat_tests}
use Rattle.words.proofs.lists.Tests.{cases, and-r, or-l, or-r}
use Rattle.words.proofs.lists.Joins.{all-places, all-filter}
use Rattle.image.specs.Image.{Image, Label, Row, no_row, nth_row}
use Rattle.image.specs.inner.Sound.{SoundRow, SoundImage}
use Rattle.state.specs.State.{label_at}
use Rattle.rows.specs.Rows.{is_candidate, best_row, found, lead_of}
use Rattle.covering.specs.Matched.{is_together}
use Rattle.grouping.specs.Classes.{has_same_fields, class_of, is_parting, is_parted}
use Rattle.covering.specs.Common.{Common}
use Rattle.covering.proofs.Together.{common-together, together-common}
use Rattle.covering.proofs.Hits.{Hit, OneRow, only-row, the-place, hit-is, the-row}

-- ---- lists
pub some-at : {A : Type 0} (p : A → Bool) (d : A) (xs : List A) → list_any p xs ≡ false → (j : ℕ) → j < length xs → p (slice_index_or xs j d) ≡ false
some-at p d xs e j h = grind (arith, common_steps, or-l, or-r)

pub some-none : {A : Type 0} (p : A → Bool) (d : A) (xs : List A) → ((j : ℕ) → j < length xs → p (slice_index_or xs j d) ≡ false) → list_any p xs ≡
    false
some-none p d [] h = refl
some-none p d (x ∷ xs) h = grind (arith, common_steps, h 0, some-none p d xs (λ j l. h (suc j) (omega arith)))

-- ---- labels that hold the same
pub same-fields : (x y : Label) → x ≡ y → has_same_fields x y ≡ true
same-fields x y e = grind (arith, common_steps)

-- ---- where the rows that match lead; where none does, to the label itself
abbrev pub label_led_to : ℕ → List Row → ℕ
label_led_to l [] = l
label_led_to l (r ∷ rs) = r.next

abbrev pub onward_label : Image → ℕ → ℕ → Bool → ℕ
onward_label i l w b = label_led_to l (filter (is_candidate l w (if b then 1 else 0)) i.rows)

module _ (i : Image) (S : SoundImage i) where
  abbrev n : ℕ
  n = length i.labels

  pub onward-inside : (l w : ℕ) (b : Bool) → l < n → onward_label i l w b < n
  onward-inside l w b h =
      go (filter (is_candidate l w (if b then 1 else 0)) i.rows)
      (all-filter (SoundRow i) (is_candidate l w (if b then 1 else 0)) i.rows (all-places (SoundRow i) no_row i.rows S.each))
    where
      go : (rs : List Row) → AllByRecursion (λ r. SoundRow i r × (is_candidate l w (if b then 1 else 0) r ≡ true)) rs → label_led_to l rs < n
      go [] a = h
      go (r ∷ rs) a = a.0.0.leading.inside

  -- labels 0 and 1 hold what no other label holds
  pub low-same : (l m : ℕ) → l < n → m < n → label_at i l ≡ label_at i m → l < 2 → l ≡ m
  low-same l m hl hm e low = grind (arith, common_steps)

  module _ (one : OneRow i) where
    -- a row of a label that matches is the one that leads on
    pub onward-is : (l w : ℕ) (b : Bool) → 2 ≤ l → l < n → (j : ℕ) → j < length i.rows
        → is_candidate l w (if b then 1 else 0) (nth_row i j) ≡ true
        → onward_label i l w b ≡ (nth_row i j).next
    onward-is l w b low high j h e = let x = the-row i one l w b low high in
        ap (label_led_to l) x.1 ∙ ap (λ (r : Row). r.next) (sym (hit-is l w (if b then 1 else 0) x.0 i.rows x.1 j h e))

    pub the-hit : (l w : ℕ) (b : Bool) → (low : 2 ≤ l) → (high : l < n)
        → Hit l w (if b then 1 else 0) (the-row i one l w b low high).0 i.rows
    the-hit l w b low high = let x = the-row i one l w b low high in the-place l w (if b then 1 else 0) x.0 i.rows x.1

    -- and the machine goes there
    pub best-found : (l w : ℕ) (b : Bool) → 2 ≤ l → l < n → (k : ℕ)
        → lead_of (best_row l w (if b then 1 else 0) k i.rows) ≡ found (onward_label i l w b)
    best-found l w b low high k = grind (arith, common_steps, the-row, only-row)

    module _ (c : List ℕ) where
      pub unparted : (l m : ℕ) → 2 ≤ l → l < n → 2 ≤ m → m < n → is_parted i c l m ≡ false
          → (w : ℕ) (b : Bool) → class_of c (onward_label i l w b) ≡ class_of c (onward_label i m w b)
      unfolding is_parted
      unparted l m al hl am hm e w b =
          let x = the-hit l w b al hl in
          let y = the-hit m w b am hm in
          let r : Row = nth_row i x.place in
          let s : Row = nth_row i y.place in
          let q : is_parting c l m r s ≡ false = some-at (is_parting c l m r) no_row i.rows
          (some-at (λ r. list_any (is_parting c l m r) i.rows) no_row i.rows e x.place x.inside) y.place y.inside in
          let t : is_together r s ≡ true = common-together r s w (if b then 1 else 0) (S.each x.place x.inside).small
          (S.each y.place y.inside).small (and-r (r.from == l) _ x.holding) (and-r (s.from == m) _ y.holding) in
          ap (class_of c) (onward-is l w b al hl x.place x.inside x.holding)
          ∙ (let e : class_of c r.next ≡ class_of c s.next = grind (arith, nat_tests, x.holding, y.holding) in e)
          ∙ ap (class_of c) (sym (onward-is m w b am hm y.place y.inside y.holding))

      -- rows that match a word and a bit lead where their labels go by it
      same-led : (l m j k : ℕ) → (hj : j < length i.rows) → (hk : k < length i.rows)
          → ((w : ℕ) (b : Bool) → w < 65536 → class_of c (onward_label i l w b) ≡ class_of c (onward_label i m w b))
          → Common (nth_row i j) (nth_row i k) → (nth_row i j).from ≡ l → (nth_row i k).from ≡ m
          → class_of c (nth_row i j).next ≡ class_of c (nth_row i k).next
      same-led l m j k hj hk h C p q = grind (arith, nat_tests, h C.word C.bit C.low, onward-is l C.word C.bit, onward-is m C.word C.bit, S.each j hj, S.each k hk)

      parts-not : (l m j k : ℕ) → j < length i.rows → k < length i.rows
          → ((w : ℕ) (b : Bool) → w < 65536 → class_of c (onward_label i l w b) ≡ class_of c (onward_label i m w b))
          → is_parting c l m (nth_row i j) (nth_row i k) ≡ false
      parts-not l m j k hj hk h = elim (cases (is_together (nth_row i j) (nth_row i k))) [
        | inl e ↦
            let C = together-common (nth_row i j) (nth_row i k) (S.each j hj) (S.each k hk) e in
            let same = same-led l m j k hj hk h C in
            grind (arith, nat_tests)
        | inr e ↦ grind (arith, nat_tests)
      ]

      pub not-parted : (l m : ℕ) → ((w : ℕ) (b : Bool) → w < 65536 → class_of c (onward_label i l w b) ≡ class_of c (onward_label i m w b))
          → is_parted i c l m ≡ false
      unfolding is_parted
      not-parted l m h = some-none (λ r. list_any (is_parting c l m r) i.rows) no_row i.rows (λ j hj.
          some-none (is_parting c l m (nth_row i j)) no_row i.rows (λ k hk. parts-not l m j k hj hk h))
