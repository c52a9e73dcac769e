-- The numbers of the groups, and that the image with one label a group is sound.
use Rattle.std.proofs.Common.{ℕ, zero, suc, ◌-◌, ◌≤◌, ◌<◌, Bool, true, false, ◌≡◌, refl, sym, ◌∙◌, ap, subst, slice_index, slice_index_or, filter}
use Rattle.std.proofs.Common.{List, [], ◌∷◌, map, zero-add, arith, length, eqb-true, eq-eqb}
use Rattle.std.proofs.Math.ListN.{length-map}
use Rattle.std.proofs.lemmas.Grind.{common_steps}
use Rattle.words.specs.lists.Numbers.{range, count}
use Rattle.std.specs.List.{AllByRecursion}
use Rattle.std.proofs.lemmas.Bool.{cond-true}
use Rattle.words.proofs.lists.Tests.{split, cases}
use Rattle.words.proofs.lists.Counts.{count-snoc, count-le, count-mono, count-below}
use Rattle.words.proofs.lists.Ranges.{length-filter, get_or-filter, get_d-map, filter-yes, filter-no}
use Rattle.words.proofs.lists.Filters.{filter-none}
use Rattle.words.proofs.lists.Joins.{all-at, all-places, all-map, all-of, all-filter}
use Rattle.image.specs.Image.{Image, Row, no_row, nth_row}
use Rattle.image.specs.inner.Sound.{nth_label, end_of, Reaches, SoundLabel, SoundRow, SoundImage}
use Rattle.image.proofs.Rising.{Rising, rising-at}
use Rattle.state.specs.State.{label_at}
use Rattle.grouping.specs.Classes.{class_of, is_first}
use Rattle.minimising.specs.group_numbers.Smaller.{renumbered_label, renumbered_row, joined_labels}
use Rattle.grouping.proofs.Onward.{low-same}
use Rattle.grouping.proofs.Rounds.{ClassRound}

-- ---- the number that passes with k others below it
pub record Nth (p : ℕ → Bool) (n k : ℕ) : Type 0 where
  pub member : ℕ
  pub inside : member < n
  pub passes : p member ≡ true
  pub number : count p 0 member ≡ k

pub nth : (p : ℕ → Bool) (n k : ℕ) → k < count p 0 n → Nth p n k
nth p zero k h = grind (arith, count-le p 0 0)
nth p (suc n) k h = grind (arith, cases (p n), nth p n k, split k (count p 0 n), count-snoc p 0 n, zero-add n)

-- ---- rows in rising order
rising-of : (m : ℕ) (rs : List Row) → (0 < length rs → m ≤ (slice_index_or rs 0 no_row).from)
    → ((k : ℕ) → suc k < length rs → (slice_index_or rs k no_row).from ≤ (slice_index_or rs (suc k) no_row).from) → Rising m rs
rising-of m [] h each = tt
rising-of m (r ∷ rs) h each = (h (omega arith), rising-of r.from rs (λ l. each 0 (omega arith)) (λ k l. each (suc k) (omega arith)))

pub length-filtered : {A : Type 0} (p : A → Bool) (xs : List A) → length (filter p xs) ≤ length xs
length-filtered p [] = grind (arith, common_steps, filter-none)
length-filtered p (x ∷ xs) = grind (arith, common_steps, length-filtered p xs, filter-no, filter-yes)

module _ (i : Image) (S : SoundImage i) (c : List ℕ) (R : ClassRound i c) where
  abbrev n : ℕ
  n = length i.labels

  abbrev new : ℕ → ℕ
  new = renumbered_label c

  class-inside : (l : ℕ) → l < n → class_of c l < n
  class-inside l h = omega (arith, R.below l h)

  pub class-first : (l : ℕ) → l < n → is_first c (class_of c l) ≡ true
  class-first l h = eq-eqb (class_of c (class_of c l)) (class_of c l) (R.own l h)

  pub class-label : (l : ℕ) → l < n → label_at i (class_of c l) ≡ label_at i l
  class-label l h = R.same (class_of c l) l (class-inside l h) h (R.own l h)

  -- labels 0 and 1 are alone in their groups
  pub class-low : (l : ℕ) → l < n → class_of c l < 2 → class_of c l ≡ l
  class-low l h low = low-same i S (class_of c l) l (class-inside l h) h (class-label l h) low

  pub class-high : (l : ℕ) → l < n → 2 ≤ l → 2 ≤ class_of c l
  class-high l h k = grind (arith, common_steps, split, class-low)

  class-zero : class_of c 0 ≡ 0
  class-zero = omega (arith, R.below 0 (omega (arith, S.two)))

  class-one : class_of c 1 ≡ 1
  class-one = class-low 1 (omega (arith, S.two)) (omega (arith, R.below 1 (omega (arith, S.two))))

  count-zero : count (is_first c) 0 0 ≡ 0
  count-zero = omega (arith, count-le (is_first c) 0 0)

  next-first : (k : ℕ) → class_of c k ≡ k → count (is_first c) 0 (suc k) ≡ suc (count (is_first c) 0 k)
  next-first k e = grind (arith, common_steps, eq-eqb, cond-true, zero-add, count-snoc)

  pub new-zero : new 0 ≡ 0
  new-zero = grind (arith, class-zero, count-zero)

  pub new-one : new 1 ≡ 1
  new-one = grind (arith, class-one, next-first 0 class-zero, count-zero)

  count-two : count (is_first c) 0 2 ≡ 2
  count-two = omega (arith, next-first 1 class-one, next-first 0 class-zero, count-zero)

  count-rises : (k l : ℕ) → k ≤ l → count (is_first c) 0 k ≤ count (is_first c) 0 l
  count-rises k l h = grind (arith, count-mono (is_first c) k (l - k))

  pub new-high : (l : ℕ) → l < n → 2 ≤ l → 2 ≤ new l
  new-high l h k = omega (arith, count-two, count-rises 2 (class_of c l) (class-high l h k))

  -- a label that is the lowest of its group
  pub new-first : (l : ℕ) → is_first c l ≡ true → new l ≡ count (is_first c) 0 l
  new-first l t = grind (arith, eqb-true)

  -- ---- the smaller image by number
  pub labels-count : length (joined_labels i c).labels ≡ count (is_first c) 0 n
  unfolding joined_labels
  labels-count = length-map (filter (is_first c) (range 0 n)) (label_at i) ∙ length-filter (is_first c) 0 n

  pub entries-count : length (joined_labels i c).entries ≡ length i.entries
  unfolding joined_labels
  entries-count = length-map i.entries new

  pub new-inside : (l : ℕ) → l < n → new l < length (joined_labels i c).labels
  new-inside l h = omega (arith, labels-count, count-below (is_first c) (class_of c l) n (class-inside l h) (class-first l h))

  pub label-new : (l : ℕ) → l < n → label_at (joined_labels i c) (new l) ≡ label_at i l
  unfolding joined_labels
  label-new l h = grind (arith, common_steps, zero-add, get_or-filter, class-inside, class-first, class-label)

  pub entry-new : (h : ℕ) → h < length i.entries → slice_index (joined_labels i c).entries h ≡ new (slice_index i.entries h)
  unfolding joined_labels
  entry-new h l = get_d-map new i.entries h 0 0 l

  -- ---- it is sound
  end-new : (h : ℕ) → new (end_of h) ≡ end_of h
  end-new h = grind (arith, common_steps, new-zero, new-one)

  pub reaches-new : (h l : ℕ) → Reaches i h l → Reaches (joined_labels i c) h (new l)
  reaches-new h l r = grind (arith, common_steps, new-inside, label-new, end-new)

  row-sound : (r : Row) → SoundRow i r × (is_first c r.from ≡ true) → SoundRow (joined_labels i c) (renumbered_row c r)
  row-sound r x = grind (arith, common_steps, new-high, new-inside, label-new, reaches-new)

  rows-sound : AllByRecursion (SoundRow (joined_labels i c)) (map (renumbered_row c) (filter (λ r. is_first c r.from) i.rows))
  rows-sound =
      all-map (SoundRow (joined_labels i c)) (renumbered_row c) (filter (λ r. is_first c r.from) i.rows)
      (all-of (λ r. SoundRow i r × (is_first c r.from ≡ true)) (λ r. SoundRow (joined_labels i c) (renumbered_row c r)) row-sound
      (filter (λ r. is_first c r.from) i.rows)
      (all-filter (SoundRow i) (λ r. is_first c r.from) i.rows (all-places (SoundRow i) no_row i.rows S.each)))

  rising-led : (m k : ℕ) (rs : List Row) → Rising m rs → ((x : ℕ) → m ≤ x → is_first c x ≡ true → k ≤ new x)
      → Rising k (map (renumbered_row c) (filter (λ r. is_first c r.from) rs))
  rising-led m k [] a h = grind (arith, common_steps, filter-none)
  rising-led m k (r ∷ rs) a h = go (is_first c r.from) refl (rising-led r.from (new r.from) rs a.1)
      (rising-led r.from k rs a.1)
    where
      go : (t : Bool) → is_first c r.from ≡ t
          → (((x : ℕ) → r.from ≤ x → is_first c x ≡ true → new r.from ≤ new x)
          → Rising (new r.from) (map (renumbered_row c) (filter (λ s. is_first c s.from) rs)))
          → (((x : ℕ) → r.from ≤ x → is_first c x ≡ true → k ≤ new x)
          → Rising k (map (renumbered_row c) (filter (λ s. is_first c s.from) rs)))
          → Rising k (map (renumbered_row c) (filter (λ s. is_first c s.from) (r ∷ rs)))
      go true e ih _ = grind (arith, common_steps, filter-yes (λ s. is_first c s.from) r rs e, h r.from a.0 e, ih, new-first, count-rises)
      go false e _ ih =
          let rest = ih (λ x l t. h x (omega (arith, a.0)) t) in
          grind (arith, common_steps, filter-no (λ s. is_first c s.from) r rs e, rest)

  rows-rising : (k : ℕ) → suc k < length (joined_labels i c).rows
      → (nth_row (joined_labels i c) k).from ≤ (nth_row (joined_labels i c) (suc k)).from
  unfolding joined_labels
  rows-rising = rising-at 0 (map (renumbered_row c) (filter (λ r. is_first c r.from) i.rows))
      (rising-led 0 0 i.rows (rising-of 0 i.rows (λ l. omega arith) S.rising) (λ x l t. omega arith))

  pub rows-fewer : length (joined_labels i c).rows ≤ length i.rows
  unfolding joined_labels
  rows-fewer = grind (arith, common_steps, length-map, length-filtered)

  each-sound : (k : ℕ) → k < length (joined_labels i c).rows → SoundRow (joined_labels i c) (nth_row (joined_labels i c) k)
  unfolding joined_labels
  each-sound k h = grind (arith, common_steps, all-at, rows-sound)

  -- a member with at least two groups below it is from 2 up
  member-high : (m : ℕ) → 2 ≤ count (is_first c) 0 m → 2 ≤ m
  member-high m h = omega (arith, count-le (is_first c) 0 m)

  label-sound : (l : ℕ) → 2 ≤ l → l < length (joined_labels i c).labels
      → SoundLabel (length (joined_labels i c).entries) (nth_label (joined_labels i c) l)
  label-sound l low high =
      let x : Nth (is_first c) n l = nth (is_first c) n l (omega (arith, labels-count)) in
      grind (arith, common_steps, new-first x.member x.passes, x.number, member-high x.member, label-new x.member x.inside, entries-count, S.others x.member)

  handler-new : ((joined_labels i c).handler ≡ 0 → ⊥) → (2 ≤ (joined_labels i c).handler)
      × ((joined_labels i c).handler ≤ length (joined_labels i c).entries)
  unfolding joined_labels
  handler-new z = ((S.handled z).0, omega (arith, (S.handled z).1, entries-count))

  pub joined-sound : SoundImage (joined_labels i c)
  joined-sound = record {
    first = omega (arith, entries-count, S.first);
    most = omega (arith, entries-count, S.most);
    two = omega (arith, labels-count, count-two, count-rises 2 n S.two);
    last = omega (arith, labels-count, count-le (is_first c) 0 n, S.last);
    few = omega (arith, rows-fewer, S.few);
    handled = handler-new;
    starts = λ h l. let m : h < length i.entries = omega (arith, entries-count) in
        subst (λ (x : ℕ). Reaches (joined_labels i c) (suc h) x) (sym (entry-new h m))
        (reaches-new (suc h) (slice_index i.entries h) (S.starts h m));
    home = ap (nth_label (joined_labels i c)) (sym new-zero) ∙ label-new 0 (omega (arith, S.two)) ∙ S.home;
    back = ap (nth_label (joined_labels i c)) (sym new-one) ∙ label-new 1 (omega (arith, S.two)) ∙ S.back;
    others = label-sound;
    each = each-sound;
    rising = rows-rising;
  }
