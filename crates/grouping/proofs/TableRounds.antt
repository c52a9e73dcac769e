-- Steps of the functions that find the classes of a table's labels, round after round.
use Rattle.std.proofs.Common.{ℕ, suc, ◌+◌, ◌-◌, ◌≤◌, ◌<◌, Bool, true, false, not, ◌≡◌, refl, sym, ◌∙◌, ap, ap₂, ◌==◌, slice_index, slice_index_or}
use Rattle.std.proofs.Common.{List, [], ◌∷◌, arith, length, set, eq-eqb, eqb-true, Option, find, unwrap_or}
use Rattle.std.proofs.lemmas.Grind.{common_steps}
use Rattle.std.proofs.Math.ListN.{get_or-append}
use Rattle.std.specs.List.{range_with_len, list_any}
use Rattle.words.specs.lists.Numbers.{tabulate, lowest}
use Rattle.words.specs.lists.Sequences.{over}
use Rattle.words.proofs.lists.Written.{written-front}
use Rattle.words.proofs.lists.Fills.{ValuesFrom, values-none, values-turn, values-all}
use Rattle.words.proofs.lists.Tests.{cases, and-l, and-r, and-true, not-true, split}
use Rattle.words.proofs.lists.Searches.{lowest-hit, lowest-above, lowest-most, lowest-before, lowest-alike}
use Rattle.words.proofs.lists.Tabulated.{length-tabulate}
use Rattle.image.specs.Image.{Image, no_row}
use Rattle.image.specs.Decode.{last_label}
use Rattle.tables.specs.Table.{table_image}
use Rattle.tables.proofs.TableReads.{labels-count, label-at}
use Rattle.covering.proofs.Chains.{lowest-chain}
use Rattle.covering.proofs.Hits.{OneRow, one-row}
use Rattle.grouping.specs.Classes.{class_of, is_parting, is_parted, is_staying_with, classes_by, classes}
use Rattle.grouping.specs.inner.GroupingContracts.{Even, Classed, Lowest, is_parted_on, is_class_leader}
use Rattle.grouping.specs.inner.Links.{first_same, FirstSame}
use Rattle.grouping.proofs.Representatives.{lowest_alike, alike-le, lowest-own}
use Rattle.grouping.proofs.Onward.{low-same}
use Rattle.grouping.proofs.Rounds.{ClassRound, has_same_fields_at, same-class, rounds, stays-alike}
use Rattle.grouping.proofs.Partings.{parted-is}

-- ---- the first number that passes, told by what stands before it
lowest-is : (p : ℕ → Bool) (i n x : ℕ) → i ≤ x → x ≤ i + n → (x < i + n → p x ≡ true)
    → ((k : ℕ) → i ≤ k → k < x → p k ≡ false) → lowest p i n ≡ x
lowest-is p i n x a b hit before =
    grind (arith, split (lowest p i n) x, split x (lowest p i n), lowest-hit p i n, before (lowest p i n), lowest-above p i n, lowest-most p i n, lowest-before p i n x, hit)

some-same : {A : Type 0} (p q : A → Bool) (d : A) (xs : List A) → ((j : ℕ) → j < length xs → p (slice_index_or xs j d) ≡ q (slice_index_or xs j d))
    → list_any p xs ≡ list_any q xs
some-same p q d [] e = refl
some-same p q d (x ∷ xs) e = grind (arith, common_steps, e 0, some-same p q d xs (λ j l. e (suc j) (omega arith)))

-- ---- next_class
module _ (b c next : List ℕ) (l : ℕ) (w : Lowest c next l) where
  abbrev leads : ℕ → Bool
  leads = is_class_leader b c next l

  abbrev lowest_one : ℕ
  lowest_one = slice_index c l

  all : l ≡ lowest_one + (l - lowest_one)
  all = omega (arith, w.below)

  -- the lowest label of a class leads the next one of l too, where the two are not parted
  pub leader-first : (lowest_one < l → is_parted_on b c lowest_one l ≡ false)
      → lowest_one ≡ unwrap_or (find leads (range_with_len lowest_one (l - lowest_one))) l
  leader-first together = sym (ap (unwrap_or (find leads (range_with_len lowest_one (l - lowest_one)))) all
      ∙ lowest-chain leads lowest_one (l - lowest_one)
      ∙ lowest-is leads lowest_one (l - lowest_one) lowest_one (omega arith) (omega arith) leading (λ k u v. absurd (omega arith)))
    where
      leading : lowest_one < lowest_one + (l - lowest_one) → leads lowest_one ≡ true
      leading h = grind (arith, and-true, eq-eqb, w.own, w.leads, together)

  pub leader-below : (r : Option ℕ) (v : ℕ) → r ≡ find leads (range_with_len lowest_one (l - lowest_one)) → v ≡ unwrap_or r l → v ≤ l
  leader-below r v e u = omega (
    arith,
    u ∙ ap₂ unwrap_or e all ∙ lowest-chain leads lowest_one (l - lowest_one),
    lowest-most leads lowest_one (l - lowest_one),
    w.below,
  )

module _ (b : List ℕ) where
  abbrev i : Image
  i = table_image b

  abbrev n : ℕ
  n = length i.labels

  -- a buffer whose first l places hold what a test gives, the others what they held
  pub record FillingClasses (alike : ℕ → ℕ → Bool) (old buffer : List ℕ) (m l : ℕ) : Type 0 where
    pub room : length old ≡ 256
    pub small : m < 256
    pub is : m ≡ last_label b
    pub filled : ValuesFrom (lowest_alike alike) old buffer 0 (m + 1) l
    pub each : (k : ℕ) → k < l → slice_index buffer k ≡ lowest_alike alike k

  module _ (alike : ℕ → ℕ → Bool) (old : List ℕ) where
    pub fill-start : length old ≡ 256 → (m : ℕ) → m < 256 → m ≡ last_label b → FillingClasses alike old old m 0
    fill-start h m g e = grind (arith, common_steps, values-none (lowest_alike alike) old 0 (m + 1), lowest_alike alike)

    module _ (buffer : List ℕ) (m l : ℕ) (t : FillingClasses alike old buffer m l) where
      pub fill-on : l ≤ m → (x : ℕ) → x ≡ lowest_alike alike l → FillingClasses alike old (set buffer l x) m (l + 1)
      fill-on h x e = record {
        room = t.room;
        small = t.small;
        is = t.is;
        filled = grind (arith, t.room, t.small, t.filled, values-turn (lowest_alike alike) old 0 (m + 1) buffer l x);
        each = λ k g. grind (arith, common_steps);
      }

      -- all places are filled
      pub fill-all : m < l → buffer ≡ over (classes_by i alike) old
      unfolding tabulate
      fill-all h = grind (arith, labels-count, written-front, values-all, lowest_alike)

  -- label 0 alone
  pub fill-first : (alike : ℕ → ℕ → Bool) (old : List ℕ) → length old ≡ 256 → (m : ℕ) → m < 256 → m ≡ last_label b
      → FillingClasses alike old (set old 0 0) m 1
  fill-first alike old h m g e = fill-on alike old old m 0 (fill-start alike old h m g e) (omega arith) 0 (omega (arith, alike-le alike 0))

  -- the first places of such a buffer
  pub over-classed : (c old buffer : List ℕ) → length c ≡ n → buffer ≡ over c old → length buffer ≡ 256 → Classed b c buffer
  over-classed c old buffer h e g = grind (arith, common_steps, labels-count, get_or-append)

  -- ---- first_classes
  pub first-own : (l : ℕ) → first_same b l ≡ lowest_alike (has_same_fields_at i) l
  first-own l = grind (arith, common_steps, lowest-alike, has_same_fields_at, label-at)

  pub first-below : (old buffer : List ℕ) (m l : ℕ) → FillingClasses (has_same_fields_at i) old buffer m l → FirstSame b l buffer
  first-below old buffer m l t = record { at = λ k h. t.each k h ∙ sym (first-own k) }

  pub first-all : (old buffer : List ℕ) (m l : ℕ) → FillingClasses (has_same_fields_at i) old buffer m l → m < l
      → buffer ≡ over (classes i 0) old
  unfolding classes
  first-all old buffer m l t h = fill-all (has_same_fields_at i) old buffer m l t h

  pub classes-long : (k : ℕ) → length (classes i k) ≡ n
  unfolding classes
  classes-long k = grind (arith, common_steps, has_same_fields_at, length-tabulate)

  module _ (x : Even b) where
    one : OneRow i
    one = one-row i x.sound x.covered

    -- ---- refine, from a buffer with the classes after k rounds
    module _ (k : ℕ) (buffer : List ℕ) (h : Classed b (classes i k) buffer) where
      abbrev c : List ℕ
      c = classes i k

      inside : (l : ℕ) → l < n → slice_index buffer l ≡ class_of c l
      inside l z = h.at l (omega (arith, labels-count b))

      R : ClassRound i c
      R = rounds i x.sound one k

      -- classes of labels from 2 up are from 2 up
      pub class-low : (l : ℕ) → 2 ≤ l → l ≤ last_label b → 2 ≤ slice_index buffer l
      class-low l a z =
          let y : ℕ = class_of c l in
          grind (arith, split y 2, labels-count b, inside l, R.below l, R.own l, R.same y l, low-same i x.sound y l)

      pub class-below : (l : ℕ) → l ≤ last_label b → slice_index buffer l ≤ l
      class-below l z = omega (arith, inside l (omega (arith, labels-count b)), R.below l (omega (arith, labels-count b)))

      -- the buffer parts as the classes do
      parts-same : (l m j g : ℕ) → j < length i.rows → g < length i.rows
          → is_parting buffer l m (slice_index_or i.rows j no_row) (slice_index_or i.rows g no_row) ≡ is_parting c l
          m (slice_index_or i.rows j no_row) (slice_index_or i.rows g no_row)
      parts-same l m j g hj hg = grind (arith, inside, x.sound.each j hj, x.sound.each g hg)

      parted-same : (m l : ℕ) → is_parted i buffer m l ≡ is_parted i c m l
      unfolding is_parted
      parted-same m l =
          some-same (λ r. list_any (is_parting buffer m l r) i.rows) (λ r. list_any (is_parting c m l r) i.rows) no_row i.rows (λ j hj.
          some-same (is_parting buffer m l (slice_index_or i.rows j no_row)) (is_parting c m l (slice_index_or i.rows j no_row)) no_row i.rows (λ g hg.
          parts-same m l j g hj hg))

      abbrev stays : ℕ → ℕ → Bool
      stays = is_staying_with i c

      -- labels of one class after the round were not parted in it
      pub unparted-before : (m l : ℕ) → 2 ≤ m → m ≤ last_label b → 2 ≤ l → l ≤ last_label b
          → class_of (classes i (suc k)) m ≡ class_of (classes i (suc k)) l → is_parted_on b buffer m l ≡ false
      unfolding classes
      unparted-before m l am hm al hl e =
          let t : stays m l ≡ true =
          same-class i stays (stays-alike i x.sound one c R) m l (omega (arith, labels-count b)) (omega (arith, labels-count b)) e in
          sym (parted-is b buffer x m l am hm al hl) ∙ parted-same m l
          ∙ not-true (is_parted i c m l) (and-r (class_of c m == class_of c l) (not (is_parted i c m l)) t)

      -- labels 0 and 1 stay alone
      pub zero-alone : 0 ≡ lowest_alike stays 0
      zero-alone = omega (arith, alike-le stays 0)

      pub one-alone : 1 ≡ lowest_alike stays 1
      one-alone =
          let y : ℕ = lowest_alike stays 1 in
          grind (arith, split y 1, alike-le stays 1, x.sound.two, lowest-hit (λ m. stays m 1) 0 1, and-l (class_of c y == class_of c 1) (not (is_parted i c y 1)), eqb-true (class_of c y) (class_of c 1), R.same y 1, low-same i x.sound y 1)

      -- the lowest label of a class stays the lowest of its next one
      class-own : (l : ℕ) → l ≤ last_label b → slice_index buffer (slice_index buffer l) ≡ slice_index buffer l
      class-own l z =
          grind (arith, labels-count b, inside l, inside (class_of c l), R.below l, R.own l)

      lowest-stays : (l : ℕ) → l < n → class_of c l ≡ l → lowest_alike stays l ≡ l
      lowest-stays l hl e =
          let y : ℕ = lowest_alike stays l in
          grind (arith, split y l, alike-le stays l, lowest-hit (λ m. stays m l) 0 l, and-l (class_of c y == class_of c l) (not (is_parted i c y l)), eqb-true (class_of c y) (class_of c l), R.below y)

      pub class-lowest : (next : List ℕ) (l : ℕ) → 2 ≤ l → l ≤ last_label b
          → ((m : ℕ) → m < l → slice_index next m ≡ lowest_alike stays m) → Lowest buffer next l
      class-lowest next l a z each = record {
        below = class-below l z;
        own = class-own l z;
        leads = λ h. each (slice_index buffer l) h
            ∙ lowest-stays (slice_index buffer l) (omega (arith, labels-count b))
            (sym (inside (slice_index buffer l) (omega (arith, labels-count b))) ∙ class-own l z);
      }

      -- the lowest of the next class is found among those that are lowest of theirs
      module _ (next : List ℕ) (l : ℕ) (a : 2 ≤ l) (z : l ≤ last_label b)
          (each : (m : ℕ) → m < l → slice_index next m ≡ lowest_alike stays m) where
        hl : l < n
        hl = omega (arith, labels-count b)

        not-parted : (m : ℕ) → 2 ≤ m → m < l → not (is_parted_on b buffer m l) ≡ not (is_parted i c m l)
        not-parted m u v = ap not (sym (parted-is b buffer x m l u (omega arith) a z) ∙ parted-same m l)

        abbrev y : ℕ
        y = lowest_alike stays l

        most : y ≤ l
        most = alike-le stays l

        hy : y < n
        hy = omega (arith, most, hl)

        stay : y < l → stays y l ≡ true
        stay p = lowest-hit (λ m. stays m l) 0 l (omega arith)

        same : y < l → class_of c y ≡ class_of c l
        same p = grind (arith, eqb-true, and-l, stay)

        low : slice_index buffer l ≤ y
        low = grind (arith, common_steps, split, inside, R, class-below, hl, hy, same)

        leading : y < l → is_class_leader b buffer next l y ≡ true
        leading p =
            let own = lowest-own n stays (stays-alike i x.sound one c R) l hl in
            grind (arith, common_steps, and-true, eq-eqb, and-r, inside y hy, inside l hl, same p, each y p, own, class-low l a z, low, not-parted y, stay p)

        -- one below that led a class would stay with l
        led : (m : ℕ) → slice_index buffer l ≤ m → m < l → is_class_leader b buffer next l m ≡ true → stays m l ≡ true
        led m u p e = grind (arith, common_steps, and-true, eq-eqb, and-l, and-r, eqb-true, inside, class-low, hl, not-parted)

        before : (m : ℕ) → slice_index buffer l ≤ m → m < y → is_class_leader b buffer next l m ≡ false
        before m u v = grind (arith, cases (is_class_leader b buffer next l m), led m u, most, lowest-before (λ m. stays m l) 0 l m)

        pub next-is : (v : ℕ) (r : Option ℕ)
            → r ≡ find (is_class_leader b buffer next l) (range_with_len (slice_index buffer l) (l - slice_index buffer l)) → v ≡ unwrap_or r l
            → v ≡ lowest_alike stays l
        next-is v r e u =
            let w : l ≡ slice_index buffer l + (l - slice_index buffer l) = omega (arith, class-below l z) in
            grind (arith, lowest-chain (is_class_leader b buffer next l) (slice_index buffer l) (l - slice_index buffer l), lowest-is (is_class_leader b buffer next l) (slice_index buffer l) (l - slice_index buffer l) y low, most, leading, before)
