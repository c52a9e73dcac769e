-- The table that is prepared from an accepted image holds the very image that the text does.
use Rattle.std.proofs.Common.{if◌then◌else◌, ℕ, zero, suc, ◌+◌, ◌*◌, ◌-◌, ◌%◌, ◌≤◌, ◌<◌, false, ◌||◌, ◌≡◌, sym, ◌∙◌, ap, ap₂, List, map, nat_lt, ◌==◌, slice_index, flat_map}
use Rattle.std.proofs.Common.{zero-add, arith, length, take, length-append, length-take, get_or-take, le-ltb, eq-eqb}
use Rattle.std.proofs.Common.{ne_eqb}
use Rattle.std.proofs.Math.Decide.{ℕ_discrete, dec_lt}
use Rattle.std.proofs.Math.ListN.{get_or-append}
use Rattle.std.proofs.lemmas.Grind.{common_steps}
use Rattle.words.specs.lists.Numbers.{range}
use Rattle.words.proofs.lists.Joins.{concat-alike}
use Rattle.std.proofs.lemmas.Bool.{cond-true, cond-false}
use Rattle.words.proofs.lists.Tests.{or-none}
use Rattle.words.proofs.lists.Ranges.{length-map-range}
use Rattle.text.specs.frames.Frame.{size, field, pair_at, contents}
use Rattle.text.specs.frames.Verdict.{fine}
use Rattle.text.specs.frames.Answer.{success}
use Rattle.text.proofs.frames.Lent.{Success, lent-told}
use Rattle.text.proofs.frames.Contents.{any-contents-length}
use Rattle.image.specs.Image.{Label, Row, nth_row}
use Rattle.image.specs.Decode.{scheme_count, last_label, row_count, rows_from, label_in, row_in, decoded_image, row_in_frame}
use Rattle.image.specs.Check.{has_bad_counts, has_bad_handler, table_verdict, image_verdict}
use Rattle.image.specs.inner.Sound.{SoundLabel, SoundRow, nth_label}
use Rattle.image.proofs.Accepted.{label-read, row-read, labels-count, entries-count, rows-count, counted, accepted-sound, image-bytes}
use Rattle.image.proofs.Accepted.{image-table}
use Rattle.tables.specs.Prepare.{first_frame, noted_table, prepare}
use Rattle.tables.specs.Table.{table_end, is_bad_table, label_on, table_label, first_on, end_on, row_on, rows_on, table_image}
use Rattle.tables.specs.Prepared.{PreparedEntry, PreparedOnSuccess}
use Rattle.tables.specs.inner.Asked.{Whole}
use Rattle.tables.proofs.RangeLaws.{map-alike, map-moved, ranges-join}
use Rattle.tables.proofs.Front.{handler-alike, counts-alike, alike-image, counts-same, bad-handler-same, end-same}
use Rattle.tables.proofs.TableReads.{label-on}
use Rattle.tables.proofs.Noted.{noted-length, noted-schemes, noted-last, noted-rows, noted-handler, noted-rows-from, noted-end, noted-label}
use Rattle.tables.proofs.Noted.{noted-late, noted-pair, noted-in}
use Rattle.tables.proofs.FirstFrames.{first-low, first-inside, first-rises, first-own, first-two, first-last}

module _ (b : List ℕ) (ok : table_verdict b ≡ fine) where
  pub whole-size : table_end b ≡ size b
  whole-size = omega (arith, (counted b ok).all)

  pub accepted-counts : has_bad_counts b ≡ false
  accepted-counts =
      or-none (scheme_count b == 0 || nat_lt 16 (scheme_count b) || last_label b == 0) (nat_lt 1024 (row_count b))
      (or-none (scheme_count b == 0 || nat_lt 16 (scheme_count b)) (last_label b == 0)
      (or-none (scheme_count b == 0) (nat_lt 16 (scheme_count b))
      (ne_eqb (scheme_count b) 0 (λ z. omega (arith, (counted b ok).first))) (le-ltb 16 (scheme_count b) (counted b ok).most))
      (ne_eqb (last_label b) 0 (λ z. omega (arith, (counted b ok).two))))
      (le-ltb 1024 (row_count b) (counted b ok).few)

  noted-counts : has_bad_counts (noted_table b) ≡ has_bad_counts b
  noted-counts = counts-alike b (noted_table b) (noted-schemes b) (noted-last b) (noted-rows b)

  noted-handler-good : has_bad_handler (noted_table b) ≡ false
  noted-handler-good = handler-alike b (noted_table b) (noted-handler b) (noted-schemes b) ∙ (counted b ok).handler

  pub noted-whole : length b % 10 ≡ 0 → Whole (noted_table b)
  noted-whole e = grind (arith, common_steps, noted-length, noted-end, whole-size, accepted-counts, noted-counts, noted-handler-good)

  module _ (bytes : (k : ℕ) → slice_index b k < 256) where
    -- ---- labels: what the image check lets pass is read as it stands
    label-sound : (l : ℕ) → l ≤ last_label b → label_on (noted_table b) l ≡ label_in b l
    label-sound zero h = sym (accepted-sound b ok bytes).home ∙ label-read b 0 h
    label-sound (suc zero) h = sym (accepted-sound b ok bytes).back ∙ label-read b 1 h
    label-sound (suc (suc l)) h =
        let m : ℕ = suc (suc l) in
        let x : Label = label_in b m in
        let same : nth_label (decoded_image b) m ≡ x = label-read b m h in
        let s : SoundLabel (length (decoded_image b).entries) (nth_label (decoded_image b) m) =
        (accepted-sound b ok bytes).others m (omega arith) (omega (arith, labels-count b)) in
        let k : x.kind ≤ 2 = omega (arith, s.kinds, ap (λ (y : Label). y.kind) same) in
        let c : x.called ≤ scheme_count b = called-most m s same in
        let e₁ : (if nat_lt 2 x.kind then 0 else x.kind) ≡ x.kind = cond-false (nat_lt 2 x.kind) 0 x.kind (le-ltb 2 x.kind k) in
        let e₂ : (if nat_lt (scheme_count b) x.called then 0 else x.called) ≡ x.called =
        cond-false (nat_lt (scheme_count b) x.called) 0 x.called (le-ltb (scheme_count b) x.called c) in
        ap₂ (λ (n : ℕ) (y : Label). record {
          kind = if nat_lt 2 y.kind then 0 else y.kind;
          called = if nat_lt n y.called then 0 else y.called;
          owner = y.owner;
          result = y.result;
          mask = y.mask;
        }) (noted-schemes b) (noted-label b m)
        ∙ (λ j. record { kind = e₁ j; called = e₂ j; owner = x.owner; result = x.result; mask = x.mask })
      where
        called-most : (m : ℕ) → SoundLabel (length (decoded_image b).entries) (nth_label (decoded_image b) m)
            → nth_label (decoded_image b) m ≡ label_in b m
            → (label_in b m).called ≤ scheme_count b
        called-most m s same = go (ℕ_discrete (nth_label (decoded_image b) m).kind 0)
          where
            e : (nth_label (decoded_image b) m).called ≡ (label_in b m).called
            e = ap (λ (y : Label). y.called) same

            go : Dec ((nth_label (decoded_image b) m).kind ≡ 0) → (label_in b m).called ≤ scheme_count b
            go (yes z) = omega (arith, s.plain z, e)
            go (no z) = omega (arith, (s.calls z).1, e, entries-count b)

    -- ---- rows: between the noted frames of two labels stand the rows of the first
    pub first-noted : (l : ℕ) → 1 ≤ l → l ≤ last_label b → first_on (noted_table b) l ≡ first_frame b l
    first-noted l g h = noted-in b ok (l - 1) (omega arith) ∙ ap (first_frame b) (let e : l - 1 + 1 ≡ l = omega arith in e)

    pub end-noted : (l : ℕ) → l ≤ last_label b → end_on (noted_table b) l ≡ first_frame b (l + 1)
    end-noted l h = omega (arith, noted-in b ok l h, noted-end b, whole-size, first-inside b ok (l + 1))

    -- only a row of a function call's label has a function bit other than 2
    bit-own : (l f : ℕ) → l ≤ last_label b → first_frame b l ≤ f → f < first_frame b (l + 1)
        → (if (table_label (noted_table b) l).kind == 2 then field b f 6 else 2) ≡ field b f 6
    bit-own l f m h g = go (ℕ_discrete (table_label (noted_table b) l).kind 2)
      where
        k : ℕ
        k = f - rows_from b

        at : rows_from b + k ≡ f
        at = omega (arith, first-low b ok l)

        few : k < row_count b
        few = omega (arith, first-low b ok l, first-inside b ok (l + 1), (counted b ok).all)

        row : nth_row (decoded_image b) k ≡ row_in_frame b f
        row = row-read b k few ∙ ap (row_in_frame b) at

        sound : SoundRow (decoded_image b) (nth_row (decoded_image b) k)
        sound = (accepted-sound b ok bytes).each k (omega (arith, few, rows-count b))

        kind : (nth_label (decoded_image b) (nth_row (decoded_image b) k).from).kind ≡ (table_label (noted_table b) l).kind
        kind =
            ap (λ (r : Row). (nth_label (decoded_image b) r.from).kind) row
            ∙ ap (λ (x : Label). x.kind)
            (ap (nth_label (decoded_image b)) (first-own b ok bytes l f h g) ∙ label-read b l m
            ∙ sym (label-on (noted_table b) l (omega (arith, noted-last b)) ∙ label-sound l m))

        two : ((table_label (noted_table b) l).kind ≡ 2 → ⊥) → Dec ((nth_row (decoded_image b) k).bit < 2) → field b f 6 ≡ 2
        two n (yes z) = absurd (n (sym kind ∙ sound.function z))
        two n (no z) = omega (arith, sound.bits, ap (λ (r : Row). r.bit) row)

        go : Dec ((table_label (noted_table b) l).kind ≡ 2) → (if (table_label (noted_table b) l).kind == 2 then field b f 6 else 2)
            ≡ field b f 6
        go (yes e) = cond-true ((table_label (noted_table b) l).kind == 2) (field b f 6) 2 (eq-eqb (table_label (noted_table b) l).kind 2 e)
        go (no e) =
            cond-false ((table_label (noted_table b) l).kind == 2) (field b f 6) 2 (ne_eqb (table_label (noted_table b) l).kind 2 e)
            ∙ sym (two e (dec_lt (nth_row (decoded_image b) k).bit 2))

    row-own : (l f : ℕ) → l ≤ last_label b → first_frame b l ≤ f → f < first_frame b (l + 1) → row_on (noted_table b) l f ≡ row_in_frame b f
    row-own l f m h g =
        let e₁ : l ≡ field b f 1 = sym (first-own b ok bytes l f h g) in
        let e₂ : pair_at (noted_table b) f 2 ≡ pair_at b f 2 = noted-pair b f 2 (omega arith) (omega arith) in
        let e₄ : pair_at (noted_table b) f 4 ≡ pair_at b f 4 = noted-pair b f 4 (omega arith) (omega arith) in
        let e₆ : (if (table_label (noted_table b) l).kind == 2 then field (noted_table b) f 6 else 2) ≡ field b f 6 =
        ap (λ (n : ℕ). if (table_label (noted_table b) l).kind == 2 then n else 2) (noted-late b f 6 (omega arith) (omega arith))
        ∙ bit-own l f m h g in
        let e₇ : field (noted_table b) f 7 ≡ field b f 7 = noted-late b f 7 (omega arith) (omega arith) in
        λ j. record { from = e₁ j; care = e₂ j; values = e₄ j; bit = e₆ j; next = e₇ j }

    pub rows-own : (l : ℕ) → 1 ≤ l → l ≤ last_label b
        → rows_on (noted_table b) l ≡ map (row_in_frame b) (range (first_frame b l) (first_frame b (l + 1) - first_frame b l))
    rows-own l g h = grind (arith, common_steps, first-rises, map-alike, first-noted, end-noted, row-own)

    -- the rows of n labels from 2 on stand in the frames from the first one of rows on
    rows-to : (n : ℕ) → n < last_label b
        → flat_map (rows_on (noted_table b)) (range 2 n) ≡ map (row_in_frame b)
        (range (rows_from b) (first_frame b (2 + n) - rows_from b))
    rows-to n h =
        concat-alike (rows_on (noted_table b)) (λ l. map (row_in_frame b)
        (range (first_frame b l) (first_frame b (l + 1) - first_frame b l)))
        2 n (λ l p q. rows-own l (omega arith) (omega arith))
        ∙ ranges-join (row_in_frame b) (first_frame b) (first-rises b ok) 2 n
        ∙ ap (λ (f : ℕ). map (row_in_frame b) (range f (first_frame b (2 + n) - f))) (first-two b ok bytes)

    rows-all : flat_map (rows_on (noted_table b)) (range 2 (last_label b - 1)) ≡ map (row_in b) (range 0 (row_count b))
    rows-all =
        rows-to (last_label b - 1) (omega (arith, (counted b ok).two))
        ∙ ap (λ (e : ℕ). map (row_in_frame b) (range (rows_from b) (e - rows_from b)))
        (ap (first_frame b) (let e : 2 + (last_label b - 1) ≡ last_label b + 1 = omega (arith, (counted b ok).two) in e)
        ∙ first-last b ok bytes)
        ∙ ap (λ (n : ℕ). map (row_in_frame b) (range (rows_from b) n))
        (let e : size b - rows_from b ≡ row_count b = omega (arith, (counted b ok).all) in e)
        ∙ map-moved (row_in_frame b) (row_in b) (rows_from b) 0 (row_count b) (λ k. ap (λ (n : ℕ). row_in b n) (sym (zero-add k)))

    -- so that those of label l begin behind those of the labels below it
    pub prepared-starts : (l : ℕ) → 2 ≤ l → l ≤ last_label (noted_table b)
        → first_on (noted_table b) l ≡ rows_from (noted_table b) + length (flat_map (rows_on (noted_table b)) (range 2 (l - 2)))
    prepared-starts l h g =
        let m : l ≤ last_label b = omega (arith, noted-last b) in
        let few : length (flat_map (rows_on (noted_table b)) (range 2 (l - 2))) ≡ first_frame b (2 + (l - 2)) - rows_from b =
        ap (λ (rs : List Row). length rs) (rows-to (l - 2) (omega arith))
        ∙ length-map-range (row_in_frame b) (rows_from b) (first_frame b (2 + (l - 2)) - rows_from b) in
        let same : first_frame b (2 + (l - 2)) ≡ first_frame b l = ap (first_frame b) (omega arith) in
        omega (arith, first-noted l (omega arith) m, noted-rows-from b, few, same, first-low b ok l)

    pub prepared-image : table_image (noted_table b) ≡ decoded_image b
    unfolding table_image decoded_image
    prepared-image = grind (arith, common_steps, noted-handler, noted-schemes, noted-last, map-alike, noted-late, label-sound, rows-all)

-- ---- over the entry: what it wrote, with anything behind it
module _ (t old : List ℕ) (n : ℕ) (e : (prepare t old).reply ≡ success n) where
  abbrev b : List ℕ
  b = contents t

  told : Success (image_verdict t) 1 (noted_table b) old n (prepare t old)
  unfolding prepare
  told = lent-told (image_verdict t) 1 (λ _. noted_table b) old n e

  table-fine : table_verdict b ≡ fine
  table-fine = image-table t told.accepted

  count-is : n ≡ length b
  count-is = omega (arith, told.count, noted-length b)

  end-is : 10 * table_end b ≡ n
  end-is = omega (arith, whole-size b table-fine, any-contents-length t, count-is)

  module _ (m : ℕ) (h : n ≤ m) where
    abbrev c : List ℕ
    c = take m (prepare t old).buffer

    long : n ≤ length c
    long = grind (arith, common_steps, noted-length, length-take, length-append, told, count-is)

    same : (k : ℕ) → k < 10 * table_end (noted_table b) → slice_index c k ≡ slice_index (noted_table b) k
    same k g = grind (arith, common_steps, get_or-append, get_or-take, noted-length, noted-end, told, count-is, end-is)

    taken-good : is_bad_table c ≡ false
    taken-good =
        or-none (has_bad_counts c || has_bad_handler c) (nat_lt (size c) (table_end c))
        (or-none (has_bad_counts c) (has_bad_handler c)
        (counts-same (noted_table b) c same ∙ noted-counts b table-fine ∙ accepted-counts b table-fine)
        (bad-handler-same (noted_table b) c same ∙ noted-handler-good b table-fine))
        (le-ltb (size c) (table_end c) (omega (arith, end-same (noted_table b) c same, noted-end b, end-is, long)))

    taken-image : table_image c ≡ decoded_image b
    taken-image = alike-image (noted_table b) c same ∙ prepared-image b table-fine (image-bytes t told.accepted)

  pub prepared : PreparedEntry t old n
  prepared = grind (arith, common_steps, noted-length, told, count-is, taken-good, taken-image)

pub prepared-on-success : PreparedOnSuccess
prepared-on-success = prepared
