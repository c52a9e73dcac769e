-- What it gives that the image check accepts: the counts and the handler of the header hold, and the image that the contents hold is sound.
use Rattle.std.proofs.Common.{ℕ, zero, suc, ◌+◌, ◌*◌, ◌≤◌, ◌<◌, Bool, true, false, ◌&&◌, ◌||◌, not, ◌≡◌, sym, ◌∙◌, ap, subst, List, arith, nat_lt, ◌==◌, slice_index}
use Rattle.std.proofs.Common.{length, lt-ltb, ne_eqb, eqb-true, ltb-false, leb-true}
use Rattle.std.proofs.lemmas.Grind.{common_steps}
use Rattle.words.proofs.lists.Tests.{or-r, or-cases, and-l, and-r, not-false}
use Rattle.words.proofs.lists.Ranges.{length-map-range, get_or-map-range}
use Rattle.text.specs.frames.Frame.{size, field, pair_at, contents}
use Rattle.text.specs.frames.Verdict.{fine, next, at_lowest}
use Rattle.text.specs.frames.Check.{text_verdict}
use Rattle.text.proofs.frames.Verdicts.{next-first, next-rest, at-lowest-fine}
use Rattle.text.proofs.frames.Contents.{text-told, contents-bytes}
use Rattle.image.specs.Image.{Label, Row, no_row, nth_row, home_label, return_label}
use Rattle.image.specs.Decode.{scheme_count, last_label, row_count, handler_in, labels_from, rows_from, entry_in, label_in, row_in}
use Rattle.image.specs.Decode.{decoded_image}
use Rattle.image.specs.Check.{is_filled, has_bad_handler, has_bad_counts, is_bad_header, entry_position, label_position, row_position}
use Rattle.image.specs.Check.{position_of, is_falling, is_stray_frame, is_stray, is_within, is_label, is_bad_entry}
use Rattle.image.specs.Check.{is_bad_label, has_bad_bit, is_bad_row, is_bad_frame, has_bad_content, table_verdict, image_verdict}
use Rattle.image.specs.inner.Sound.{no_label, nth_label, Reaches, SoundLabel, SoundRow, SoundImage}

-- ---- what the image that contents hold has at each number
module _ (b : List ℕ) where
  pub entries-count : length (decoded_image b).entries ≡ scheme_count b
  unfolding decoded_image
  entries-count = length-map-range (entry_in b) 1 (scheme_count b)

  pub labels-count : length (decoded_image b).labels ≡ last_label b + 1
  unfolding decoded_image
  labels-count = length-map-range (label_in b) 0 (last_label b + 1)

  pub rows-count : length (decoded_image b).rows ≡ row_count b
  unfolding decoded_image
  rows-count = length-map-range (row_in b) 0 (row_count b)

  -- the entry of scheme h + 1
  pub entry-read : (h : ℕ) → h < scheme_count b → slice_index (decoded_image b).entries h ≡ entry_in b (suc h)
  unfolding decoded_image
  entry-read h l = get_or-map-range (entry_in b) 0 1 (scheme_count b) h l ∙ ap (entry_in b) (omega arith)

  pub label-read : (l : ℕ) → l ≤ last_label b → nth_label (decoded_image b) l ≡ label_in b l
  unfolding decoded_image
  label-read l h = get_or-map-range (label_in b) no_label 0 (last_label b + 1) l (omega arith) ∙ ap (label_in b) (omega arith)

  pub row-read : (k : ℕ) → k < row_count b → nth_row (decoded_image b) k ≡ row_in b k
  unfolding decoded_image
  row-read k h = get_or-map-range (row_in b) no_row 0 (row_count b) k h ∙ ap (row_in b) (omega arith)

  -- ---- the place of each frame
  pub position-of-entry : (h : ℕ) → 1 ≤ h → h ≤ scheme_count b → position_of b h ≡ entry_position h
  unfolding position_of
  position-of-entry h l m = rw (ne_eqb h 0 (λ z. omega arith), lt-ltb h (labels_from b) (omega arith))

  pub position-of-label : (l : ℕ) → l ≤ last_label b → position_of b (labels_from b + l) ≡ label_position l
  unfolding position_of
  position-of-label l h = grind (arith, common_steps)

  pub position-of-row : (k : ℕ) → position_of b (rows_from b + k) ≡ row_position k
  unfolding position_of
  position-of-row k = grind (arith, common_steps)

  -- a label that passes for scheme h is one that h reaches
  pub within-reaches : (h l : ℕ) → is_within b h l ≡ true → Reaches (decoded_image b) h l
  within-reaches h l e = grind (arith, common_steps, and-l, leb-true, eqb-true, or-cases, and-r, labels-count, label-read)

-- ---- labels that hold the same
pub fields-same : (x y : Label)
    → (x.kind == y.kind && x.called == y.called && x.owner == y.owner && x.result == y.result
    && x.mask == y.mask) ≡ true → x ≡ y
fields-same x y e = grind (arith, common_steps)

label-told : (b : List ℕ) (l : ℕ) (x : Label) → x.mask < 4294967296 → is_bad_label b (suc (suc l)) x ≡ false → SoundLabel (scheme_count b) x
label-told b l x small e = grind (arith, common_steps)

-- ---- a row
bit-told : (b : List ℕ) (r : Row) → has_bad_bit b r ≡ false → r.bit < 2 → (label_in b r.from).kind ≡ 2
bit-told b r e h = grind (arith, common_steps)

row-told : (b : List ℕ) (f : ℕ) (r : Row) → r.care < 65536 → r.values < 65536 → is_bad_row b f r ≡ false → SoundRow (decoded_image b) r
row-told b f r small tiny e =
    let last : r.from ≤ last_label b = grind (arith, common_steps) in
    let same : nth_label (decoded_image b) r.from ≡ label_in b r.from = label-read b r.from last in
    let bit : has_bad_bit b r ≡ false = grind (arith, common_steps) in
    let reaches : is_within b (label_in b r.from).owner r.next ≡ true = grind (arith, common_steps) in
    record {
      low = grind (arith, common_steps);
      high = omega (arith, labels-count b);
      cares = small;
      small = tiny;
      within = grind (arith, common_steps);
      bits = grind (arith, common_steps);
      function = λ h. ap (λ (x : Label). x.kind) same ∙ bit-told b r bit h;
      leading = rw same (within-reaches b (label_in b r.from).owner r.next reaches);
    }

-- ---- the handler is 0 or a scheme of 2 to H
pub handler-told : (b : List ℕ) → has_bad_handler b ≡ false → (handler_in b ≡ 0 → ⊥) → (2 ≤ handler_in b) × (handler_in b ≤ scheme_count b)
handler-told b e n = grind (arith, common_steps)

-- ---- the whole table
pub record CountedTable (b : List ℕ) : Type 0 where
  pub first : 1 ≤ scheme_count b
  pub most : scheme_count b ≤ 16
  pub two : 1 ≤ last_label b
  pub few : row_count b ≤ 1024
  pub handler : has_bad_handler b ≡ false
  pub all : size b ≡ rows_from b + row_count b

-- what the tests of a header that passes tell, over plain tests and numbers
last-of-five : (a b c d e : Bool) → (a || b || c || d || e) ≡ false → (c ≡ false) × (d ≡ false) × (e ≡ false)
last-of-five a b c d e all = (grind (arith, common_steps), grind (arith, common_steps), grind (arith, common_steps))

counts-told : (m l r : ℕ) → (m == 0 || nat_lt 16 m || l == 0 || nat_lt 1024 r) ≡ false → (1 ≤ m) × (m ≤ 16) × (1 ≤ l) × (r ≤ 1024)
counts-told m l r e = (grind (arith, common_steps), grind (arith, common_steps), grind (arith, common_steps), grind (arith, common_steps))

module _ (b : List ℕ) (ok : table_verdict b ≡ fine) where
  header-good : is_bad_header b ≡ false
  unfolding table_verdict
  header-good = grind (arith, common_steps)

  frames-good : (next (at_lowest 12 (is_stray b) (size b)) λ _. at_lowest 13 (has_bad_content b) (size b)) ≡ fine
  unfolding table_verdict
  frames-good = grind (arith, common_steps)

  pub none-stray : (f : ℕ) → f < size b → is_stray b f ≡ false
  none-stray = at-lowest-fine 12 (is_stray b) (size b)
      (next-first (at_lowest 12 (is_stray b) (size b)) (λ _. at_lowest 13 (has_bad_content b) (size b)) frames-good)

  pub none-bad : (f : ℕ) → f < size b → has_bad_content b f ≡ false
  none-bad = at-lowest-fine 13 (has_bad_content b) (size b)
      (next-rest (at_lowest 12 (is_stray b) (size b)) (λ _. at_lowest 13 (has_bad_content b) (size b)) frames-good)

  pub counted : CountedTable b
  unfolding is_bad_header
  counted =
      let told = last-of-five (not (field b 0 0 == 15)) (is_filled b 0 6 4) (has_bad_handler b) (has_bad_counts b)
      (not (size b == rows_from b + row_count b)) header-good in
      let counts = counts-told (scheme_count b) (last_label b) (row_count b) told.1 in
      record {
        first = counts.0;
        most = counts.1;
        two = counts.2;
        few = counts.3;
        handler = told.0;
        all = eqb-true (size b) (rows_from b + row_count b) (not-false (size b == rows_from b + row_count b) told.2);
      }

  entry-good : (h : ℕ) → 1 ≤ h → h ≤ scheme_count b → Reaches (decoded_image b) h (entry_in b h)
  unfolding has_bad_content
  entry-good h l m =
      let e : is_bad_entry b h ≡ false =
      sym (ap (is_bad_frame b h) (position-of-entry b h l m)) ∙ none-bad h (omega (arith, counted.all)) in
      within-reaches b h (entry_in b h) (not-false (is_within b h (entry_in b h))
      (or-r (is_filled b h 3 7) (not (is_within b h (entry_in b h))) e))

  label-good : (l : ℕ) → l ≤ last_label b → is_bad_label b l (label_in b l) ≡ false
  unfolding has_bad_content
  label-good l h = sym (ap (is_bad_frame b (labels_from b + l)) (position-of-label b l h))
      ∙ none-bad (labels_from b + l) (omega (arith, counted.all))

  row-good : (k : ℕ) → k < row_count b → is_bad_row b (rows_from b + k) (row_in b k) ≡ false
  unfolding has_bad_content
  row-good k h = sym (ap (is_bad_frame b (rows_from b + k)) (position-of-row b k)) ∙ none-bad (rows_from b + k) (omega (arith, counted.all))

  row-rises : (k : ℕ) → suc k < row_count b → (row_in b k).from ≤ (row_in b (suc k)).from
  unfolding is_stray
  row-rises k h =
      let f : ℕ = rows_from b + suc k in
      let e : (not (field b f 0 == 18) || is_falling b (suc k)) ≡ false =
      sym (ap (is_stray_frame b f) (position-of-row b (suc k))) ∙ none-stray f (omega (arith, counted.all)) in
      ltb-false (row_in b (suc k)).from (row_in b k).from (or-r (not (field b f 0 == 18)) (is_falling b (suc k)) e)

  -- with bytes below 256 the image is sound
  module _ (bytes : (k : ℕ) → slice_index b k < 256) where
    pair-small : (f k : ℕ) → pair_at b f k < 65536
    pair-small f k = omega (arith, bytes (10 * f + k), bytes (10 * f + (k + 1)))

    mask-small : (l : ℕ) → (label_in b l).mask < 4294967296
    mask-small l = omega (arith, pair-small (labels_from b + l) 6, pair-small (labels_from b + l) 8)

    other-good : (l : ℕ) → 2 ≤ l → l ≤ last_label b → SoundLabel (scheme_count b) (label_in b l)
    other-good zero h m = absurd (omega arith)
    other-good (suc zero) h m = absurd (omega arith)
    other-good (suc (suc l)) h m = label-told b l (label_in b (suc (suc l))) (mask-small (suc (suc l))) (label-good (suc (suc l)) m)

    handled : length (decoded_image b).entries ≡ scheme_count b
        → ((decoded_image b).handler ≡ 0 → ⊥) → (2 ≤ (decoded_image b).handler)
        × ((decoded_image b).handler ≤ length (decoded_image b).entries)
    unfolding decoded_image
    handled e n = let r = handler-told b counted.handler n in (r.0, omega arith)

    pub accepted-sound : SoundImage (decoded_image b)
    accepted-sound =
        let n : length (decoded_image b).entries ≡ scheme_count b = entries-count b in
        let m : length (decoded_image b).labels ≡ last_label b + 1 = labels-count b in
        let r : length (decoded_image b).rows ≡ row_count b = rows-count b in
        record {
          first = omega (arith, counted.first);
          most = omega (arith, counted.most);
          two = omega (arith, counted.two);
          last = omega (arith, bytes 2);
          few = omega (arith, counted.few);
          handled = handled n;
          starts = λ h l. subst (λ (e : ℕ). Reaches (decoded_image b) (suc h) e) (sym (entry-read b h (omega arith)))
              (entry-good (suc h) (omega arith) (omega arith));
          home = label-read b 0 (omega arith)
              ∙ fields-same (label_in b 0) home_label (not-false (is_label 4 1 (label_in b 0)) (label-good 0 (omega arith)));
          back = label-read b 1 counted.two
              ∙ fields-same (label_in b 1) return_label (not-false (is_label 3 0 (label_in b 1)) (label-good 1 counted.two));
          others = λ l h k. subst (λ (x : Label). SoundLabel (length (decoded_image b).entries) x) (sym (label-read b l (omega arith)))
              (subst (λ (c : ℕ). SoundLabel c (label_in b l)) (sym n) (other-good l h (omega arith)));
          each = λ k h. subst (λ (x : Row). SoundRow (decoded_image b) x) (sym (row-read b k (omega arith)))
              (row-told b (rows_from b + k) (row_in b k) (pair-small (rows_from b + k) 2)
              (pair-small (rows_from b + k) 4) (row-good k (omega arith)));
          rising = λ k h.
              let p : (nth_row (decoded_image b) k).from ≡ (row_in b k).from = ap (λ (x : Row). x.from) (row-read b k (omega arith)) in
              let q : (nth_row (decoded_image b) (suc k)).from ≡ (row_in b (suc k)).from =
              ap (λ (x : Row). x.from) (row-read b (suc k) (omega arith)) in
              omega (arith, row-rises k (omega arith));
        }

-- ---- by the text
pub image-bytes : (t : List ℕ) → image_verdict t ≡ fine → (k : ℕ) → slice_index (contents t) k < 256
unfolding image_verdict
image-bytes t e = contents-bytes t (text-told 29831 t (next-first (text_verdict 29831 t) (λ _. table_verdict (contents t)) e)).forms

pub image-table : (t : List ℕ) → image_verdict t ≡ fine → table_verdict (contents t) ≡ fine
unfolding image_verdict
image-table t e = next-rest (text_verdict 29831 t) (λ _. table_verdict (contents t)) e

pub image-sound : (t : List ℕ) → image_verdict t ≡ fine → SoundImage (decoded_image (contents t))
image-sound t e = accepted-sound (contents t) (image-table t e) (image-bytes t e)
