-- Tables that differ in the notes of labels alone: the same frames are in place, with the same fields, and rows end at the same frames.
use Rattle.std.proofs.Common.{if◌then◌else◌, nat_lt, nat_le, ◌==◌, ℕ, zero, suc, ◌+◌, ◌*◌, ◌/◌, ◌≤◌, ◌<◌, false, ◌&&◌, ◌||◌, not, ◌≡◌, refl, ◌∙◌}
use Rattle.std.proofs.Common.{ap, ap₂, List, arith, length, le-leb, lt-ltb}
use Rattle.words.proofs.lists.Tests.{no_both}
use Rattle.words.proofs.lists.Searches.{any-alike, lowest-alike}
use Rattle.text.specs.frames.Frame.{size, field, pair_at, quad_at}
use Rattle.image.specs.Image.{Label, Row}
use Rattle.image.specs.Decode.{scheme_count, last_label, row_count, labels_from, rows_from, label_in, row_in}
use Rattle.image.specs.Check.{is_filled, is_bad_header, Position, header_position, entry_position, label_position, row_position, position_of, is_falling, is_stray_frame}
use Rattle.image.specs.Check.{is_stray, is_within, is_bad_entry, is_bad_label, has_bad_bit, is_bad_row, is_bad_frame, has_bad_content}
use Rattle.tables.specs.Prepare.{first_frame}
use Rattle.tables.proofs.Front.{handler-alike, counts-alike}
use Rattle.table_check.specs.TableCheck.{is_noted, is_displaced}
use Rattle.std.proofs.lemmas.Grind.{common_steps}

pub record Alike (b c : List ℕ) : Type 0 where
  pub long : length c ≡ length b
  pub fields : (f k : ℕ) → k < 10 → (labels_from b ≤ f → f < rows_from b → 2 ≤ k) → field c f k ≡ field b f k

module _ (b c : List ℕ) (S : Alike b c) where
  pub size-alike : size c ≡ size b
  size-alike = ap (λ (n : ℕ). n / 10) S.long

  front : (f k : ℕ) → f < labels_from b → k < 10 → field c f k ≡ field b f k
  front f k h l = S.fields f k l (λ m n. absurd (omega arith))

  late : (f k : ℕ) → 2 ≤ k → k < 10 → field c f k ≡ field b f k
  late f k h l = S.fields f k l (λ m n. h)

  behind : (f k : ℕ) → rows_from b ≤ f → k < 10 → field c f k ≡ field b f k
  behind f k h l = S.fields f k l (λ m n. absurd (omega arith))

  pair-alike : (f k : ℕ) → 2 ≤ k → k + 1 < 10 → pair_at c f k ≡ pair_at b f k
  pair-alike f k h l = ap₂ (λ (x y : ℕ). x * 256 + y) (late f k h (omega arith)) (late f (k + 1) (omega arith) l)

  quad-alike : (f k : ℕ) → 2 ≤ k → k + 3 < 10 → quad_at c f k ≡ quad_at b f k
  quad-alike f k h l =
      ap₂ (λ (x y : ℕ). x * 65536 + y) (pair-alike f k h (omega arith)) (pair-alike f (k + 2) (omega arith) (omega arith))

  filled-alike : (f k n : ℕ) → 2 ≤ k → k + n ≤ 10 → is_filled c f k n ≡ is_filled b f k n
  filled-alike f k n h l = grind (arith, common_steps, any-alike, late)

  -- ---- the header
  pub schemes-alike : scheme_count c ≡ scheme_count b
  schemes-alike = front 0 1 (omega arith) (omega arith)

  pub last-alike : last_label c ≡ last_label b
  last-alike = late 0 2 (omega arith) (omega arith)

  count-alike : row_count c ≡ row_count b
  count-alike = pair-alike 0 3 (omega arith) (omega arith)

  pub labels-from-alike : labels_from c ≡ labels_from b
  labels-from-alike = ap (λ (n : ℕ). 1 + n) schemes-alike

  pub rows-from-alike : rows_from c ≡ rows_from b
  rows-from-alike = ap₂ (λ (m n : ℕ). 2 + m + n) schemes-alike last-alike

  pub header-alike : is_bad_header c ≡ is_bad_header b
  unfolding is_bad_header
  header-alike =
      ap₂ ◌||◌ (ap₂ ◌||◌ (ap₂ ◌||◌ (ap₂ ◌||◌
      (ap (λ (x : ℕ). not (x == 15)) (front 0 0 (omega arith) (omega arith)))
      (filled-alike 0 6 4 (omega arith) (omega arith)))
      (handler-alike b c (late 0 5 (omega arith) (omega arith)) schemes-alike))
      (counts-alike b c schemes-alike last-alike count-alike))
      (ap₂ (λ (m n : ℕ). not (m == n)) size-alike (ap₂ ◌+◌ rows-from-alike count-alike))

  -- ---- the place of a frame
  pub noted-alike : (f : ℕ) → is_noted c f ≡ is_noted b f
  noted-alike f = ap₂ (λ (m n : ℕ). nat_le m f && nat_lt f n) labels-from-alike rows-from-alike

  position-alike : (f : ℕ) → position_of c f ≡ position_of b f
  unfolding position_of
  position-alike f = grind (arith, common_steps, labels-from-alike, rows-from-alike)

  -- ---- labels and rows
  label-alike : (l : ℕ) → label_in c l ≡ label_in b l
  label-alike l = grind (arith, common_steps, late, quad-alike, labels-from-alike)

  row-alike : (k : ℕ) → row_in c k ≡ row_in b k
  row-alike k = grind (arith, common_steps, late, behind, pair-alike, rows-from-alike)

  -- ---- 12
  falling-alike : (k : ℕ) → is_falling c k ≡ is_falling b k
  falling-alike zero = refl
  falling-alike (suc k) = ap₂ (λ (r s : Row). nat_lt r.from s.from) (row-alike (suc k)) (row-alike k)

  -- a frame without a note
  module _ (f : ℕ) (other : is_noted b f ≡ false) where
    apart : labels_from b ≤ f → f < rows_from b → 2 ≤ 0
    apart l m = no_both (is_noted b f) (ap₂ ◌&&◌ (le-leb (labels_from b) f l) (lt-ltb f (rows_from b) m)) other

    same : (k : ℕ) → k < 10 → field c f k ≡ field b f k
    same k h = S.fields f k h (λ l m. absurd (omega (arith, apart l m)))

    numbered-alike : (kind n : ℕ) → not (field c f 0 == kind && field c f 1 == n) ≡ not (field b f 0 == kind && field b f 1 == n)
    numbered-alike kind n = ap₂ (λ (x y : ℕ). not (x == kind && y == n)) (same 0 (omega arith)) (same 1 (omega arith))

    stray-frame-alike : (p : Position) → is_stray_frame c f p ≡ is_stray_frame b f p
    stray-frame-alike header_position = grind (arith, common_steps)
    stray-frame-alike (entry_position h) = grind (arith, common_steps, numbered-alike)
    stray-frame-alike (label_position l) = grind (arith, common_steps, numbered-alike)
    stray-frame-alike (row_position k) = grind (arith, common_steps, falling-alike, same)

    pub stray-alike : is_stray c f ≡ is_stray b f
    unfolding is_stray
    stray-alike = ap (is_stray_frame c f) (position-alike f) ∙ stray-frame-alike (position_of b f)

  pub displaced-alike : (f : ℕ) → is_displaced c f ≡ is_displaced b f
  displaced-alike f = grind (arith, common_steps, noted-alike, stray-alike)

  -- ---- 13
  within-alike : (h l : ℕ) → is_within c h l ≡ is_within b h l
  within-alike h l =
      ap₂ (λ (m : ℕ) (x : Label). nat_le l m && (x.owner == h || l == (if h == 1 then 0 else 1))) last-alike (label-alike l)

  entry-alike : (h : ℕ) → is_bad_entry c h ≡ is_bad_entry b h
  entry-alike h = grind (arith, common_steps, late, filled-alike, within-alike)

  bad-label-alike : (l : ℕ) → is_bad_label c l (label_in c l) ≡ is_bad_label b l (label_in b l)
  bad-label-alike zero = grind (arith, common_steps, label-alike)
  bad-label-alike (suc zero) = grind (arith, common_steps, label-alike)
  bad-label-alike (suc (suc l)) = grind (arith, common_steps, schemes-alike, label-alike)

  bad-bit-alike : (r : Row) → has_bad_bit c r ≡ has_bad_bit b r
  bad-bit-alike r = ap (λ (x : Label). nat_lt 2 r.bit || (nat_lt r.bit 2 && not (x.kind == 2))) (label-alike r.from)

  bad-row-alike : (f : ℕ) (r : Row) → is_bad_row c f r ≡ is_bad_row b f r
  bad-row-alike f r = grind (arith, common_steps, filled-alike, last-alike, label-alike, within-alike, bad-bit-alike)

  bad-frame-alike : (f : ℕ) (p : Position) → is_bad_frame c f p ≡ is_bad_frame b f p
  bad-frame-alike f header_position = refl
  bad-frame-alike f (entry_position h) = entry-alike h
  bad-frame-alike f (label_position l) = bad-label-alike l
  bad-frame-alike f (row_position k) = ap (is_bad_row c f) (row-alike k) ∙ bad-row-alike f (row_in b k)

  pub content-alike : (f : ℕ) → has_bad_content c f ≡ has_bad_content b f
  unfolding has_bad_content
  content-alike f = ap (is_bad_frame c f) (position-alike f) ∙ bad-frame-alike f (position_of b f)

  -- ---- where rows end
  pub first-alike : (l : ℕ) → first_frame c l ≡ first_frame b l
  first-alike l = grind (arith, common_steps, lowest-alike, size-alike, behind, rows-from-alike)
