-- What is tried of a frame, by where entries, labels and rows begin.
use Rattle.std.proofs.Common.{Bool, true, false, ◌&&◌, not, ◌≡◌, refl, sym, ◌∙◌, ap, ap₂, List, ℕ, ◌+◌, ◌-◌, ◌≤◌, ◌<◌, arith, nat_lt, nat_le, le-leb, le-ltb, lt-ltb}
use borrow.Author.Tests.{lt-leb}
use Rattle.words.proofs.lists.Tests.{and-no}
use Rattle.image.specs.Decode.{labels_from, rows_from, label_in, row_in}
use Rattle.image.specs.Check.{Position, header_position, entry_position, label_position, row_position, position_of, is_stray_frame, is_stray, is_bad_entry, is_bad_label}
use Rattle.image.specs.Check.{is_bad_row, is_bad_frame, has_bad_content}
use Rattle.image.proofs.Accepted.{position-of-entry, position-of-label, position-of-row}
use Rattle.table_check.specs.TableCheck.{is_noted, is_displaced}

module _ (b : List ℕ) (f : ℕ) where
  -- ---- which frames have a note
  pub noted-yes : labels_from b ≤ f → f < rows_from b → is_noted b f ≡ true
  noted-yes h l = ap₂ ◌&&◌ (le-leb (labels_from b) f h) (lt-ltb f (rows_from b) l)

  pub noted-before : f < labels_from b → is_noted b f ≡ false
  noted-before h = ap (λ (x : Bool). x && nat_lt f (rows_from b)) (lt-leb (labels_from b) f h)

  pub noted-behind : rows_from b ≤ f → is_noted b f ≡ false
  noted-behind h = and-no (nat_le (labels_from b) f) (nat_lt f (rows_from b)) (le-ltb f (rows_from b) h)

  -- ---- 12
  module _ (p : Position) (is : position_of b f ≡ p) where
    stray-at : is_stray b f ≡ is_stray_frame b f p
    unfolding is_stray
    stray-at = ap (is_stray_frame b f) is

    pub displaced-other : (x : Bool) → is_noted b f ≡ false → x ≡ is_stray_frame b f p → x ≡ is_displaced b f
    displaced-other x n e = e ∙ sym stray-at ∙ sym (ap (λ (y : Bool). not y && is_stray b f) n)

    pub content-at : has_bad_content b f ≡ is_bad_frame b f p
    unfolding has_bad_content
    content-at = ap (is_bad_frame b f) is

  -- ---- where it stands
  pub at-header : f ≡ 0 → position_of b f ≡ header_position
  unfolding position_of
  at-header e = ap (position_of b) e

  pub at-label : labels_from b ≤ f → f < rows_from b → position_of b f ≡ label_position (f - labels_from b)
  at-label h l = ap (position_of b) (omega arith) ∙ position-of-label b (f - labels_from b) (omega arith)

  pub at-row : rows_from b ≤ f → position_of b f ≡ row_position (f - rows_from b)
  at-row h = ap (position_of b) (omega arith) ∙ position-of-row b (f - rows_from b)

  pub at-entry : (f ≡ 0 → ⊥) → f < labels_from b → position_of b f ≡ entry_position f
  at-entry n h = position-of-entry b f (omega (arith, n)) (omega arith)

  -- ---- as the code comes to it
  pub displaced-header : f ≡ 0 → false ≡ is_displaced b f
  displaced-header e = displaced-other header_position (at-header e) false (noted-before (omega arith)) refl

  pub displaced-entry : (x : Bool) → (f ≡ 0 → ⊥) → f < labels_from b → x ≡ is_stray_frame b f (entry_position f) → x ≡ is_displaced b f
  displaced-entry x n h = displaced-other (entry_position f) (at-entry n h) x (noted-before h)

  pub displaced-row : (x : Bool) (y : ℕ) → y ≡ rows_from b → rows_from b ≤ f
      → x ≡ is_stray_frame b (rows_from b + (f - y)) (row_position (f - y)) → x ≡ is_displaced b f
  displaced-row x y q h e =
      displaced-other (row_position (f - rows_from b)) (at-row h) x (noted-behind h)
      (e ∙ ap₂ (λ (m n : ℕ). is_stray_frame b m (row_position (f - n))) (omega arith) q)

  pub content-header : f ≡ 0 → false ≡ has_bad_content b f
  content-header e = sym (content-at header_position (at-header e))

  pub content-entry : (x : Bool) → (f ≡ 0 → ⊥) → f < labels_from b → x ≡ is_bad_entry b f → x ≡ has_bad_content b f
  content-entry x n h e = e ∙ sym (content-at (entry_position f) (at-entry n h))

  pub content-label : (x : Bool) (y : ℕ) → y ≡ labels_from b → labels_from b ≤ f → f < rows_from b
      → x ≡ is_bad_label b (f - y) (label_in b (f - y)) → x ≡ has_bad_content b f
  content-label x y q h l e =
      e ∙ ap (λ (n : ℕ). is_bad_label b (f - n) (label_in b (f - n))) q
      ∙ sym (content-at (label_position (f - labels_from b)) (at-label h l))

  pub content-row : (x : Bool) (y : ℕ) → y ≡ rows_from b → rows_from b ≤ f
      → x ≡ is_bad_row b (rows_from b + (f - y)) (row_in b (f - y)) → x ≡ has_bad_content b f
  content-row x y q h e =
      e ∙ ap₂ (λ (m n : ℕ). is_bad_row b m (row_in b (f - n))) (omega arith) q
      ∙ sym (content-at (row_position (f - rows_from b)) (at-row h))

pub ruleset displacing = (displaced-header, displaced-entry, displaced-row)

pub ruleset contents_told = (content-header, content-entry, content-label, content-row)
