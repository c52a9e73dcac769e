-- A table that passes, with the notes of its labels taken back: the contents of an image that is accepted, which are noted as the table is.
use Rattle.std.proofs.Common.{ℕ, zero, suc, ◌+◌, ◌*◌, ◌-◌, ◌/◌, ◌%◌, ◌≤◌, ◌<◌, Bool, false, not, ◌≡◌, refl, sym, ◌∙◌, ap, ap₂, List, map, arith}
use Rattle.std.proofs.Common.{slice_index, length, ext_get_or, eqb-true}
use Rattle.std.proofs.Math.Decide.{ℕ_discrete}
use Rattle.std.proofs.Math.ListN.{get_or-eq_default}
use Rattle.words.specs.lists.Numbers.{range}
use Rattle.words.proofs.lists.Tests.{split, and-false, not-false}
use Rattle.words.proofs.lists.Ranges.{length-map-range, get_or-map-range}
use Rattle.text.specs.frames.Frame.{size, field, contents, text_of}
use Rattle.text.specs.frames.Verdict.{Verdict, fine, next, when, at_lowest}
use Rattle.text.proofs.frames.Verdicts.{at-none}
use Rattle.text.proofs.frames.Contents.{text_of-fine, text_of-contents}
use Rattle.image.specs.Decode.{last_label, row_count, labels_from, rows_from}
use Rattle.image.specs.Check.{Position, header_position, entry_position, label_position, row_position, position_of, is_stray, has_bad_content}
use Rattle.image.specs.Check.{table_verdict, image_verdict}
use Rattle.image.proofs.Accepted.{counted}
use Rattle.image_check.proofs.TableCases.{header-size}
use Rattle.tables.specs.Prepare.{first_frame, noted_table}
use Rattle.tables.proofs.Noted.{noted-length, noted-front, noted-late, noted-row, noted-low, noted-high}
use Rattle.table_check.specs.TableCheck.{is_noted}
use Rattle.table_check.proofs.Alike.{Alike, size-alike, last-alike, labels-from-alike, rows-from-alike, header-alike, stray-alike, content-alike, first-alike}
use Rattle.table_check.proofs.PlacingCases.{noted-yes, noted-before, noted-behind, at-label, at-row, at-header, at-entry}
use Rattle.table_check.proofs.Passed.{Passed}
use Rattle.std.proofs.lemmas.Grind.{common_steps}

-- byte k of a frame of an image, where a table has x
abbrev image_byte : Position → ℕ → ℕ → ℕ
image_byte header_position k x = x
image_byte (entry_position h) k x = x
image_byte (label_position l) zero x = 17
image_byte (label_position l) (suc zero) x = l
image_byte (label_position l) (suc (suc k)) x = x
image_byte (row_position r) k x = x

byte-kept : (p : Position) (k x : ℕ) → 2 ≤ k → image_byte p k x ≡ x
byte-kept header_position k x h = refl
byte-kept (entry_position e) k x h = refl
byte-kept (label_position l) zero x h = absurd (omega arith)
byte-kept (label_position l) (suc zero) x h = absurd (omega arith)
byte-kept (label_position l) (suc (suc k)) x h = refl
byte-kept (row_position r) k x h = refl

module _ (b : List ℕ) where
  unnoted_byte : ℕ → ℕ
  unnoted_byte p = image_byte (position_of b (p / 10)) (p % 10) (slice_index b p)

  pub unnoted : List ℕ
  unnoted = map unnoted_byte (range 0 (length b))

  unnoted-length : length unnoted ≡ length b
  unfolding unnoted
  unnoted-length = length-map-range unnoted_byte 0 (length b)

  -- a byte within the table
  unnoted-field : (f k : ℕ) → k < 10 → 10 * f + k < length b → field unnoted f k ≡ image_byte (position_of b f) k (field b f k)
  unfolding unnoted unnoted_byte
  unnoted-field f k h l =
      get_or-map-range unnoted_byte 0 0 (length b) (10 * f + k) l
      ∙ ap unnoted_byte (let z : 0 + (10 * f + k) ≡ 10 * f + k = omega arith in z)
      ∙ ap₂ (λ (i j : ℕ). image_byte (position_of b i) j (field b f k))
      (let p : (10 * f + k) / 10 ≡ f = omega arith in p) (let q : (10 * f + k) % 10 ≡ k = omega arith in q)

  -- one that is none of the first two of a label
  byte-same : (f k x : ℕ) → (labels_from b ≤ f → f < rows_from b → 2 ≤ k) → image_byte (position_of b f) k x ≡ x
  byte-same f k x c = grind (arith, common_steps, ℕ_discrete f 0, split, at-header, at-entry, at-row, byte-kept)

  pub unnoted-alike : Alike b unnoted
  unnoted-alike = grind (arith, common_steps, split, get_or-eq_default, unnoted, unnoted-length, unnoted-field, byte-same)

  module _ (good : Passed b) (bytes : (k : ℕ) → slice_index b k < 256) where
    abbrev alike : Alike b unnoted
    alike = unnoted-alike

    rows-fit : size b ≡ rows_from b + row_count b
    rows-fit = header-size b good.header

    -- a label's frame within the table
    module _ (f : ℕ) (low : labels_from b ≤ f) (high : f < rows_from b) where
      kind-back : field unnoted f 0 ≡ 17
      kind-back =
          unnoted-field f 0 (omega arith) (omega (arith, rows-fit)) ∙ ap (λ (p : Position). image_byte p 0 (field b f 0)) (at-label b f low high)

      number-back : field unnoted f 1 ≡ f - labels_from b
      number-back =
          unnoted-field f 1 (omega arith) (omega (arith, rows-fit)) ∙ ap (λ (p : Position). image_byte p 1 (field b f 1)) (at-label b f low high)

      label-placed : is_stray unnoted f ≡ false
      unfolding is_stray
      label-placed = grind (arith, common_steps, at-label, kind-back, number-back, labels-from-alike, rows-from-alike, unnoted-alike)

    other-placed : (f : ℕ) → f < size b → is_noted b f ≡ false → is_stray unnoted f ≡ false
    other-placed f h e =
        stray-alike b unnoted alike f e ∙ and-false (not (is_noted b f)) (is_stray b f) (good.placed f h) (ap not e)

    none-stray : (f : ℕ) → f < size b → is_stray unnoted f ≡ false
    none-stray f h = grind (arith, common_steps, split, noted-behind, noted-before, label-placed, other-placed)

    pub unnoted-fine : table_verdict unnoted ≡ fine
    unfolding table_verdict
    unnoted-fine =
        ap (λ (t : Bool). next (when 11 t) λ _. next (at_lowest 12 (is_stray unnoted) (size unnoted)) λ _.
        at_lowest 13 (has_bad_content unnoted) (size unnoted)) (header-alike b unnoted alike ∙ good.header)
        ∙ ap (λ (v : Verdict). next v λ _. at_lowest 13 (has_bad_content unnoted) (size unnoted))
        (at-none 12 (is_stray unnoted) (size unnoted) (λ f h. none-stray f (omega (arith, size-alike b unnoted alike))))
        ∙ at-none 13 (has_bad_content unnoted) (size unnoted)
        (λ f h. content-alike b unnoted alike f ∙ good.contents f (omega (arith, size-alike b unnoted alike)))

    -- ---- the text of what it holds then
    byte-small : (f k x : ℕ) → x < 256 → image_byte (position_of b f) k x < 256
    byte-small f k x h = grind (arith, common_steps, split, at-label, byte-same)

    unnoted-bytes : (p : ℕ) → slice_index unnoted p < 256
    unfolding unnoted unnoted_byte
    unnoted-bytes p = grind (arith, common_steps, split p (length b), split, get_or-eq_default, get_or-map-range, unnoted_byte, unnoted, unnoted-length, byte-small)

    pub unnoted-contents : contents (text_of unnoted) ≡ unnoted
    unnoted-contents = text_of-contents unnoted unnoted-bytes (omega (arith, unnoted-length, good.whole))

    pub unnoted-accepted : image_verdict (text_of unnoted) ≡ fine
    unfolding image_verdict
    unnoted-accepted =
        let t : List ℕ = text_of unnoted in
        let n = counted unnoted unnoted-fine in
        ap (λ (v : Verdict). next v λ _. table_verdict (contents t))
        (text_of-fine unnoted unnoted-bytes 29831 (omega (arith, n.all)) (omega (arith, n.all, n.most, n.few, unnoted-bytes 2)))
        ∙ ap table_verdict unnoted-contents ∙ unnoted-fine

    -- ---- noted again it is the table
    -- a label notes where its rows end
    module _ (f : ℕ) (low : labels_from b ≤ f) (high : f < rows_from b) where
      abbrev label_of : ℕ
      label_of = f - labels_from b

      note-is : field b f 0 + field b f 1 * 256 ≡ first_frame b (label_of + 1)
      note-is = grind (arith, common_steps, not-false, eqb-true, and-false, noted-yes, rows-fit)

      again : first_frame unnoted (label_of + 1) ≡ field b f 0 + field b f 1 * 256
      again = first-alike b unnoted alike (label_of + 1) ∙ sym note-is

      inside : label_of ≤ last_label unnoted
      inside = omega (arith, last-alike b unnoted alike)

      placed : labels_from unnoted + label_of ≡ f
      placed = omega (arith, labels-from-alike b unnoted alike)

      note-low : field (noted_table unnoted) f 0 ≡ field b f 0
      note-low = grind (arith, common_steps, noted-low, unnoted, unnoted-fine, again, inside, placed)

      note-high : field (noted_table unnoted) f 1 ≡ field b f 1
      note-high = grind (arith, common_steps, noted-high, unnoted, unnoted-fine, again, inside, placed)

      note-field : (k : ℕ) → k < 10 → field (noted_table unnoted) f k ≡ field b f k
      note-field zero h = note-low
      note-field (suc zero) h = note-high
      note-field (suc (suc k)) h =
          noted-late unnoted f (suc (suc k)) (omega arith) h ∙ alike.fields f (suc (suc k)) h (λ m n. omega arith)

    noted-field : (f k : ℕ) → k < 10 → field (noted_table unnoted) f k ≡ field b f k
    noted-field f k h = grind (arith, common_steps, split, noted-front, noted-row, note-field, labels-from-alike, rows-from-alike, unnoted-alike)

    pub noted-back : noted_table unnoted ≡ b
    noted-back =
        ext_get_or 0 (noted_table unnoted) b (noted-length unnoted ∙ unnoted-length)
        (λ p h.
        ap (λ (i : ℕ). slice_index (noted_table unnoted) i) (let e : p ≡ 10 * (p / 10) + p % 10 = omega arith in e)
        ∙ noted-field (p / 10) (p % 10) (omega arith)
        ∙ ap (λ (i : ℕ). slice_index b i) (let e : 10 * (p / 10) + p % 10 ≡ p = omega arith in e))
