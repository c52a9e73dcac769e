-- A text and the same text in capitals are read alike, whatever its characters are and however long it is.
use Rattle.std.proofs.Common.{ℕ, ◌+◌, ◌*◌, ◌/◌, ◌%◌, Bool, not, ◌≡◌, ◌∙◌, ap, ap₂, List, map, arith, length, ne_eqb, ◌==◌, slice_index, flat_map}
use Rattle.std.proofs.Math.Path.{fun_ext}
use Rattle.std.proofs.Math.ListN.{length-map}
use Rattle.std.proofs.lemmas.Grind.{common_steps}
use Rattle.words.specs.lists.Numbers.{range, sum}
use Rattle.text.specs.digits.Digit.{digit_of, capital}
use Rattle.text.proofs.digits.Digits.{class_of, capital-same, capital-of-small, capital-at}
use Rattle.text.proofs.digits.Digits.{digit-capital}
use Rattle.text.specs.frames.Frame.{byte_at, contents}
use Rattle.text.specs.frames.Verdict.{next, when, at_lowest}
use Rattle.text.specs.frames.Check.{is_bad_length, has_bad_form, has_bad_sum, text_verdict}
use Rattle.text.specs.frames.Read.{read_buffer}
use Rattle.text.specs.frames.Alike.{ReadAlike}

-- a capital is no line feed where the character is none
feed-capital : (c : ℕ) → (capital c == 10) ≡ (c == 10)
feed-capital c = grind (arith, common_steps, class_of c, capital-of-small, ne_eqb, capital-same)

module _ (t : List ℕ) where
  abbrev capitals : List ℕ
  capitals = map capital t

  digit-same : (i : ℕ) → digit_of (slice_index capitals i) ≡ digit_of (slice_index t i)
  digit-same i = ap digit_of (capital-at t i) ∙ digit-capital (slice_index t i)

  byte-same : (f k : ℕ) → byte_at capitals f k ≡ byte_at t f k
  byte-same f k = ap₂ (λ (x y : ℕ). 16 * x + y) (digit-same (23 * f + 2 * k)) (digit-same (23 * f + 2 * k + 1))

  form-same : (f : ℕ) → has_bad_form capitals f ≡ has_bad_form t f
  unfolding has_bad_form
  form-same f = grind (arith, common_steps, fun_ext, capital-at, feed-capital, digit-same)

  sum-same : (f : ℕ) → has_bad_sum capitals f ≡ has_bad_sum t f
  unfolding has_bad_sum
  sum-same f = ap (λ (b : ℕ → ℕ). not (sum b 0 11 % 256 == 0)) (fun_ext (byte-same f))

  contents-same : contents capitals ≡ contents t
  unfolding contents
  contents-same =
      ap₂ (λ (b : ℕ → ℕ → ℕ) (n : ℕ). flat_map (λ f. map (b f) (range 0 10)) (range 0 (n / 23)))
      (fun_ext λ f. fun_ext (byte-same f)) (length-map t capital)

  verdict-same : (most : ℕ) → text_verdict most capitals ≡ text_verdict most t
  unfolding text_verdict
  verdict-same most =
      ap₂ (λ (form : ℕ → Bool) (sum : ℕ → Bool).
      next (when 1 (is_bad_length 23 most (length capitals))) λ _. next
      (at_lowest 2 form (length capitals / 23)) λ _. at_lowest 3 sum (length capitals / 23))
      (fun_ext form-same) (fun_ext sum-same)
      ∙ ap (λ (n : ℕ).
      next (when 1 (is_bad_length 23 most n)) λ _. next (at_lowest 2 (has_bad_form t) (n / 23)) λ _. at_lowest 3 (has_bad_sum t) (n / 23))
      (length-map t capital)

  buffer-same : (most : ℕ) (old : List ℕ) → read_buffer most capitals old ≡ read_buffer most t old
  unfolding read_buffer
  buffer-same most old = grind (arith, common_steps, length-map, contents-same)

  pub capitals-alike : ReadAlike capitals t
  capitals-alike = record { verdict = verdict-same; contents = contents-same; buffer = buffer-same }
