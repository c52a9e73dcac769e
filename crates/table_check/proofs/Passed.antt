-- What the verdict on a table tells, and what makes it fine.
use Rattle.std.proofs.Common.{◌≡◌, refl, true, false, not, List, [], ◌∷◌, ℕ, ◌+◌, ◌%◌, ◌<◌, arith, ◌==◌, length}
use Rattle.words.proofs.lists.Tests.{or-r}
use Rattle.text.specs.frames.Frame.{size}
use Rattle.text.specs.frames.Verdict.{fine}
use Rattle.text.proofs.frames.Verdicts.{at-lowest-fine, at-none}
use Rattle.image.specs.Decode.{row_count, rows_from}
use Rattle.image.specs.Check.{is_bad_header, has_bad_content}
use Rattle.image_check.proofs.TableCases.{header-size}
use Rattle.table_check.specs.TableCheck.{is_no_table, is_displaced, is_misnoted, prepared_verdict}
use Rattle.std.proofs.lemmas.Grind.{common_steps}

pub header-tells : (b : List ℕ) → is_no_table b ≡ false → size b ≡ rows_from b + row_count b
header-tells b e = header-size b (or-r (not (length b % 10 == 0)) (is_bad_header b) e)

pub empty-no-table : (b : List ℕ) → length b ≡ 0 → true ≡ is_no_table b
unfolding is_bad_header
empty-no-table [] e = refl
empty-no-table (x ∷ xs) e = absurd (omega arith)

pub record Passed (b : List ℕ) : Type 0 where
  pub whole : length b % 10 ≡ 0
  pub header : is_bad_header b ≡ false
  pub placed : (f : ℕ) → f < size b → is_displaced b f ≡ false
  pub contents : (f : ℕ) → f < size b → has_bad_content b f ≡ false
  pub notes : (f : ℕ) → f < size b → is_misnoted b f ≡ false

module _ (b : List ℕ) where
  pub passed-told : prepared_verdict b ≡ fine → Passed b
  unfolding prepared_verdict
  passed-told e = record {
    whole = grind (arith, common_steps);
    header = grind (arith, common_steps);
    placed = at-lowest-fine 12 (is_displaced b) (size b) (grind (arith, common_steps));
    contents = at-lowest-fine 13 (has_bad_content b) (size b) (grind (arith, common_steps));
    notes = at-lowest-fine 13 (is_misnoted b) (size b) (grind (arith, common_steps));
  }

  pub passed-fine : Passed b → prepared_verdict b ≡ fine
  unfolding prepared_verdict
  passed-fine p = grind (arith, common_steps, at-none)

pub ruleset header_told = (empty-no-table, header-tells)
