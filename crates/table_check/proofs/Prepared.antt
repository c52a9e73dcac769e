-- The tables that pass are those that the preparation writes.
use Rattle.std.proofs.Common.{ℕ, ◌%◌, ◌≤◌, ◌<◌, false, not, ◌≡◌, ◌∙◌, ap, List, arith, slice_index, length}
use Rattle.std.proofs.Common.{eq-eqb, All}
use Rattle.std.proofs.Math.ListN.{get_or-eq_default}
use Rattle.std.proofs.lemmas.Grind.{common_steps}
use Rattle.words.specs.lists.Sequences.{over}
use Rattle.words.proofs.lists.Tests.{split, and-no}
use Rattle.text.specs.frames.Frame.{contents, text_of}
use Rattle.text.specs.frames.Verdict.{fine}
use Rattle.text.specs.frames.Answer.{success}
use Rattle.text.proofs.frames.Verdicts.{next-first, when-fine}
use Rattle.text.proofs.frames.Lent.{lent-told, lent-fits, front}
use Rattle.text.proofs.frames.Contents.{any-contents-length}
use Rattle.image.specs.Decode.{labels_from, rows_from}
use Rattle.image.specs.Check.{is_bad_header, is_stray, table_verdict, image_verdict}
use Rattle.image.proofs.Accepted.{none-stray, none-bad, image-table}
use Rattle.tables.specs.Prepare.{noted_table, prepare}
use Rattle.tables.proofs.Noted.{noted-length, noted-front, noted-late, noted-row, noted-in}
use Rattle.table_check.specs.TableCheck.{is_noted, is_misnoted, prepared_verdict}
use Rattle.table_check.specs.Laws.{PassesPrepared, PassesNoOther}
use Rattle.table_check.proofs.Alike.{Alike, size-alike, labels-from-alike, noted-alike, header-alike, displaced-alike, content-alike, first-alike}
use Rattle.table_check.proofs.PlacingCases.{noted-before, noted-behind}
use Rattle.table_check.proofs.Passed.{Passed, passed-told, passed-fine}
use Rattle.table_check.proofs.Unnoted.{unnoted, unnoted-accepted, unnoted-contents, noted-back}

-- ---- what the preparation writes passes
module _ (b : List ℕ) (ok : table_verdict b ≡ fine) where
  noted_table-alike : Alike b (noted_table b)
  noted_table-alike = grind (arith, common_steps, noted-front, split, noted-length, noted-late, noted-row)

  -- no label notes another frame
  untried : (f : ℕ) → is_noted b f ≡ false → is_misnoted (noted_table b) f ≡ false
  untried f e = grind (arith, common_steps, noted-alike, noted_table-alike)

  tried : (f : ℕ) → labels_from b ≤ f → f < rows_from b → is_misnoted (noted_table b) f ≡ false
  tried f m n = grind (arith, common_steps, first-alike, labels-from-alike, noted-in, and-no, eq-eqb, noted_table-alike)

  well-noted : (f : ℕ) → is_misnoted (noted_table b) f ≡ false
  well-noted f = grind (arith, common_steps, split, noted-behind, noted-before, untried, tried)

  header-good : is_bad_header b ≡ false
  unfolding table_verdict
  header-good = grind (arith, common_steps, when-fine, next-first)

  pub prepared-passes : length b % 10 ≡ 0 → prepared_verdict (noted_table b) ≡ fine
  prepared-passes whole =
      let c : List ℕ = noted_table b in
      passed-fine c (record {
        whole = omega (arith, noted-length b);
        header = header-alike b c noted_table-alike ∙ header-good;
        placed = λ f h.
            displaced-alike b c noted_table-alike f
            ∙ and-no (not (is_noted b f)) (is_stray b f) (none-stray b ok f (omega (arith, size-alike b c noted_table-alike)));
        contents = λ f h. content-alike b c noted_table-alike f ∙ none-bad b ok f (omega (arith, size-alike b c noted_table-alike));
        notes = λ f h. well-noted f;
      })

pub passes-prepared : PassesPrepared
unfolding prepare
passes-prepared t old n e = grind (arith, common_steps, any-contents-length, lent-told, image-table, front, prepared-passes)

-- ---- what passes is prepared
bytes-of : (b : List ℕ) → All (λ x. x < 256) b → (k : ℕ) → slice_index b k < 256
bytes-of b a k = grind (arith, common_steps, split k (length b), split, get_or-eq_default)

over-itself : (b : List ℕ) → over b b ≡ b
over-itself b = grind (arith, common_steps)

prepared-into : (b t : List ℕ) → image_verdict t ≡ fine → noted_table (contents t) ≡ b
    → prepare t b ≡ record { reply = success (length b); buffer = b }
unfolding prepare
prepared-into b t ok is = grind (arith, common_steps, lent-fits, over-itself)

pub passes-no-other : PassesNoOther
passes-no-other b a e =
    let good : Passed b = passed-told b e in
    let bytes : (k : ℕ) → slice_index b k < 256 = bytes-of b a in
    let t : List ℕ = text_of (unnoted b) in
    let ok : image_verdict t ≡ fine = unnoted-accepted b good bytes in
    (t, ok, prepared-into b t ok (ap noted_table (unnoted-contents b good bytes) ∙ noted-back b good bytes))

pub ruleset prepared_alone = (passes-prepared, passes-no-other)
