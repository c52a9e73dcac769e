-- Cases of the entry point: the image is refused, or the table that is made of it is made smaller.
use Rattle.std.proofs.Common.{◌≡◌, sym, ◌∙◌, false, length, List, ℕ, Err, arith}
use Rattle.std.proofs.lemmas.Grind.{common_steps}
use Rattle.text.specs.frames.Frame.{contents}
use Rattle.text.specs.frames.Verdict.{when}
use Rattle.text.specs.frames.Answer.{Answer, reply, verdict_reply, GivesBuffer}
use Rattle.text.specs.declared.frames.refusals.Refusal.{Refusal}
use Rattle.image.specs.Decode.{decoded_image}
use Rattle.image.specs.Check.{image_verdict}
use Rattle.tables.proofs.Made.{MadeTable}
use Rattle.covering.specs.Matched.{is_uneven}
use Rattle.covering.proofs.Tables.{noted-decoded, made-table, made-uneven}
use Rattle.words.specs.lists.Sequences.{over}
use Rattle.tables.specs.Table.{table_image}
use Rattle.grouping.specs.Classes.{grouping}
use Rattle.grouping.proofs.GroupSteps.{group-classed}
use Rattle.grouping.proofs.Prepared.{made-even}
use Rattle.minimising.specs.inner.WriteContracts.{Grouped, smaller_outcome}
use Rattle.minimising.specs.inner.JoiningContracts.{ReadableTable}
use Rattle.minimising.specs.Entry.{minimise_verdict, minimise}

module _ (t : List ℕ) where
  pub image-refused : (old : List ℕ) (r : Refusal) → reply (Err r) ≡ verdict_reply (image_verdict t) 0
      → GivesBuffer (minimise t old) (Err r) old
  unfolding minimise minimise_verdict
  image-refused old r gives = grind (arith, common_steps)

  module _ (b : List ℕ) (made : MadeTable t b) where
    same : decoded_image b ≡ decoded_image (contents t)
    same = grind (arith, made.is, noted-decoded)

    pub made-prepared : ReadableTable b
    made-prepared = record {
      table = made-table t b made;
      holds = made.holds ∙ sym same;
      even = λ e. made-even t b made (sym (made-uneven t b made) ∙ e);
    }

    pub image-made-smaller : (old : List ℕ) (a : Answer) (out : List ℕ)
        → GivesBuffer (smaller_outcome b (when 23 (is_uneven (decoded_image b))) old) a out
        → GivesBuffer (minimise t old) a out
    unfolding minimise minimise_verdict
    image-made-smaller old a out x = grind (arith, common_steps, same)

-- the classes that the grouping leaves
pub table-grouped : (b : List ℕ) → ReadableTable b → is_uneven (decoded_image b) ≡ false → (old buffer : List ℕ)
    → buffer ≡ over (grouping (table_image b)) old → length buffer ≡ 256 → Grouped b buffer
table-grouped b r e old buffer q h = record {
  table = r.table;
  even = e;
  classes = grind (arith, r.holds, group-classed);
}
