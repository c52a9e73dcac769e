-- What preparing an accepted image leaves in front of the buffer:
-- a table that holds the image that the text does, with its rows in their order.
use Rattle.std.proofs.Common.{ℕ, ◌+◌, ◌*◌, ◌-◌, ◌≤◌, ◌≡◌, sym, ◌∙◌, ap, subst, List, arith, length, take, Ok, flat_map}
use Rattle.words.specs.lists.Numbers.{range}
use Rattle.text.specs.frames.Frame.{contents, frame_count}
use Rattle.text.specs.frames.Verdict.{fine}
use Rattle.text.specs.frames.Answer.{Answer}
use Rattle.text.proofs.frames.Chains.{ok-fine}
use Rattle.text.proofs.frames.Contents.{any-contents-length}
use Rattle.image.specs.Decode.{last_label, rows_from, decoded_image}
use Rattle.image.specs.Check.{table_verdict, image_verdict}
use Rattle.image.proofs.Accepted.{image-table, image-bytes}
use Rattle.tables.specs.Prepare.{noted_table}
use Rattle.tables.specs.inner.Prepares.{GivesPrepared}
use Rattle.tables.specs.Table.{first_on, rows_on, table_image}
use Rattle.tables.specs.inner.Asked.{Whole}
use Rattle.tables.proofs.PrepareCases.{frames-few, made-front}
use Rattle.tables.proofs.PreparedImage.{noted-whole, prepared-starts, prepared-image}

-- the rows of each label begin behind those of the labels below it
abbrev pub RowsBehind : List ℕ → Type 0
RowsBehind b = (l : ℕ) → 2 ≤ l → l ≤ last_label b → first_on b l ≡ rows_from b + length (flat_map (rows_on b) (range 2 (l - 2)))

pub record MadeTable (t b : List ℕ) : Type 0 where
  pub accepted : image_verdict t ≡ fine
  pub few : 10 * frame_count t ≤ 12970
  pub whole : Whole b
  pub holds : table_image b ≡ decoded_image (contents t)
  pub starts : RowsBehind b
  pub is : b ≡ noted_table (contents t)

-- the table that a preparation writes for an accepted image
pub noted-made : (t b : List ℕ) → image_verdict t ≡ fine → b ≡ noted_table (contents t) → MadeTable t b
noted-made t b ok is =
    let fine-table : table_verdict (contents t) ≡ fine = image-table t ok in
    record {
      accepted = ok;
      few = frames-few t ok;
      whole = subst Whole (sym is) (noted-whole (contents t) fine-table (omega (arith, any-contents-length t)));
      holds = ap table_image is ∙ prepared-image (contents t) fine-table (image-bytes t ok);
      starts = subst RowsBehind (sym is) (prepared-starts (contents t) fine-table (image-bytes t ok));
      is = is;
    }

pub image-made : (t old table : List ℕ) (a : Answer) → GivesPrepared t old a table → (m : ℕ)
    → a ≡ Ok m → MadeTable t (take (10 * frame_count t) table)
image-made t old table a x m done =
    let ok : image_verdict t ≡ fine = (ok-fine a (image_verdict t) 0 x.answered m done).0 in
    noted-made t (take (10 * frame_count t) table) ok (made-front t ok old table x.written)
