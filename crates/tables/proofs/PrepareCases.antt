-- The preparation of an image, by the image check's answer: what was read stays, or is noted; the table is copied where it has room.
use Rattle.std.proofs.Common.{ℕ, ◌*◌, ◌≤◌, ◌<◌, ◌≡◌, refl, ◌∙◌, ap, List, ◌++◌, arith, length, take, drop, take_at, drop_at, Ok, Err}
use Rattle.std.proofs.lemmas.Grind.{common_steps}
use Rattle.words.specs.lists.Sequences.{over, written}
use Rattle.words.proofs.lists.Written.{written-front}
use Rattle.text.specs.frames.Frame.{frame_count, contents}
use Rattle.text.specs.frames.Verdict.{fine}
use Rattle.text.specs.frames.Answer.{Answer, reply, verdict_reply, GivesBuffer}
use Rattle.text.specs.frames.Check.{text_verdict}
use Rattle.text.specs.frames.Read.{read_buffer}
use Rattle.text.specs.declared.frames.refusals.Refusal.{Refusal}
use Rattle.text.specs.declared.frames.refusals.Refusal.TheVariants.{NoRoom}
use Rattle.text.proofs.frames.Verdicts.{next-first}
use Rattle.text.proofs.frames.Chains.{err-refused, judged-fine}
use Rattle.text.proofs.frames.Contents.{any-contents-length}
use Rattle.text.proofs.frames.Reading.{read-fine}
use Rattle.text.proofs.frames.Lent.{lent-err, lent-short, lent-done}
use Rattle.image.specs.Check.{table_verdict, image_verdict}
use Rattle.image.proofs.Accepted.{image-table}
use Rattle.image_check.proofs.ReadCases.{good-text, front-contents, front-length}
use Rattle.tables.specs.Prepare.{noted_table, prepare}
use Rattle.tables.specs.inner.Prepares.{prepared_buffer, GivesPrepared}
use Rattle.tables.proofs.Noted.{noted-length}

-- ---- the image is refused
pub table-refused : (t : List ℕ) (a : Answer) → reply a ≡ verdict_reply (image_verdict t) 0 → (r : Refusal) → a ≡ Err r
    → (old out : List ℕ) → out ≡ read_buffer 29831 t old → GivesPrepared t old (Err r) out
unfolding prepared_buffer
table-refused t a gives r e old out left = grind (arith, common_steps)

-- ---- it is accepted
module _ (t : List ℕ) (ok : image_verdict t ≡ fine) where
  -- how many bytes its table has
  abbrev long : ℕ
  long = 10 * frame_count t

  passes : text_verdict 29831 t ≡ fine
  unfolding image_verdict
  passes = next-first (text_verdict 29831 t) (λ _. table_verdict (contents t)) ok

  pub frames-few : long ≤ 12970
  frames-few = omega (arith, (good-text t passes).most)

  pub prepared-fine : (old : List ℕ) → prepared_buffer t old ≡ over (noted_table (contents t)) old
  unfolding prepared_buffer
  prepared-fine old = rw (ok, prepared_buffer)

  pub prepared-length : length (noted_table (contents t)) ≡ long
  prepared-length = noted-length (contents t) ∙ any-contents-length t

  -- ---- in place: what was read, then noted
  module _ (old table : List ℕ) (left : table ≡ read_buffer 29831 t old) where
    read-front : take long table ≡ contents t
    read-front = front-contents (good-text t passes) old left

    pub read-length : long ≡ length (take long table)
    read-length = front-length (good-text t passes) old left

    pub read-accepted : table_verdict (take long table) ≡ fine
    read-accepted = ap table_verdict read-front ∙ image-table t ok

    pub table-noted : (new : List ℕ) → new ≡ noted_table (take long table) → GivesPrepared t old (Ok 0) (new ++ drop long table)
    table-noted new e = grind (arith, common_steps, any-contents-length, noted-length, judged-fine, drop_at, read-fine, passes, prepared-fine, read-front)

  -- ---- the table at the front of the buffer that it was made in
  module _ (old made : List ℕ) (is : made ≡ prepared_buffer t old) where
    pub made-front : take long made ≡ noted_table (contents t)
    made-front = grind (arith, common_steps, take_at, prepared-fine, prepared-length)

-- ---- the table is handed out where there is room for it
module _ (t given : List ℕ) where
  pub image-refused : (r : Refusal) → reply (Err r) ≡ verdict_reply (image_verdict t) 0 → GivesBuffer (prepare t given) (Err r) given
  unfolding prepare
  image-refused r gives = lent-err (image_verdict t) 1 (λ _. noted_table (contents t)) given r (err-refused (Err r) (image_verdict t) 0 gives r refl)

  module _ (ok : image_verdict t ≡ fine) (made : List ℕ) (noted : made ≡ noted_table (contents t)) where
    pub image-short : length given < length made → GivesBuffer (prepare t given) (Err NoRoom) given
    unfolding prepare
    image-short h = grind (arith, common_steps, lent-short)

    pub image-done : length made ≤ length given → (out : List ℕ) → out ≡ written given 0 made
        → GivesBuffer (prepare t given) (Ok (length made)) out
    unfolding prepare
    image-done h out e = grind (arith, common_steps, written-front, lent-done)
