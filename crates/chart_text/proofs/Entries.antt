-- The two entry points, return by return: what the checks before a return tell of the verdict, the answer and the buffer.
use Rattle.std.proofs.Common.{◌≡◌, refl, sym, ◌∙◌, ap, Bool, false, List, ℕ, zero, suc, ◌*◌, ◌/◌, ◌≤◌, ◌<◌, arith, length, take, Ok, Err}
use Rattle.std.proofs.lemmas.Grind.{common_steps}
use Rattle.words.specs.lists.Sequences.{written}
use Rattle.words.proofs.lists.Written.{written-front}
use Rattle.text.specs.frames.Frame.{contents, frame_count, size, text_of}
use Rattle.text.specs.frames.Verdict.{fine}
use Rattle.text.specs.frames.Check.{is_bad_length, text_verdict}
use Rattle.text.specs.frames.Read.{read_buffer}
use Rattle.text.specs.frames.Answer.{Answer, reply, GivesBuffer, verdict_reply}
use Rattle.text.specs.declared.frames.refusals.Refusal.{Refusal}
use Rattle.text.specs.declared.frames.refusals.Refusal.TheVariants.{NoRoom}
use Rattle.text.proofs.frames.Chains.{when-fails, next-refused, next-on, ok-fine, err-refused}
use Rattle.text.proofs.frames.Contents.{Length, length-told, text-told, any-contents-length}
use Rattle.text.proofs.frames.Reading.{read-fine}
use Rattle.text.proofs.frames.Lent.{lent-err, lent-short, lent-done, front}
use Rattle.text.proofs.frames.TextLoops.{length-text}
use Rattle.charts.specs.Chart.{Chart}
use Rattle.charts.specs.Check.{chart_verdict}
use Rattle.charts.specs.Entry.{read_verdict, read_chart, write_verdict, write_chart}

-- ---- the reader
-- 1 to 3 find nothing, the frames are n, and the part of the table that was read is the chart
pub record Formed (t table : List ℕ) (n : ℕ) : Type 0 where
  pub passed : text_verdict 5888 t ≡ fine
  pub frames : n ≡ frame_count t
  pub some : 1 ≤ n
  pub few : n ≤ 256
  pub records : length (contents t) ≡ 10 * n
  pub chart : take (10 * n) table ≡ contents t

pub formed : (t zeros : List ℕ) {table : List ℕ} {a : Answer} {n : ℕ} → reply a ≡ verdict_reply (text_verdict 5888 t) (frame_count t)
    → a ≡ Ok n
    → table ≡ read_buffer 5888 t zeros → Formed t table n
formed t zeros {table} {a} {n} e d stored =
    let p : (text_verdict 5888 t ≡ fine) × (n ≡ frame_count t) = ok-fine a (text_verdict 5888 t) (frame_count t) e n d in
    let l : Length 23 5888 (length t) = (text-told 5888 t p.0).length in
    let records : length (contents t) ≡ 10 * n = any-contents-length t ∙ omega (arith, p.1) in
    record {
      passed = p.0;
      frames = p.1;
      some = go (length t) n l p.1;
      few = omega (arith, l.fits, p.1);
      records = records;
      chart = grind (arith, common_steps, read-fine, front);
    }
  where
    go : (m n : ℕ) → Length 23 5888 m → n ≡ m / 23 → 1 ≤ n
    go zero n l e = absurd (l.some refl)
    go (suc m) n l e = omega (arith, l.whole)

pub chart-length : {t table : List ℕ} {n : ℕ} → Formed t table n → 10 * n ≡ length (take (10 * n) table)
chart-length F = sym (ap length F.chart ∙ F.records)

module _ (t out : List ℕ) where
  pub read-unformed : {a : Answer} → reply a ≡ verdict_reply (text_verdict 5888 t) (frame_count t) → {r : Refusal} → a ≡ Err r
      → GivesBuffer (read_chart t out) (Err r) out
  unfolding read_chart read_verdict
  read-unformed e q = grind (arith, common_steps, next-refused, lent-err, err-refused)

  module _ {table : List ℕ} {n : ℕ} (F : Formed t table n) where
    rest : read_verdict t ≡ chart_verdict (take (10 * n) table)
    unfolding read_verdict
    rest = next-on (text_verdict 5888 t) (λ _. chart_verdict (contents t)) F.passed ∙ ap chart_verdict (sym F.chart)

    module _ {a : Answer} (e : reply a ≡ verdict_reply (chart_verdict (take (10 * n) table)) 0) where
      pub read-unsound : {r : Refusal} → a ≡ Err r → GivesBuffer (read_chart t out) (Err r) out
      unfolding read_chart
      read-unsound q = grind (arith, common_steps, lent-err, err-refused, rest)

      pub read-short : {m : ℕ} → a ≡ Ok m → length out < 10 * n → GivesBuffer (read_chart t out) (Err NoRoom) out
      unfolding read_chart
      read-short q h = grind (arith, common_steps, lent-short, ok-fine, rest)

      pub read-done : {m : ℕ} → a ≡ Ok m → 10 * n ≤ length out → {out' : List ℕ} → out' ≡ written out 0 (take (10 * n) table)
          → GivesBuffer (read_chart t out) (Ok n) out'
      unfolding read_chart
      read-done q h o = grind (arith, common_steps, lent-done, ok-fine, written-front, rest)

-- ---- the writer
-- 1 finds nothing
pub record WholeRecords (c : Chart) : Type 0 where
  pub passed : is_bad_length 10 2560 (length c) ≡ false
  pub records : length c ≡ 10 * size c
  pub some : 1 ≤ size c
  pub few : size c ≤ 256

pub whole : {c : Chart} {b : Bool} → b ≡ is_bad_length 10 2560 (length c) → b ≡ false → WholeRecords c
whole told e = grind (arith, common_steps, length-told)

module _ (c : Chart) (out : List ℕ) where
  module _ (w : WholeRecords c) (a : Answer) (e : reply a ≡ verdict_reply (chart_verdict c) 0) where
    on : write_verdict c ≡ chart_verdict c
    unfolding write_verdict
    on = grind (arith, common_steps, when-fails, next-on)

    pub write-short : (m : ℕ) → a ≡ Ok m → length out < 23 * size c → GivesBuffer (write_chart c out) (Err NoRoom) out
    unfolding write_chart
    write-short m q h = grind (arith, common_steps, lent-short, ok-fine, length-text, on)

    pub write-done : (m : ℕ) → a ≡ Ok m → 23 * size c ≤ length out → (out' : List ℕ) → out' ≡ written out 0 (text_of c)
        → GivesBuffer (write_chart c out) (Ok (23 * size c)) out'
    unfolding write_chart
    write-done m q h out' o = grind (arith, common_steps, lent-done, ok-fine, length-text, written-front, on)
