-- Charts there and back: what the writer leaves in its buffer the reader turns into the same records, and what the reader leaves
-- the writer turns into the same text in capitals.
use Rattle.std.proofs.Common.{ℕ, ◌*◌, ◌<◌, ◌≡◌, ◌∙◌, ap, ap₂, List, map, arith, length, take, slice_index}
use Rattle.std.proofs.Math.ListN.{length-map}
use Rattle.std.proofs.lemmas.Grind.{common_steps}
use Rattle.text.specs.digits.Digit.{capital}
use Rattle.text.specs.frames.Frame.{contents, frame_count, text_of}
use Rattle.text.specs.frames.Verdict.{Verdict, fine}
use Rattle.text.specs.frames.Answer.{buffer_on}
use Rattle.text.proofs.frames.Verdicts.{next-rest}
use Rattle.text.proofs.frames.Texts.{length-good}
use Rattle.text.proofs.frames.Contents.{any-contents-length, text_of-fine, text_of-contents, text_of-capitals, text-back}
use Rattle.text.proofs.frames.Lent.{lent-fits, Success, lent-told, front}
use Rattle.charts.specs.Chart.{Chart}
use Rattle.charts.specs.Entry.{read_verdict, read_chart, write_verdict, write_chart}
use Rattle.chart_text.specs.RoundTrips.{ReadOfWrite, WriteOfRead, WriteOfCapitals}
use Rattle.charts.proofs.Accepted.{accepted, accepted-records, read-text}

-- ---- accepted records: their text is accepted, is in capitals, and its contents are the records
module _ (c : Chart) (bytes : (k : ℕ) → slice_index c k < 256) (ok : write_verdict c ≡ fine) where
  pub written-contents : contents (text_of c) ≡ c
  written-contents = grind (arith, common_steps, accepted-records, text_of-contents)

  pub written-accepted : read_verdict (text_of c) ≡ fine
  unfolding read_verdict write_verdict
  written-accepted = grind (arith, common_steps, next-rest, text_of-fine, accepted-records, written-contents)

  pub written-capitals : map capital (text_of c) ≡ text_of c
  written-capitals = grind (arith, common_steps, text_of-capitals, accepted-records)

  pub read-written : (out : List ℕ) → read_chart (text_of c) out ≡ buffer_on fine 10 (λ _. c) out
  unfolding read_chart
  read-written out = ap₂ (λ (v : Verdict) (x : List ℕ). buffer_on v 10 (λ _. x) out) written-accepted written-contents

-- ---- an accepted text: its records are accepted and their text is that text in capitals
module _ (t : List ℕ) (ok : read_verdict t ≡ fine) where
  pub read-back : text_of (contents t) ≡ map capital t
  read-back = text-back 5888 t (read-text t ok)

  pub read-accepted : write_verdict (contents t) ≡ fine
  unfolding read_verdict write_verdict
  read-accepted = grind (arith, common_steps, next-rest, length-good, accepted)

  pub write-read : (out : List ℕ) → write_chart (contents t) out ≡ buffer_on fine 1 (λ _. map capital t) out
  unfolding write_chart
  write-read out = ap₂ (λ (v : Verdict) (x : List ℕ). buffer_on v 1 (λ _. x) out) read-accepted read-back

-- ---- through the buffers
pub read-of-write : ReadOfWrite
unfolding write_chart
read-of-write c bytes out out' n e room = grind (arith, common_steps, front, lent-fits, lent-told, accepted, read-written)

pub write-of-read : WriteOfRead
unfolding read_chart
write-of-read t out out' n e room =
    let s : Success (read_verdict t) 10 (contents t) out n (read_chart t out) = lent-told (read_verdict t) 10 (λ _. contents t) out n e in
    let w : length (contents t) ≡ 10 * frame_count t = any-contents-length t in
    let f : take (10 * n) (read_chart t out).buffer ≡ contents t =
    ap (take (10 * n)) s.buffer ∙ front (10 * n) (contents t) out (omega (arith, s.count)) in
    ap (λ (c : Chart). write_chart c out') f ∙ write-read t s.accepted out'
    ∙ lent-fits 1 (λ _. map capital t) out' (omega (arith, length-map t capital))

pub write-of-capitals : WriteOfCapitals
write-of-capitals t out out' n same e room = grind (arith, common_steps, write-of-read)
