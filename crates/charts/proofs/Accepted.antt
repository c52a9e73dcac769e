-- What an accepted chart gives, test by test.
use Rattle.std.proofs.Common.{◌≡◌, false, List, ℕ, ◌*◌, ◌%◌, ◌≤◌, ◌<◌, arith, length, slice_index}
use Rattle.std.proofs.lemmas.Grind.{common_steps}
use Rattle.words.specs.lists.Numbers.{any}
use Rattle.words.proofs.lists.Searches.{any-false}
use Rattle.text.specs.frames.Frame.{contents, frame_count, size}
use Rattle.text.specs.frames.Verdict.{Verdict, fine, next, when, at_lowest}
use Rattle.text.specs.frames.Check.{is_bad_length, text_verdict}
use Rattle.text.proofs.frames.Verdicts.{next-first, next-rest, when-fine, at-lowest-fine}
use Rattle.text.proofs.frames.Contents.{Length, length-told, Clean, text-told, any-contents-length, contents-bytes}
use Rattle.charts.specs.Chart.{Chart, schemes}
use Rattle.charts.specs.Check.{has_bad_field, is_bad_scheme, has_bad_marks, has_bad_arc, has_bad_call, is_on_circle, is_cut_off}
use Rattle.charts.specs.Check.{chart_verdict}
use Rattle.charts.specs.Entry.{read_verdict, write_verdict}

-- refusals 4 to 9 and 19 find nothing
pub record SoundChart (c : Chart) : Type 0 where
  pub good-field : (v : ℕ) → v < size c → has_bad_field c v ≡ false
  pub good-scheme : (h : ℕ) → 1 ≤ h → h ≤ schemes c → is_bad_scheme c h ≡ false
  pub good-marks : has_bad_marks c ≡ false
  pub good-arc : (v : ℕ) → v < size c → has_bad_arc c v ≡ false
  pub good-call : (v : ℕ) → v < size c → has_bad_call c v ≡ false
  pub no-circle : (v : ℕ) → v < size c → is_on_circle c v ≡ false
  pub joined : (v : ℕ) → v < size c → is_cut_off c v ≡ false

-- besides, the chart is the whole records of 1 to 256 nodes
pub record Accepted (c : Chart) : Type 0 where
  pub whole : length c ≡ 10 * size c
  pub some : 1 ≤ size c
  pub few : size c ≤ 256
  pub sound : SoundChart c

nexts : (a b m d e f g : Verdict) → next a (λ _. next b (λ _. next m (λ _. next d (λ _. next e (λ _. next f (λ _. g)))))) ≡ fine
    → (a ≡ fine) × (b ≡ fine) × (m ≡ fine) × (d ≡ fine) × (e ≡ fine) × (f ≡ fine) × (g ≡ fine)
nexts a b m d e f g q = grind (arith, common_steps)

pub sound : (c : Chart) → chart_verdict c ≡ fine → SoundChart c
unfolding chart_verdict
sound c e =
    let q = nexts (at_lowest 4 (has_bad_field c) (size c)) (when 5 (any (is_bad_scheme c) 1 (schemes c))) (when 19 (has_bad_marks c))
    (at_lowest 6 (has_bad_arc c) (size c)) (at_lowest 7 (has_bad_call c) (size c))
    (at_lowest 8 (is_on_circle c) (size c)) (at_lowest 9 (is_cut_off c) (size c)) e in
    record {
      good-field = at-lowest-fine 4 (has_bad_field c) (size c) q.0;
      good-scheme =
          λ h l m. any-false (is_bad_scheme c) 1 (schemes c) (when-fine 5 (any (is_bad_scheme c) 1 (schemes c)) q.1) h l (omega arith);
      good-marks = when-fine 19 (has_bad_marks c) q.2;
      good-arc = at-lowest-fine 6 (has_bad_arc c) (size c) q.3;
      good-call = at-lowest-fine 7 (has_bad_call c) (size c) q.4;
      no-circle = at-lowest-fine 8 (is_on_circle c) (size c) q.5;
      joined = at-lowest-fine 9 (is_cut_off c) (size c) q.6;
    }

-- ---- by the reader: the chart of an accepted text, whose bytes are bytes
pub read-text : (t : List ℕ) → read_verdict t ≡ fine → Clean 5888 t
unfolding read_verdict
read-text t e = text-told 5888 t (next-first (text_verdict 5888 t) (λ _. chart_verdict (contents t)) e)

pub accepted : (t : List ℕ) → read_verdict t ≡ fine → Accepted (contents t)
unfolding read_verdict
accepted t e =
    let n : Length 23 5888 (length t) = (read-text t e).length in
    let s : length (contents t) ≡ 10 * frame_count t = any-contents-length t in
    let z : length t ≡ 0 → ⊥ = n.some in
    let w : length t % 23 ≡ 0 = n.whole in
    let f : length t ≤ 5888 = n.fits in
    record {
      whole = omega arith;
      some = omega arith;
      few = omega arith;
      sound = sound (contents t) (next-rest (text_verdict 5888 t) (λ _. chart_verdict (contents t)) e);
    }

pub accepted-bytes : (t : List ℕ) → read_verdict t ≡ fine → (k : ℕ) → slice_index (contents t) k < 256
accepted-bytes t e = contents-bytes t (read-text t e).forms

-- ---- by the writer
pub accepted-records : (c : Chart) → write_verdict c ≡ fine → Accepted c
unfolding write_verdict
accepted-records c e =
    let bad = is_bad_length 10 2560 (length c) in
    let n : Length 10 2560 (length c) =
    length-told 10 2560 (length c) (when-fine 1 bad (next-first (when 1 bad) (λ _. chart_verdict c) e)) in
    let z : length c ≡ 0 → ⊥ = n.some in
    let w : length c % 10 ≡ 0 = n.whole in
    let f : length c ≤ 2560 = n.fits in
    record {
      whole = omega arith;
      some = omega arith;
      few = omega arith;
      sound = sound c (next-rest (when 1 (is_bad_length 10 2560 (length c))) (λ _. chart_verdict c) e);
    }
