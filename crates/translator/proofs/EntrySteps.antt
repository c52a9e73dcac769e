-- The translator's returns: what the reader's answer tells of the chart, and the answer and the buffer at each return.
use Rattle.std.proofs.Common.{◌≡◌, refl, ◌∙◌, ap, subst, List, ℕ, ◌*◌, ◌≤◌, arith, length, take, replicate, Ok, Err}
use Rattle.std.proofs.lemmas.Grind.{common_steps}
use Rattle.text.specs.frames.Frame.{contents}
use Rattle.text.specs.frames.Verdict.{Verdict, fine, refused}
use Rattle.text.specs.frames.Answer.{Answer, refusal, BufferOutcome, GivesBuffer, buffer_on}
use Rattle.text.specs.declared.frames.refusals.Refusal.{Refusal}
use Rattle.text.specs.frames.Refusal.{number_of, index_of, ticks_of}
use Rattle.text.proofs.frames.Chains.{next-refused, next-on}
use Rattle.text.proofs.frames.Verdicts.{next-rest}
use Rattle.text.proofs.frames.Lent.{lent-fits, lent-told, lent-err, front}
use Rattle.charts.specs.Entry.{read_verdict, read_chart}
use Rattle.charts.proofs.Accepted.{Accepted, accepted, accepted-bytes}
use Rattle.translator.specs.Entry.{translate_verdict, translate}
use Rattle.chart_rows.specs.inner.ChartContracts.{Ready}
use Rattle.translator.specs.inner.ImageBytes.{image_outcome}

-- a refusal with room for all of it is the verdict's, and counts 0
lent-no : (v : Verdict) (unit : ℕ) (new : Unit {0} → List ℕ) (old : List ℕ) (k i m : ℕ) → (v ≡ fine → length (new tt) ≤ length old)
    → (buffer_on v unit new old).reply ≡ refusal k i m → (v ≡ refused k i) × (m ≡ 0)
lent-no (refused k' i') unit new old k i m h e = grind (arith, common_steps)
lent-no fine unit new old k i m h e = grind (arith, common_steps, lent-fits)

chart-room : (t zeros : List ℕ) → 2560 ≤ length zeros → read_verdict t ≡ fine → length (contents t) ≤ length zeros
chart-room t zeros h ok = let a : Accepted (contents t) = accepted t ok in omega (arith, a.whole, a.few)

-- a chart that was accepted and stands at the front of the table
pub record Read (t held : List ℕ) (n : ℕ) : Type 0 where
  pub accepted : read_verdict t ≡ fine
  pub few : n ≤ 256
  pub chart : take (10 * n) held ≡ contents t
  pub long : length (contents t) ≡ 10 * n

-- the reader was lent a buffer of zeros with room for any chart
module _ (t zeros : List ℕ) {held : List ℕ} {a : Answer} (told : GivesBuffer (read_chart t zeros) a held) where
  -- a refusal of the reader is its verdict's, since there is room, and counts 0
  pub read-no : 2560 ≤ length zeros → {r : Refusal} → a ≡ Err r → (read_verdict t ≡ refused (number_of r) (index_of r)) × (ticks_of r ≡ 0)
  unfolding read_chart
  read-no room q = grind (arith, common_steps, lent-no, chart-room, told.answered)

  -- and the translator's
  pub read-refused : 2560 ≤ length zeros → (out : List ℕ) {r : Refusal} → a ≡ Err r → GivesBuffer (translate t out) a out
  unfolding translate translate_verdict
  read-refused room out q = grind (arith, common_steps, next-refused, lent-err, read-no)

  -- else the chart was accepted and stands at the front of the table
  pub read-told : {n : ℕ} → a ≡ Ok n → Read t held n
  unfolding read_chart
  read-told d = grind (arith, common_steps, front, lent-told, accepted, told.answered, told.written)

module _ {t held : List ℕ} {n : ℕ} (r : Read t held n) where
  pub read-long : length (take (10 * n) held) ≡ 10 * n
  read-long = ap (λ (x : List ℕ). length x) r.chart ∙ r.long

  pub read-ready : Ready (take (10 * n) held)
  unfolding read_verdict
  read-ready = grind (arith, common_steps, next-rest, accepted, accepted-bytes)

  same : (out : List ℕ) → image_outcome (take (10 * n) held) out ≡ translate t out
  unfolding translate translate_verdict
  same out = grind (arith, common_steps, next-on, accepted)

  pub translated : (out : List ℕ) {out' : List ℕ} {a : Answer} → GivesBuffer (image_outcome (take (10 * n) held) out) a out'
      → GivesBuffer (translate t out) a out'
  translated out {out'} {a} lends = subst (λ (x : BufferOutcome). GivesBuffer x a out') (same out) lends

pub zeros-long : 2560 ≤ length (replicate {A = ℕ} 2560 0)
zeros-long = let n : length (replicate {A = ℕ} 2560 0) ≡ 2560 = refl in omega arith
