-- What success of the translator tells: the chart was accepted, its rows are few, and the buffer holds the text of its table.
use Rattle.std.proofs.Common.{ℕ, ◌≤◌, ◌≡◌, sym, ◌∙◌, ap, List, arith, length, take, length-take, ltb-false, Ok, nat_lt}
use Rattle.std.proofs.lemmas.Grind.{common_steps}
use Rattle.text.specs.frames.Frame.{contents}
use Rattle.text.specs.frames.Verdict.{fine, when}
use Rattle.text.specs.frames.Answer.{Answer, success, reply}
use Rattle.text.proofs.frames.Verdicts.{next-first, next-rest, when-fine}
use Rattle.text.proofs.frames.Lent.{Success, lent-told, front}
use Rattle.charts.specs.Entry.{read_verdict}
use Rattle.image.specs.Image.{image_text}
use Rattle.chart_rows.specs.Rows.{rows}
use Rattle.translator.specs.Table.{table}
use Rattle.translator.specs.Entry.{translate_verdict, translate}

module _ (t : List ℕ) (ok : translate_verdict t ≡ fine) where
  pub translated-read : read_verdict t ≡ fine
  unfolding translate_verdict
  translated-read = next-first (read_verdict t) (λ _. when 10 (nat_lt 1024 (length (rows (contents t))))) ok

  pub translated-few : length (rows (contents t)) ≤ 1024
  unfolding translate_verdict
  translated-few = grind (arith, common_steps, ltb-false, next-rest, when-fine)

-- n characters were written
module _ (t out : List ℕ) (n : ℕ) (done : (translate t out).reply ≡ success n) where
  translate-told : Success (translate_verdict t) 1 (image_text (table (contents t))) out n (translate t out)
  unfolding translate
  translate-told = lent-told (translate_verdict t) 1 (λ _. image_text (table (contents t))) out n done

  pub translated-fine : translate_verdict t ≡ fine
  translated-fine = translate-told.accepted

  pub translated-image : take n (translate t out).buffer ≡ image_text (table (contents t))
  translated-image = grind (arith, common_steps, front, translate-told)

-- an answer's count is no more than the buffer has
pub done-room : (t out : List ℕ) (a : Answer) (n : ℕ) → reply a ≡ (translate t out).reply → a ≡ Ok n → n ≤ length out
done-room t out a n e d =
    let s : Success (translate_verdict t) 1 (image_text (table (contents t))) out n (translate t out) =
    translate-told t out n (sym e ∙ ap reply d) in
    omega (arith, s.count, s.fits)

-- that many characters of it can be handed on
module _ (t out held : List ℕ) (a : Answer) (n : ℕ) (e : reply a ≡ (translate t out).reply)
    (d : a ≡ Ok n) (k : length held ≡ length out) where
  pub done-fits : n ≤ length held
  done-fits = omega (arith, done-room t out a n e d)

  pub done-part : n ≡ length (take n held)
  done-part = simp length-take (omega (arith, done-room t out a n e d))
