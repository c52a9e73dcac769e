-- The translator's program: the longest image has room, so that 16 is never met, and the cases of the answer.
use Rattle.std.proofs.Common.{ℕ, ◌≤◌, ◌≡◌, sym, ◌∙◌, ap, List, arith, length, Ok, Err}
use Rattle.std.proofs.lemmas.Grind.{common_steps}
use Rattle.words.specs.lists.Sequences.{over, written}
use Rattle.words.proofs.lists.Written.{written-front}
use Rattle.text.specs.frames.Frame.{contents}
use Rattle.text.specs.frames.Verdict.{fine}
use Rattle.text.specs.frames.Check.{text_verdict}
use Rattle.text.specs.frames.Answer.{Answer, reply}
use Rattle.text.specs.declared.frames.refusals.Refusal.{Refusal}
use Rattle.text.specs.frames.Refusal.{number_of, index_of}
use Rattle.text.proofs.frames.Verdicts.{next-first}
use Rattle.text.proofs.frames.Lent.{lent-fits}
use Rattle.walk.proofs.FactsHold.{facts}
use Rattle.image.specs.Image.{image_text}
use Rattle.image.specs.Check.{table_verdict, image_verdict}
use Rattle.translator.specs.Table.{table}
use Rattle.translator.specs.Entry.{translate_verdict, translate}
use Rattle.translator.proofs.SoundTable.{table-fine}
use Rattle.translator.proofs.Translated.{translated-read, translated-few}
use Rattle.output.specs.Lines.{refusal_line}
use Rattle.output.specs.Prints.{Prints}
use Rattle.output.proofs.output_lines.Printed.{refusal-line-length}
use Rattle.output.specs.TranslateProgram.{translate_output}

-- an accepted text is no longer than the most
accepted-length : (most : ℕ) (t : List ℕ) → text_verdict most t ≡ fine → length t ≤ most
unfolding text_verdict
accepted-length most t e = grind (arith, common_steps)

pub image-fits : (t : List ℕ) → translate_verdict t ≡ fine → length (image_text (table (contents t))) ≤ 29831
unfolding image_verdict
image-fits t ok =
    let x : List ℕ = image_text (table (contents t)) in
    accepted-length 29831 x
    (next-first (text_verdict 29831 x) (λ _. table_verdict (contents x))
    (table-fine (contents t) (facts t (translated-read t ok)) (translated-few t ok)))

-- ---- what the translator answered tells what is to be printed
module _ (t old : List ℕ) (a : Answer) (e : reply a ≡ (translate t old).reply) where
  pub image-printed : (n : ℕ) (after : List ℕ) → a ≡ Ok n → after ≡ (translate t old).buffer → Prints (translate_output t) n old after
  unfolding translate translate_output
  image-printed n after d b = grind (arith, common_steps)

  -- the frame of the refusal is all that is printed, and the buffer is as it was before it
  pub refusal-told : (r : Refusal) → a ≡ Err r → 29831 ≤ length old → (k i : ℕ) → k ≡ number_of r → i ≡ index_of r
      → (translate_output t ≡ refusal_line k i) × ((translate t old).buffer ≡ old)
  unfolding translate translate_output
  refusal-told r d room k i p q = grind (arith, common_steps, lent-fits, image-fits)

  pub refusal-printed : (r : Refusal) → a ≡ Err r → 29831 ≤ length old → (k i : ℕ) → k ≡ number_of r → i ≡ index_of r
      → (middle after : List ℕ) → middle ≡ (translate t old).buffer → after ≡ written middle 0 (refusal_line k i)
      → Prints (translate_output t) 23 old after
  refusal-printed r d room k i p q middle after m w =
      let told : (translate_output t ≡ refusal_line k i) × ((translate t old).buffer ≡ old) = refusal-told r d room k i p q in
      record {
        counted = omega (arith, refusal-line-length k i, ap length told.0);
        written = w ∙ ap (λ (o : List ℕ). written o 0 (refusal_line k i)) (m ∙ told.1) ∙ written-front old (refusal_line k i)
            ∙ ap (λ (y : List ℕ). over y old) (sym told.0);
      }
