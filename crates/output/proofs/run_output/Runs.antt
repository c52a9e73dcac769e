-- The run program: the words it counts up to, and the cases of its answer.
use Rattle.std.proofs.Common.{ℕ, ◌+◌, ◌*◌, ◌≤◌, ◌<◌, ◌≡◌, refl, sym, ◌∙◌, ap, subst, List, ◌++◌, arith, length, take, set, length-take, flat_map}
use Rattle.std.proofs.Common.{length-append, replicate, Ok, Err}
use Rattle.std.proofs.lemmas.Grind.{common_steps}
use Rattle.words.specs.lists.Sequences.{over, written}
use Rattle.words.proofs.lists.Written.{written-front, written-more}
use Rattle.words.proofs.lists.Fills.{ValuesFrom, values-none, values-turn, values-all}
use Rattle.text.specs.frames.Answer.{Answer, reply_count, reply}
use Rattle.text.specs.declared.frames.refusals.Refusal.{Refusal}
use Rattle.text.specs.frames.Refusal.{number_of, index_of, ticks_of}
use Rattle.state.specs.declared.State.{State as Kept}
use Rattle.state.specs.State.{fresh_state}
use Rattle.state.specs.Kept.{view, stored}
use Rattle.state.proofs.Stored.{state-back}
use Rattle.runs.specs.Run.{run}
use Rattle.runs.proofs.RunCounts.{run-count}
use Rattle.output.specs.Lines.{code_line, refusal_line}
use Rattle.output.specs.Prints.{Prints}
use Rattle.output.proofs.output_lines.Printed.{codes-length, refusal-line-length}
use Rattle.output.specs.RunProgram.{program_words, run_lines, run_output}

-- ---- the words, as far as they are counted
abbrev pub CountedWords : List ℕ → ℕ → Type 0
CountedWords all i = ValuesFrom (λ k. k) (replicate 64 0) all 0 64 i

pub counted-none : CountedWords (replicate 64 0) 0
counted-none = values-none (λ k. k) (replicate 64 0) 0 64

module _ (all : List ℕ) (i : ℕ) (w : CountedWords all i) where
  pub counted-turn : i < 64 → CountedWords (set all i i) (i + 1)
  counted-turn h =
      let e : 0 + i ≡ i = omega arith in
      subst (λ (place : ℕ). CountedWords (set all place i) (i + 1)) e
      (values-turn (λ k. k) (replicate 64 0) 0 64 all i i (omega arith) w h refl)

  pub counted-all : 64 ≤ i → all ≡ program_words
  unfolding written
  counted-all h = values-all (λ k. k) (replicate 64 0) 0 64 all i w h

-- ---- what is printed
pub done-count : (a : Answer) (n : ℕ) → a ≡ Ok n → reply_count (reply a) ≡ n
done-count a n e = ap (λ (b : Answer). reply_count (reply b)) e

pub refused-count : (a : Answer) (r : Refusal) (n : ℕ) → a ≡ Err r → n ≡ ticks_of r → reply_count (reply a) ≡ n
refused-count a r n e t = ap (λ (b : Answer). reply_count (reply b)) e ∙ sym t

-- n ticks were finished, and their codes are there
module _ (a : Answer) (codes : List ℕ) (n : ℕ) (counts : reply_count (reply a) ≡ n)
    (ticked : reply_count (reply a) ≤ length codes) where
  pub finished-part : n ≡ length (take n codes)
  finished-part = simp length-take (omega (arith, ticked))

  taken-length : length (flat_map code_line (take n codes)) ≡ 3 * n
  taken-length = codes-length (take n codes) ∙ omega (arith, finished-part)

  pub codes-printed : (before after : List ℕ) → a ≡ Ok n → after ≡ written before 0 (flat_map code_line (take n codes))
      → Prints (run_lines (reply a) codes) (n * 3) before after
  codes-printed before after d w = grind (arith, common_steps, written-front, taken-length)

  pub stop-printed : (r : Refusal) (k i : ℕ) → length codes ≤ 64 → k ≡ number_of r → i ≡ index_of r → n ≡ ticks_of r
      → (before middle after : List ℕ) → a ≡ Err r → 215 ≤ length before
      → middle ≡ written before 0 (flat_map code_line (take n codes)) → after ≡ written middle (n * 3) (refusal_line k i)
      → Prints (run_lines (reply a) codes) (n * 3 + 23) before after
  stop-printed r k i few p q t before middle after d room m w =
      let x : List ℕ = flat_map code_line (take n codes) in
      let o : run_lines (reply a) codes ≡ x ++ refusal_line k i = ap (λ (b : Answer). run_lines (reply b) codes) d
      ∙ sym (λ j. flat_map code_line (take (t j) codes) ++ refusal_line (p j) (q j)) in
      record {
        counted = omega (arith, taken-length, refusal-line-length k i, length-append x (refusal_line k i), ap length o);
        written = written-more before 0 x (refusal_line k i) middle after (n * 3) (omega (arith, taken-length))
            (omega (arith, ticked, few)) m w
            ∙ written-front before (x ++ refusal_line k i) ∙ ap (λ (y : List ℕ). over y before) (sym o);
      }

-- the run of the program, as the machine was called
module _ (t ws : List ℕ) (s : Kept) (a : Answer) (codes : List ℕ) (same : ws ≡ program_words) (made : s ≡ stored (fresh_state 32).state)
    (answered : reply a ≡ (run t (view s) ws (replicate 64 0) (replicate 64 0)).reply)
    (left : codes ≡ (run t (view s) ws (replicate 64 0) (replicate 64 0)).codes) where
  pub program-few : reply_count (reply a) ≤ 64
  program-few =
      omega (arith, ap reply_count answered, (run-count t (view s) ws (replicate 64 0) (replicate 64 0)).1, ap length same)

  fresh : view s ≡ (fresh_state 32).state
  fresh = ap view made ∙ state-back (fresh_state 32).state

  pub output-is : run_lines (reply a) codes ≡ run_output t
  unfolding run_output
  output-is = rw (answered, left, same, fresh)
