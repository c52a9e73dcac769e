-- Lines in a lent buffer: how long they are, the loop that puts the codes there, and what a caller may hand on.
use Rattle.std.proofs.Common.{ℕ, ◌+◌, ◌*◌, ◌≤◌, ◌<◌, ◌≡◌, refl, ◌∙◌, ap, subst, List, arith, length, slice_index, flat_map}
use Rattle.words.specs.lists.Sequences.{written}
use Rattle.words.proofs.lists.Joins.{concat-places, length-concat, all-every}
use Rattle.words.proofs.lists.Fills.{Pieces, pieces-turn, pieces-all}
use Rattle.text.specs.frames.Frame.{frame_text}
use Rattle.output.specs.Lines.{code_line, refusal_line}
use Rattle.output.specs.Prints.{Prints}

pub code-line-length : (x : ℕ) → length (code_line x) ≡ 3
unfolding code_line
code-line-length x = refl

pub refusal-line-length : (k i : ℕ) → length (refusal_line k i) ≡ 23
unfolding refusal_line frame_text
refusal-line-length k i = refl

pub codes-length : (codes : List ℕ) → length (flat_map code_line codes) ≡ 3 * length codes
codes-length codes = length-concat code_line 3 codes (all-every (λ x. length (code_line x) ≡ 3) code-line-length codes)

-- ---- the loop over the codes
abbrev pub line_at : List ℕ → ℕ → List ℕ
line_at codes k = code_line (slice_index codes k)

module _ (codes out₀ out : List ℕ) (i : ℕ) (w : Pieces (line_at codes) 3 out₀ out 0 (length codes) i) where
  pub codes-turn : (out' line : List ℕ) → i < length codes → i * 3 ≤ length out₀
      → length out' ≡ length out → line ≡ code_line (slice_index codes i)
      → out' ≡ written out (i * 3) line → Pieces (line_at codes) 3 out₀ out' 0 (length codes) (i + 1)
  codes-turn out' line h room s l e =
      pieces-turn (line_at codes) 3 out₀ 0 (length codes) (λ k. code-line-length (slice_index codes k))
      out out' i (i * 3) w h (omega arith) room s
      (e ∙ ap (written out (i * 3)) l)

  pub codes-end : length codes ≤ i → out ≡ written out₀ 0 (flat_map code_line codes)
  codes-end h =
      pieces-all (line_at codes) 3 out₀ 0 (length codes) out i w h
      ∙ ap (written out₀ 0) (concat-places (line_at codes) code_line 0 codes 0 (λ k l. ap (line_at codes) (omega arith)))

pub printed-as : (x y : List ℕ) (n : ℕ) (before after : List ℕ) → x ≡ y → Prints x n before after → Prints y n before after
printed-as x y n before after e p = subst (λ z. Prints z n before after) e p
