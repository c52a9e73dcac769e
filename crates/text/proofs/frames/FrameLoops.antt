-- The loop that writes a frame: its sum and its characters.
use Rattle.std.proofs.Common.{◌≡◌, refl, sym, ◌∙◌, ap, List, [], ◌∷◌, ◌++◌, append_assoc, ℕ, ◌+◌, ◌-◌, ◌*◌, ◌%◌, ◌≤◌, ◌<◌, arith, length, slice_index, flat_map}
use Rattle.std.proofs.Common.{set, length-append}
use Rattle.std.proofs.lemmas.Grind.{common_steps}
use Rattle.words.specs.lists.Numbers.{sum, range}
use Rattle.words.specs.lists.Sequences.{written}
use Rattle.words.proofs.lists.Searches.{sum-turn}
use Rattle.words.proofs.lists.Joins.{concat-places, length-concat, all-every}
use Rattle.words.proofs.lists.Written.{written-one, written-more, written-snoc}
use Rattle.words.proofs.lists.Fills.{Pieces, pieces-none, pieces-turn, pieces-all}
use Rattle.text.specs.frames.Frame.{byte_text, total, sum_byte, frame_text}
use Rattle.text.proofs.frames.Frames.{sum-places}
use Rattle.text.proofs.digits.Digits.{pair-first, pair-second}

pub length-frame : (bs : List ℕ) → length bs ≡ 10 → length (frame_text bs) ≡ 23
unfolding frame_text
length-frame bs e =
    let l : length (flat_map byte_text bs) ≡ 2 * length bs = grind (arith, common_steps, length-concat, all-every) in
    simp length-append (omega arith)

-- two characters, one after the other
pub two-put : (out : List ℕ) (at x y a b : ℕ) → at + 2 ≤ length out → x ≡ a → y ≡ b
    → set (set out at x) (at + 1) y ≡ written out at (a ∷ b ∷ [])
two-put out at x y a b room p q = grind (arith, common_steps, written-one, written-snoc)

-- after k bytes of ten
pub record Digits (out₀ bs out : List ℕ) (at s k : ℕ) : Type 0 where
  pub small : s ≤ k * 255
  pub added : s ≡ sum (λ i. slice_index bs i) 0 k
  pub pieces : Pieces (λ i. byte_text (slice_index bs i)) 2 out₀ out at 10 k

pub digits-none : (out₀ bs : List ℕ) (at : ℕ) → Digits out₀ bs out₀ at 0 0
unfolding sum
digits-none out₀ bs at = record { small = omega arith; added = refl; pieces = pieces-none _ _ _ _ _ }

module _ (out₀ bs out out' : List ℕ) (at s k : ℕ) (room : at + 23 ≤ length out₀) (d : Digits out₀ bs out at s k) where
  pub digits-turn : k < 10 → slice_index bs k < 256 → length out' ≡ length out → out' ≡ written out (at + k * 2) (byte_text (slice_index bs k))
      → Digits out₀ bs out' at (s + slice_index bs k) (k + 1)
  digits-turn h byte n e = record {
    small = omega arith;
    added = sum-turn (λ i. slice_index bs i) s k (slice_index bs k) d.added refl;
    pieces = grind (arith, common_steps, pieces-turn (λ i. byte_text (slice_index bs i)) 2 out₀ at 10 (λ k. refl) out out' k);
  }

  pub digits-end : length bs ≡ 10 → 10 ≤ k → out' ≡ written out (at + 20) (byte_text ((256 - s % 256) % 256))
      → set out' (at + 22) 10 ≡ written out₀ at (frame_text bs)
  unfolding frame_text
  digits-end ten h e =
      let k10 : k ≡ length bs = omega (arith, d.pieces.low) in
      let t : s ≡ total bs = grind (arith, common_steps, sum-places) in
      let b : out ≡ written out₀ at (flat_map byte_text bs) =
      pieces-all (λ i. byte_text (slice_index bs i)) 2 out₀ at 10 out k d.pieces h
      ∙ ap (λ (n : ℕ). written out₀ at (flat_map (λ i. byte_text (slice_index bs i)) (range 0 n))) (sym ten)
      ∙ ap (written out₀ at) (concat-places (λ i. byte_text (slice_index bs i)) byte_text 0 bs 0
      (λ i l. ap (λ (j : ℕ). byte_text (slice_index bs j)) (omega arith))) in
      let vs : List ℕ = flat_map byte_text bs ++ byte_text (sum_byte bs) in
      let l : length (flat_map byte_text bs) ≡ 2 * length bs = grind (arith, common_steps, length-concat, all-every) in
      let n : length vs ≡ 22 = simp length-append (omega arith) in
      let e' : out' ≡ written out (at + 20) (byte_text (sum_byte bs)) = rw t at e in
      let all : out' ≡ written out₀ at vs = grind (arith, common_steps, written-more) in
      let place : at + 22 ≡ at + length vs = omega arith in
      grind (arith, common_steps, append_assoc, written-snoc)

pub ruleset two_written = (pair-first, pair-second, two-put)
