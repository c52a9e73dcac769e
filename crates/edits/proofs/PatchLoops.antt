-- The loop over edits: those left are made on the bytes as they are now.
use Rattle.std.proofs.Common.{◌≡◌, refl, sym, ◌∙◌, ap, List, [], ◌∷◌, ℕ, suc, ◌+◌, ◌≤◌, ◌<◌, add-one, arith, length, set, drop, slice_index}
use Rattle.std.proofs.Common.{length-set, length-drop, drop-cons}
use Rattle.std.proofs.Math.Seq.{set_out}
use Rattle.edits.specs.inner.Patch.{patched_bytes}

pub record Patching (bytes₀ edits bytes : List ℕ) (i : ℕ) : Type 0 where
  pub inside : i ≤ length edits
  pub size : length bytes ≡ length bytes₀
  pub left : patched_bytes bytes (drop i edits) ≡ patched_bytes bytes₀ edits

pub patching-none : (bytes edits : List ℕ) → Patching bytes edits bytes 0
patching-none bytes edits = record { inside = omega arith; size = refl; left = refl }

drop-two : (xs : List ℕ) (i : ℕ) → i + 1 < length xs → drop i xs ≡ slice_index xs i ∷ slice_index xs (i + 1) ∷ drop (i + 2) xs
drop-two xs i h =
    let next : i + 2 ≡ suc (i + 1) = omega arith in
    rw (next, drop-cons xs i 0 (omega arith)) (ap (λ (ys : List ℕ). slice_index xs i ∷ ys) (rw (← add-one i) (drop-cons xs (i + 1) 0 h)))

one-left : (bytes xs : List ℕ) → length xs ≤ 1 → bytes ≡ patched_bytes bytes xs
unfolding patched_bytes
one-left bytes [] h = refl
one-left bytes (x ∷ []) h = refl
one-left bytes (x ∷ y ∷ xs) h = absurd (omega arith)

module _ (bytes₀ edits bytes : List ℕ) (i : ℕ) (done : Patching bytes₀ edits bytes i) where
  module _ (h : i + 1 < length edits) where
    pub patching-turn : Patching bytes₀ edits (set bytes (slice_index edits i) (slice_index edits (i + 1))) (i + 2)
    unfolding patched_bytes
    patching-turn = record {
      inside = omega arith;
      size = length-set bytes (slice_index edits i) (slice_index edits (i + 1)) ∙ done.size;
      left = sym (ap (patched_bytes bytes) (drop-two edits i h)) ∙ done.left;
    }

    -- an edit past the end
    pub patching-past : length bytes ≤ slice_index edits i → Patching bytes₀ edits bytes (i + 2)
    patching-past out =
        let same : set bytes (slice_index edits i) (slice_index edits (i + 1)) ≡ bytes =
        set_out bytes (slice_index edits i) (slice_index edits (i + 1)) out in
        rw same at patching-turn

  pub patching-end : length edits ≤ i + 1 → bytes ≡ patched_bytes bytes₀ edits
  patching-end h = one-left bytes (drop i edits) (simp length-drop (omega arith)) ∙ done.left
