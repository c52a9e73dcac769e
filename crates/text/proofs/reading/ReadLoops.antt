-- The loop that reads a text: its frames from the last one down.
use Rattle.std.proofs.Common.{if◌then◌else◌, ◌≡◌, ◌∙◌, ap, List, ◌++◌, ℕ, suc, ◌-◌, ◌*◌, ◌≤◌, ◌<◌, arith, length, flat_map}
use Rattle.std.proofs.Math.Nat.{sub-zero}
use Rattle.words.specs.lists.Numbers.{range, lowest}
use Rattle.words.specs.lists.Sequences.{written}
use Rattle.words.proofs.lists.Searches.{lowest-over, lowest-below}
use Rattle.words.proofs.lists.Joins.{concat-cons}
use Rattle.words.proofs.lists.Written.{written-none, written-front, written-before}
use Rattle.text.specs.frames.Check.{has_bad_form, has_bad_sum}
use Rattle.text.specs.inner.FrameReads.{stored_bytes, FrameRead}
use Rattle.text.specs.inner.Reads.{FramesRead}
use Rattle.text.specs.declared.frame_reading.Faults.{Faults}
use Rattle.std.proofs.lemmas.Grind.{common_steps}

stored-before : (t : List ℕ) (n f : ℕ) → 0 < f → f ≤ n
    → flat_map (stored_bytes t) (range (f - 1) (n - (f - 1))) ≡ stored_bytes t (f - 1) ++ flat_map (stored_bytes t) (range f (n - f))
stored-before t n f some low =
    let more : n - (f - 1) ≡ suc (n - f) = omega arith in
    grind (arith, common_steps, concat-cons)

-- the frames from f up to n are read
pub record Frames (t out₀ out : List ℕ) (n f bad wrong : ℕ) : Type 0 where
  pub low : f ≤ n
  pub form : bad ≡ lowest (has_bad_form t) f (n - f)
  pub sum : wrong ≡ lowest (has_bad_sum t) f (n - f)
  pub size : length out ≡ length out₀
  pub buffer : out ≡ written out₀ (10 * f) (flat_map (stored_bytes t) (range f (n - f)))

pub frames-none : (t out₀ : List ℕ) (n : ℕ) → Frames t out₀ out₀ n n n n
frames-none t out₀ n = grind (arith, common_steps, lowest-over, written-none)

module _ (t out₀ out : List ℕ) (n f bad wrong : ℕ) (done : Frames t out₀ out n f bad wrong) where
  pub frames-turn : (out' : List ℕ) (r : Faults) (bad' wrong' : ℕ) → 10 * n ≤ length out₀ → 0 < f
      → FrameRead t (f - 1) out r out' → length out' ≡ length out
      → bad' ≡ (if r.form then f - 1 else bad) → wrong' ≡ (if r.sum then f - 1 else wrong) → Frames t out₀ out' n (f - 1) bad' wrong'
  frames-turn out' r bad' wrong' room some read s x y = grind (arith, lowest-below, written-before, stored-before)

  module _ (h : f ≤ 0) where
    first : f ≡ 0
    first = omega arith

    whole : {A : Type 0} (g : ℕ → ℕ → A) → g f (n - f) ≡ g 0 n
    whole g = ap (λ (j : ℕ). g j (n - j)) first ∙ ap (g 0) (sub-zero n)

    pub frames-all : FramesRead t n out₀ (record { form = bad; sum = wrong }) out
    frames-all = grind (arith, common_steps, written-front out₀, whole)
