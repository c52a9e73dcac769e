-- A buffer after one write for each label: loops that make one, and the classes that are kept by the marks.
use Rattle.std.proofs.Common.{if◌then◌else◌, ℕ, zero, suc, ◌+◌, ◌≤◌, ◌<◌, ◌≡◌, refl, sym, ◌∙◌, inl, inr, Bool, List, add-one, ◌==◌, slice_index}
use Rattle.std.proofs.Common.{arith, length, set, eqb-true}
use Rattle.std.proofs.lemmas.Grind.{common_steps}
use Rattle.grouping.specs.inner.GroupingContracts.{KeptClasses}
use Rattle.std.specs.List.{list_any, range_with_len}
use Rattle.words.proofs.lists.Tests.{cases}
use Rattle.grouping.specs.inner.Parts.{labelled, mark_of, mark_others, mark_left, is_led_away, PartsMarked}
use Rattle.std.proofs.lemmas.Bool.Decides.{nat_tests}

-- after labels 0 to l - 1 of n
pub record Labelling (place : ℕ → ℕ) (value : ℕ → List ℕ → ℕ) (xs₀ : List ℕ) (n : ℕ) (xs : List ℕ) (l : ℕ) : Type 0 where
  pub low : l ≤ n
  pub long : length xs ≡ length xs₀
  pub is : xs ≡ labelled place value l xs₀

module _ (place : ℕ → ℕ) (value : ℕ → List ℕ → ℕ) (xs₀ : List ℕ) (n : ℕ) where
  pub labelling-none : Labelling place value xs₀ n xs₀ 0
  unfolding labelled
  labelling-none = record { low = omega arith; long = refl; is = refl }

  pub labelling-turn : (xs : List ℕ) (l k v : ℕ) → Labelling place value xs₀ n xs l → l < n → k ≡ place l → v ≡ value l xs
      → Labelling place value xs₀ n (set xs k v) (l + 1)
  unfolding labelled
  labelling-turn xs l k v t h p e = grind (arith, common_steps)

-- ---- the marks
-- the labels with a mark below 2 are in the class that is kept for them
record KeptBy (n : ℕ) (keeps : ℕ → ℕ) (c marks : List ℕ) : Type 0 where
  pub long : length marks ≡ 256
  pub one : (l : ℕ) → l < n → slice_index marks l < 2 → slice_index c l ≡ keeps l

module _ (keeps : ℕ → ℕ) (c marks₀ : List ℕ) (h : length marks₀ ≡ 256) where
  kept-of : (t : Bool) (part k : ℕ) → (part == k) ≡ t → (if t then 0 else 2) < 2 → part ≡ k
  kept-of t part k e l = grind (arith, nat_tests, eqb-true)

  kept-on : (marks : List ℕ) (l v : ℕ) → KeptBy l keeps c marks → l < 256 → (v < 2 → slice_index c l ≡ keeps l)
      → KeptBy (l + 1) keeps c (set marks l v)
  kept-on marks l v K g e = grind (arith, common_steps)

  kept-marks : (n : ℕ) → n ≤ 256 → KeptBy n keeps c (labelled (λ l. l) (λ l _. mark_of (slice_index c l) (keeps l)) n marks₀)
  unfolding labelled
  kept-marks zero l = record { long = h; one = λ m z. absurd (omega arith) }
  kept-marks (suc n) l = grind (arith, common_steps, kept-marks n (omega arith), kept-on, add-one, kept-of)

module _ (n : ℕ) (former c marks : List ℕ) (keeps : ℕ → ℕ)
    (same : (l m : ℕ) → slice_index former l ≡ slice_index former m → keeps l ≡ keeps m) where
  kept-classes : KeptBy n keeps c marks → KeptClasses n former c marks
  kept-classes K = record { long = K.long; one = λ l m a b e p q. K.one l a p ∙ same l m e ∙ sym (K.one m b q) }

-- ---- what mark_parts leaves
module _ {classes next marks₀ counts₀ kept₀ : List ℕ} {n : ℕ} {marks counts kept : List ℕ}
    (p : PartsMarked classes next marks₀ counts₀ kept₀ n marks counts kept) (h : length marks₀ ≡ 256) (l : n ≤ 256) where
  by-left : marks ≡ mark_left classes next n marks₀ → KeptClasses n classes next marks
  by-left e = grind (arith, kept-classes, kept-marks (λ l. slice_index classes l) next marks₀ h n l)

  by-kept : marks ≡ mark_others classes next kept n marks₀ → KeptClasses n classes next marks
  by-kept e = grind (arith, kept-classes, kept-marks (λ l. slice_index kept (slice_index classes l)) next marks₀ h n l)

  pub parts-kept : KeptClasses n classes next marks
  parts-kept = elim (cases (list_any (is_led_away classes next) (range_with_len 0 n))) [
    | inl e ↦ by-kept (p.together e).others
    | inr e ↦ by-left (p.alone e)
  ]
