-- Laws of the choice among rows: one row more in front, the better of three, lists joined, numbers counted from another start, and rows
-- that no bit decides.
use Rattle.std.proofs.Common.{if◌then◌else◌, ℕ, suc, ◌+◌, ◌≤◌, ◌<◌, Bool, true, false, ◌≡◌, refl, sym, ◌∙◌, ap, ap₂, List, [], ◌∷◌, ◌++◌, slice_index_or}
use Rattle.std.proofs.Common.{add-zero, arith, length, lt-ltb, le-ltb}
use lib.Count.{ones}
use Rattle.std.proofs.lemmas.Grind.{common_steps}
use Rattle.image.specs.Image.{Row, no_row}
use Rattle.rows.specs.Rows.{is_candidate, Choice, row, no_choice, better_choice, best_row, lead_of}

-- ---- no row, and one row more in front
pub best-nothing : (l w b k : ℕ) → best_row l w b k [] ≡ no_choice
unfolding best_row
best-nothing l w b k = refl

module _ (l w b k : ℕ) (r : Row) (rs : List Row) where
  pub best-cons : best_row l w b k (r ∷ rs) ≡ better_choice (if is_candidate l w b r then row k r else no_choice)
      (best_row l w b (suc k) rs)
  unfolding best_row
  best-cons = refl

  pub best-own : is_candidate l w b r ≡ true → best_row l w b k (r ∷ rs) ≡ better_choice (row k r) (best_row l w b (suc k) rs)
  best-own e = best-cons ∙ ap (λ (t : Bool). better_choice (if t then row k r else no_choice) (best_row l w b (suc k) rs)) e

  pub best-other : is_candidate l w b r ≡ false → best_row l w b k (r ∷ rs) ≡ best_row l w b (suc k) rs
  best-other e = best-cons ∙ ap (λ (t : Bool). better_choice (if t then row k r else no_choice) (best_row l w b (suc k) rs)) e

-- ---- the better of two, and of three
pub better-none : (x : Choice) → better_choice x no_choice ≡ x
better-none no_choice = refl
better-none (row k r) = refl

-- how many ones the care mask of the row chosen has
abbrev pub weight : Choice → ℕ
weight no_choice = 0
weight (row k r) = ones r.care

pub better-second : (x : Choice) (j : ℕ) (q : Row) → weight x ≤ ones q.care → better_choice x (row j q) ≡ row j q
better-second no_choice j q h = refl
better-second (row k r) j q h = ap (λ (t : Bool). if t then row k r else row j q) (le-ltb (ones q.care) (ones r.care) h)

pub better-first : (x : Choice) (j : ℕ) (q : Row) → ones q.care < weight x → better_choice x (row j q) ≡ x
better-first no_choice j q h = absurd (omega arith)
better-first (row k r) j q h = ap (λ (t : Bool). if t then row k r else row j q) (lt-ltb (ones q.care) (ones r.care) h)

pub better-three : (x y z : Choice) → better_choice x (better_choice y z) ≡ better_choice (better_choice x y) z
better-three no_choice y z = grind (arith, common_steps)
better-three (row k r) no_choice z = grind (arith, common_steps)
better-three (row k r) (row j q) no_choice = grind (arith, common_steps)
better-three (row k r) (row j q) (row m p) = grind (arith, common_steps)

-- ---- two lists joined
pub best-joined : (l w b k : ℕ) (xs ys : List Row)
    → best_row l w b k (xs ++ ys) ≡ better_choice (best_row l w b k xs) (best_row l w b (k + length xs) ys)
best-joined l w b k [] ys = grind (arith, common_steps, add-zero, best-nothing)
best-joined l w b k (x ∷ xs) ys = grind (arith, common_steps, best-joined l w b (suc k) xs ys, best-cons, better-three)

-- ---- numbers counted from n on
abbrev pub moved_by : ℕ → Choice → Choice
moved_by n no_choice = no_choice
moved_by n (row k r) = row (n + k) r

better-moved : (n : ℕ) (x y : Choice) → better_choice (moved_by n x) (moved_by n y) ≡ moved_by n (better_choice x y)
better-moved n no_choice y = grind (arith, common_steps)
better-moved n (row k r) no_choice = grind (arith, common_steps)
better-moved n (row k r) (row j q) = grind (arith, common_steps)

pub best-moved : (l w b n k : ℕ) (rs : List Row) → best_row l w b (n + k) rs ≡ moved_by n (best_row l w b k rs)
best-moved l w b n k [] = grind (arith, common_steps, best-nothing)
best-moved l w b n k (r ∷ rs) = grind (arith, common_steps, best-moved l w b n (suc k) rs, best-cons, better-moved)

pub leads-moved : (n : ℕ) (x : Choice) → lead_of (moved_by n x) ≡ lead_of x
leads-moved n no_choice = refl
leads-moved n (row k r) = refl

-- ---- rows that no bit decides
same-test : (l w p q : ℕ) (r : Row) → (r.from ≡ l → r.bit ≡ 2) → is_candidate l w p r ≡ is_candidate l w q r
same-test l w p q r h = grind (arith, common_steps)

pub any-bit : (l w p q k : ℕ) (rs : List Row)
    → ((j : ℕ) → j < length rs → (slice_index_or rs j no_row).from ≡ l → (slice_index_or rs j no_row).bit ≡ 2) → best_row l w p k rs ≡ best_row l w q k rs
any-bit l w p q k [] h = best-nothing l w p k ∙ sym (best-nothing l w q k)
any-bit l w p q k (r ∷ rs) h =
    best-cons l w p k r rs
    ∙ ap₂ (λ (t : Bool) (x : Choice). better_choice (if t then row k r else no_choice) x) (same-test l w p q r (h 0 (omega arith)))
    (any-bit l w p q (suc k) rs (λ j m. h (suc j) (omega arith)))
    ∙ sym (best-cons l w q k r rs)
