-- A function of rows that only those of label l change has one value over all rows of the table and over those of label l.
use Rattle.std.proofs.Common.{ℕ, zero, suc, ◌+◌, ◌-◌, ◌≤◌, ◌<◌, ◌≡◌, refl, ◌∙◌, ap, List, [], ◌++◌, arith, flat_map}
use Rattle.std.proofs.Math.Decide.{ℕ_discrete}
use Rattle.words.specs.lists.Numbers.{range}
use Rattle.words.proofs.lists.Joins.{concat-cons}
use Rattle.image.specs.Image.{Row}
use Rattle.image.specs.Decode.{last_label}
use Rattle.tables.specs.Table.{rows_on, table_image}

module _ {A : Type 0} (b : List ℕ) (l : ℕ) (of : List Row → A)
    (first : (m : ℕ) → (m ≡ l → ⊥) → (rs : List Row) → of (rows_on b m ++ rs) ≡ of rs)
    (last : (xs ys : List Row) → of ys ≡ of [] → of (xs ++ ys) ≡ of xs) where
  -- the rows of n labels from i on
  abbrev over : ℕ → ℕ → List Row
  over i n = flat_map (rows_on b) (range i n)

  over-other : (i n : ℕ) → (i ≡ l → ⊥) → of (over i (suc n)) ≡ of (over (suc i) n)
  over-other i n h = ap of (concat-cons (rows_on b) i (range (suc i) n)) ∙ first i h (over (suc i) n)

  over-none : (i n : ℕ) → ((m : ℕ) → i ≤ m → m < i + n → m ≡ l → ⊥) → of (over i n) ≡ of []
  over-none i zero h = refl
  over-none i (suc n) h =
      over-other i n (h i (omega arith) (omega arith)) ∙ over-none (suc i) n (λ m p q. h m (omega arith) (omega arith))

  over-own : (i n : ℕ) → i ≤ l → l < i + n → of (over i n) ≡ of (rows_on b l)
  over-own i zero p q = absurd (omega arith)
  over-own i (suc n) p q = go (ℕ_discrete i l) (over-own (suc i) n)
    where
      go : Dec (i ≡ l) → (suc i ≤ l → l < suc i + n → of (over (suc i) n) ≡ of (rows_on b l)) → of (over i (suc n)) ≡ of (rows_on b l)
      go (yes e) ih =
          ap of (concat-cons (rows_on b) i (range (suc i) n))
          ∙ last (rows_on b i) (over (suc i) n) (over-none (suc i) n (λ m u v z. omega arith)) ∙ ap (λ (m : ℕ). of (rows_on b m)) e
      go (no e) ih = over-other i n e ∙ ih (omega arith) (omega arith)

  pub own-alone : 2 ≤ l → l ≤ last_label b → of (table_image b).rows ≡ of (rows_on b l)
  unfolding table_image
  own-alone h g = over-own 2 (last_label b - 1) h (omega arith)
