-- Whether rows part two labels, by the frames of a table: each label's rows stand in frames of its own.
use Rattle.std.proofs.Common.{ℕ, zero, suc, ◌-◌, ◌≤◌, ◌<◌, Bool, false, ◌≡◌, refl, sym, ◌∙◌, List, [], ◌∷◌, ◌++◌}
use Rattle.std.proofs.Common.{map, arith, eq-eqb, ne_eqb}
use Rattle.std.proofs.lemmas.Grind.{common_steps}
use Rattle.words.specs.lists.Numbers.{range, any}
use Rattle.std.specs.List.{list_any}
use Rattle.words.proofs.lists.Tests.{or-none}
use Rattle.words.proofs.lists.Searches.{any-alike}
use Rattle.image.specs.Image.{Row}
use Rattle.image.specs.Decode.{last_label}
use Rattle.tables.specs.Table.{first_on, end_on, row_on, rows_on, table_image}
use Rattle.tables.proofs.OwnRows.{own-alone}
use Rattle.covering.proofs.Chains.{any-chain}
use Rattle.grouping.specs.Classes.{is_parting, is_parted}
use Rattle.grouping.specs.inner.GroupingContracts.{Even, is_parting_in, is_parting_any, is_parted_on}

-- ---- lists
some-range : {A : Type 0} (p : A → Bool) (f : ℕ → A) (a n : ℕ) → list_any p (map f (range a n)) ≡ any (λ k. p (f k)) a n
unfolding any
some-range p f a zero = refl
some-range p f a (suc n) = grind (arith, common_steps, some-range p f (suc a) n)

some-first : {A : Type 0} (p : A → Bool) (xs ys : List A) → list_any p xs ≡ false → list_any p (xs ++ ys) ≡ list_any p ys
some-first p xs ys e = grind (arith, common_steps)

some-last : {A : Type 0} (p : A → Bool) (xs ys : List A) → list_any p ys ≡ false → list_any p (xs ++ ys) ≡ list_any p xs
some-last p xs ys e = grind (arith, common_steps)

some-never : {A : Type 0} (p : A → Bool) (xs : List A) → ((x : A) → p x ≡ false) → list_any p xs ≡ false
some-never p [] h = refl
some-never p (x ∷ xs) h = grind (arith, common_steps, h x, some-never p xs h)

-- ---- a test that passes only rows of label l, over all rows of the table
module _ (b : List ℕ) (p : Row → Bool) (l : ℕ) (never : (m f : ℕ) → (m ≡ l → ⊥) → p (row_on b m f) ≡ false) where
  none-of : (m : ℕ) → (m ≡ l → ⊥) → (f n : ℕ) → list_any p (map (row_on b m) (range f n)) ≡ false
  none-of m h f zero = refl
  none-of m h f (suc n) = grind (arith, or-none, never m f h, none-of m h (suc f) n)

  pub some-own : 2 ≤ l → l ≤ last_label b → list_any p (table_image b).rows
      ≡ any (λ f. p (row_on b l f)) (first_on b l) (end_on b l - first_on b l)
  some-own u v =
      own-alone b l (list_any p) (λ m h rs. some-first p (rows_on b m) rs (none-of m h (first_on b m) (end_on b m - first_on b m)))
      (some-last p) u v
      ∙ some-range p (row_on b l) (first_on b l) (end_on b l - first_on b l)

-- ---- are_parted
first-only : (b c : List ℕ) (l m : ℕ) (r : Row) (k f : ℕ) → (k ≡ m → ⊥) → is_parting c l m r (row_on b k f) ≡ false
first-only b c l m r k f h = grind (arith, common_steps)

module _ (b c : List ℕ) (x : Even b) (l m : ℕ) (al : 2 ≤ l) (hl : l ≤ last_label b) (am : 2 ≤ m) (hm : m ≤ last_label b) where
  -- one row of each
  rows-part : (f g : ℕ) → first_on b l ≤ f → f < end_on b l → first_on b m ≤ g → g < end_on b m
      → is_parting c l m (row_on b l f) (row_on b m g) ≡ is_parting_in b c f g
  rows-part f g u v w z = grind (arith, eq-eqb)

  second-only : (k f : ℕ) → (k ≡ l → ⊥) → list_any (is_parting c l m (row_on b k f)) (table_image b).rows ≡ false
  second-only k f h = search (arith, ne_eqb, some-never)

  pub parted-is : is_parted (table_image b) c l m ≡ is_parted_on b c l m
  unfolding is_parted
  parted-is =
      some-own b (λ r. list_any (is_parting c l m r) (table_image b).rows) l second-only al hl
      ∙ any-alike (λ f. list_any (is_parting c l m (row_on b l f)) (table_image b).rows) (λ f. is_parting_any b c f (first_on b m) (end_on b m))
      (first_on b l) (end_on b l - first_on b l) (λ f u v.
      some-own b (is_parting c l m (row_on b l f)) m (first-only b c l m (row_on b l f)) am hm
      ∙ any-alike (λ g. is_parting c l m (row_on b l f) (row_on b m g)) (is_parting_in b c f) (first_on b m) (end_on b m - first_on b m)
      (λ g w z.
      rows-part f g u (omega arith) w (omega arith))
      ∙ sym (any-chain _ _ _))
      ∙ sym (any-chain _ _ _)
