-- The row chosen is the one that the rule names in plain words, there is just one such row, and none is chosen only where none matches.
use Rattle.std.proofs.Common.{ℕ, zero, suc, ◌+◌, ◌≤◌, ◌<◌, Bool, true, false, ◌≡◌, refl, sym, ◌∙◌, ap, ap₂, subst, ◌⊎◌, inl, inr, List, [], slice_index_or}
use Rattle.std.proofs.Common.{◌∷◌, zero-add, arith, length}
use lib.Count.{ones}
use Rattle.std.proofs.lemmas.Grind.{common_steps}
use Rattle.words.proofs.lists.Tests.{no_both, split}
use Rattle.words.proofs.lists.Joins.{all-at}
use Rattle.std.specs.List.{AllByRecursion}
use Rattle.image.specs.Image.{Row, no_row}
use Rattle.rows.specs.Rows.{is_candidate, Choice, row, no_choice, better_choice, best_row, found, missing, lead_of}
use Rattle.rows.specs.Choices.{Best}
use Rattle.rows.proofs.ChoiceLaws.{best-nothing, best-own, best-other, better-first, better-second}

no-row : {A : Type 0} (k : ℕ) (r : Row) (x : Choice) → x ≡ no_choice → x ≡ row k r → A
no-row k r x p q = absurd (let z : ◌≡◌ {A = ℕ} 0 1 = cc in omega arith)

pub row-number : (k j : ℕ) (r q : Row) → row k r ≡ row j q → k ≡ j
row-number k j r q e = cc

row-row : (k j : ℕ) (r q : Row) → row k r ≡ row j q → r ≡ q
row-row k j r q e = cc

-- the better of a row and another choice is no none
some-better : {A : Type 0} (k : ℕ) (r : Row) (x : Choice) → better_choice (row k r) x ≡ no_choice → A
some-better k r no_choice e = grind (arith, common_steps)
some-better k r (row j q) e = grind (arith, common_steps)

module _ (l w b : ℕ) where
  -- none is chosen, so none matches
  pub none-matches : (n : ℕ) (rs : List Row) → best_row l w b n rs ≡ no_choice → (j : ℕ)
      → j < length rs → is_candidate l w b (slice_index_or rs j no_row) ≡ false
  none-matches n [] e j h = absurd (omega arith)
  none-matches n (r ∷ rs) e j h = go (is_candidate l w b r) refl j h (none-matches (suc n) rs)
    where
      go : (t : Bool) → is_candidate l w b r ≡ t → (j : ℕ) → j < length (r ∷ rs)
          → (best_row l w b (suc n) rs ≡ no_choice → (j : ℕ) → j < length rs → is_candidate l w b (slice_index_or rs j no_row) ≡ false)
          → is_candidate l w b (slice_index_or (r ∷ rs) j no_row) ≡ false
      go true o j h ih = some-better n r (best_row l w b (suc n) rs) (sym (best-own l w b n r rs o) ∙ e)
      go false o zero h ih = o
      go false o (suc j) h ih = ih (sym (best-other l w b n r rs o) ∙ e) j (omega arith)

  -- and where none matches, none is chosen
  pub best-none : (k : ℕ) (rs : List Row) → ((j : ℕ) → j < length rs → is_candidate l w b (slice_index_or rs j no_row) ≡ false)
      → best_row l w b k rs ≡ no_choice
  best-none k [] h = best-nothing l w b k
  best-none k (r ∷ rs) h = best-other l w b k r rs (h 0 (omega arith)) ∙ best-none (suc k) rs (λ j g. h (suc j) (omega arith))

  -- the best of the rest, with a row in front that loses to it
  behind : (r : Row) (rs : List Row) (p : ℕ) (q : Row) → (is_candidate l w b r ≡ true → ones r.care ≤ ones q.care) → Best l w b rs p q
      → Best l w b (r ∷ rs) (suc p) q
  behind r rs p q h d = grind (arith, common_steps)

  -- a row in front that wins against each of the rest
  front : (r : Row) (rs : List Row) → is_candidate l w b r ≡ true
      → ((j : ℕ) → j < length rs → is_candidate l w b (slice_index_or rs j no_row) ≡ true → ones (slice_index_or rs j no_row).care < ones r.care)
      → Best l w b (r ∷ rs) 0 r
  front r rs o each = grind (arith, common_steps)

  -- with the first row numbered n
  pub best-at : (n : ℕ) (rs : List Row) (k : ℕ) (r : Row) → best_row l w b n rs ≡ row k r → (p : ℕ) × (k ≡ n + p) × Best l w b rs p r
  best-at n [] k r e = no-row k r (best_row l w b n []) (best-nothing l w b n) e
  best-at n (r ∷ rs) k q e = go (is_candidate l w b r) refl (best_row l w b (suc n) rs) refl (best-at (suc n) rs)
    where
      go : (t : Bool) → is_candidate l w b r ≡ t → (x : Choice) → best_row l w b (suc n) rs ≡ x
          → ((k : ℕ) (q : Row) → best_row l w b (suc n) rs ≡ row k q → (p : ℕ) × (k ≡ suc n + p) × Best l w b rs p q)
          → (p : ℕ) × (k ≡ n + p) × Best l w b (r ∷ rs) p q
      go false o x y ih =
          let d = ih k q (sym (best-other l w b n r rs o) ∙ e) in
          (suc d.0, omega (arith, d.1), behind r rs d.0 q (λ z. no_both (is_candidate l w b r) z o) d.2)
      go true o no_choice y ih =
          let same : row n r ≡ row k q = sym (best-own l w b n r rs o ∙ ap (better_choice (row n r)) y) ∙ e in
          let number : n ≡ k = row-number n k r q same in
          let here : Best l w b (r ∷ rs) 0 r =
          front r rs o (λ j g z. no_both (is_candidate l w b (slice_index_or rs j no_row)) z (none-matches (suc n) rs y j g)) in
          (0, omega arith, subst (Best l w b (r ∷ rs) 0) (row-row n k r q same) here)
      go true o (row m p) y ih = some (split (ones p.care) (ones r.care))
        where
          whole : best_row l w b n (r ∷ rs) ≡ better_choice (row n r) (row m p)
          whole = best-own l w b n r rs o ∙ ap (better_choice (row n r)) y

          some : (ones p.care < ones r.care) ⊎ (ones r.care ≤ ones p.care) → (p : ℕ) × (k ≡ n + p) × Best l w b (r ∷ rs) p q
          some (inl h) =
              let d = ih m p y in
              let same : row n r ≡ row k q = sym (whole ∙ better-first (row n r) m p h) ∙ e in
              let number : n ≡ k = row-number n k r q same in
              let here : Best l w b (r ∷ rs) 0 r = front r rs o (λ j g z. omega (arith, d.2.most j g z)) in
              (0, omega arith, subst (Best l w b (r ∷ rs) 0) (row-row n k r q same) here)
          some (inr h) =
              let d = ih m p y in
              let same : row m p ≡ row k q = sym (whole ∙ better-second (row n r) m p h) ∙ e in
              let number : m ≡ k = row-number m k p q same in
              let here : Best l w b (r ∷ rs) (suc d.0) p = behind r rs d.0 p (λ _. h) d.2 in
              (suc d.0, omega (arith, d.1), subst (Best l w b (r ∷ rs) (suc d.0)) (row-row m k p q same) here)

  pub best-is : (rs : List Row) (k : ℕ) (r : Row) → best_row l w b 0 rs ≡ row k r → Best l w b rs k r
  best-is rs k r e =
      let f = best-at 0 rs k r e in
      subst (λ (x : ℕ). Best l w b rs x r) (let z : f.0 ≡ k = omega (arith, f.1) in z) f.2

  -- two that are best are the same
  pub best-once : (rs : List Row) (p q : ℕ) (r s : Row) → Best l w b rs p r → Best l w b rs q s → (p ≡ q) × (r ≡ s)
  best-once rs p q r s d e = grind (arith, common_steps)

  is-best-at : (n : ℕ) (rs : List Row) (p : ℕ) (r : Row) → Best l w b rs p r → best_row l w b n rs ≡ row (n + p) r
  is-best-at n rs p r d = go (best_row l w b n rs) refl
    where
      go : (x : Choice) → best_row l w b n rs ≡ x → x ≡ row (n + p) r
      go no_choice e = no_both (is_candidate l w b (slice_index_or rs p no_row)) (ap (is_candidate l w b) d.is ∙ d.matches)
          (none-matches n rs e p d.inside)
      go (row k q) e =
          let f = best-at n rs k q e in
          let same = best-once rs f.0 p q r f.2 d in
          ap₂ row (f.1 ∙ ap (λ (x : ℕ). n + x) same.0) same.1

  pub is-best : (rs : List Row) (k : ℕ) (r : Row) → Best l w b rs k r → best_row l w b 0 rs ≡ row k r
  is-best rs k r d = is-best-at 0 rs k r d ∙ ap (λ (x : ℕ). row x r) (zero-add k)

  -- where the row chosen leads, some row of the list leads
  pub leads-one : (P : ℕ → Type 0) (rs : List Row) → AllByRecursion (λ r. P r.next) rs → (n : ℕ) → lead_of (best_row l w b 0 rs) ≡ found n → P n
  leads-one P rs a n e = go (best_row l w b 0 rs) refl
    where
      go : (x : Choice) → best_row l w b 0 rs ≡ x → P n
      go no_choice q = absurd (let p : missing ≡ found n = sym (ap lead_of q) ∙ e in let z : ◌≡◌ {A = ℕ} 0 1 = cc in omega arith)
      go (row k r) q =
          let d = best-is rs k r q in
          let p : found r.next ≡ found n = sym (ap lead_of q) ∙ e in
          let next : r.next ≡ n = cc in
          subst P (ap (λ (x : Row). x.next) d.is ∙ next) (all-at (λ (r : Row). P r.next) no_row rs a k d.inside)
