-- Lists over ranges of numbers: functions that agree on a range, ranges moved, and ranges that follow one another.
use Rattle.std.proofs.Common.{ℕ, zero, suc, ◌+◌, ◌-◌, ◌≤◌, ◌<◌, ◌≡◌, refl, sym, ◌∙◌, ap, ap₂, List, ◌∷◌, ◌++◌, map, add-zero, arith, flat_map}
use Rattle.std.proofs.lemmas.Grind.{common_steps}
use Rattle.words.specs.lists.Numbers.{range}
use Rattle.words.proofs.lists.Ranges.{range-append, map-append}

pub map-alike : {A : Type 0} (f g : ℕ → A) (a n : ℕ) → ((k : ℕ) → a ≤ k → k < a + n → f k ≡ g k) → map f (range a n) ≡ map g (range a n)
map-alike f g a zero h = grind (arith, common_steps)
map-alike f g a (suc n) h = grind (arith, common_steps, map-alike f g (suc a) n (λ k p q. h k (omega arith) (omega arith)))

pub map-moved : {A : Type 0} (f g : ℕ → A) (a c n : ℕ) → ((k : ℕ) → f (a + k) ≡ g (c + k)) → map f (range a n) ≡ map g (range c n)
map-moved f g a c zero h = refl
map-moved f g a c (suc n) h =
    ap₂ (λ x xs. x ∷ xs) (ap f (sym (add-zero a)) ∙ h 0 ∙ ap g (add-zero c))
    (map-moved f g (suc a) (suc c) n (λ k. ap f (let e : suc a + k ≡ a + suc k = omega arith in e) ∙ h (suc k)
    ∙ ap g (let e : c + suc k ≡ suc c + k = omega arith in e)))

-- numbers from each bound up to the next are those from the first bound up to the last
module _ {A : Type 0} (g : ℕ → A) (bound : ℕ → ℕ) (up : (l : ℕ) → bound l ≤ bound (l + 1)) where
  abbrev between : ℕ → ℕ → List A
  between a c = map g (range a (c - a))

  bound-rises : (i n : ℕ) → bound i ≤ bound (i + n)
  bound-rises i zero = grind (arith, common_steps, add-zero)
  bound-rises i (suc n) = grind (arith, common_steps, bound-rises i n)

  join : (a c e : ℕ) → a ≤ c → c ≤ e → between a c ++ between c e ≡ between a e
  join a c e h k =
      sym (map-append g (range a (c - a)) (range c (e - c)))
      ∙ ap (map g) (sym (
      ap (range a) (let z : e - a ≡ (c - a) + (e - c) = omega arith in z)
      ∙ range-append a (c - a) (e - c)
      ∙ ap (λ (i : ℕ). range a (c - a) ++ range i (e - c)) (let z : a + (c - a) ≡ c = omega arith in z)
      ))

  pub ranges-join : (i n : ℕ) → flat_map (λ l. between (bound l) (bound (l + 1))) (range i n) ≡ between (bound i) (bound (i + n))
  ranges-join i zero =
      let e : bound (i + 0) ≡ bound i = ap bound (add-zero i) in
      let z : bound (i + 0) - bound i ≡ 0 = omega arith in
      sym (ap (λ (k : ℕ). map g (range (bound i) k)) z)
  ranges-join i (suc n) =
      let e : suc i + n ≡ i + suc n = omega arith in
      let f : i + 1 ≡ suc i = omega arith in
      ap (λ (xs : List A). between (bound i) (bound (i + 1)) ++ xs)
      (ranges-join (suc i) n ∙ ap₂ (λ (a c : ℕ). between (bound a) (bound c)) (sym f) e)
      ∙ join (bound i) (bound (i + 1)) (bound (i + suc n)) (up i)
      (let z : bound (i + 1 + n) ≡ bound (i + suc n) = ap bound (omega arith) in omega (arith, bound-rises (i + 1) n))
