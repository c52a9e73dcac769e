-- The turns of the search: what is sought among all charts is sought among those of the numbers that are left.
use Rattle.std.proofs.Common.{ℕ, zero, suc, ◌+◌, ◌-◌, ◌≤◌, ◌<◌, Bool, true, false, ◌≡◌, refl, sym, ◌∙◌, ap, ap₂, subst, List, [], ◌∷◌, ◌++◌, arith, flat_map, Ok, Err}
use Rattle.std.proofs.Common.{if◌then◌else◌, length, slice_index_or}
use Rattle.std.proofs.lemmas.Grind.{common_steps}
use Rattle.words.specs.lists.Numbers.{range}
use Rattle.little_fetch.specs.declared.little_nodes.Trail.{Trail}
use Rattle.little_fetch.specs.inner.Trails.{led_to, is_barred, is_cut_off, with_node, first_number, past_number, trails}
use Rattle.little_fetch.specs.inner.SeekContracts.{sought}

-- ---- sought in two parts
pub sought-first : (xs ys : List ℕ) (left x : ℕ) → sought xs left ≡ Ok x → sought (xs ++ ys) left ≡ Ok x
unfolding sought
sought-first [] ys left x e = grind (arith, common_steps)
sought-first (y ∷ xs) ys zero x e = e
sought-first (y ∷ xs) ys (suc left) x e = sought-first xs ys left x e

pub sought-second : (xs ys : List ℕ) (left rest : ℕ) → sought xs left ≡ Err rest → sought (xs ++ ys) left ≡ sought ys rest
unfolding sought
sought-second [] ys left rest e = grind (arith, common_steps)
sought-second (y ∷ xs) ys zero rest e = grind (arith, common_steps)
sought-second (y ∷ xs) ys (suc left) rest e = sought-second xs ys left rest e

pub sought-past : (xs : List ℕ) (left : ℕ) → length xs ≤ left → sought xs left ≡ Err (left - length xs)
unfolding sought
sought-past [] left l = ap Err (omega arith)
sought-past (y ∷ xs) zero l = absurd (omega arith)
sought-past (y ∷ xs) (suc left) l = sought-past xs left (omega arith) ∙ ap Err (omega arith)

pub sought-low : (xs : List ℕ) (left : ℕ) → left < length xs → sought xs left ≡ Ok (slice_index_or xs left 0)
unfolding sought
sought-low [] left l = absurd (omega arith)
sought-low (y ∷ xs) zero l = refl
sought-low (y ∷ xs) (suc left) l = sought-low xs left (omega arith)

-- ---- the last record stands
module _ (n v : ℕ) (t : Trail) (left : ℕ) (last : n ≤ v + 1) where
  last-one : trails n (n - (v + 1)) t ≡ t.numbers ∷ []
  unfolding trails
  last-one = let z : n - (v + 1) ≡ 0 = omega arith in ap (λ (m : ℕ). trails n m t) z

  pub last-found : left ≡ 0 → Ok t.numbers ≡ sought (trails n (n - (v + 1)) t) left
  unfolding sought
  last-found z = grind (arith, common_steps, last-one)

  pub last-passed : (left ≡ 0 → ⊥) → Err (left - 1) ≡ sought (trails n (n - (v + 1)) t) left
  unfolding sought
  last-passed z = sym (ap (λ (xs : List ℕ). sought xs left) last-one ∙ one left z)
    where
      one : (k : ℕ) → (k ≡ 0 → ⊥) → sought (t.numbers ∷ []) k ≡ Err (k - 1)
      one zero z = absurd (z refl)
      one (suc k) z = ap Err (omega arith)

-- ---- the numbers that are left to try
abbrev pub tried : ℕ → ℕ → Trail → ℕ → List ℕ
tried n v t i =
    if is_barred n v t i (led_to n i) then []
    else if is_cut_off n v (with_node n v t i (led_to n i)) then []
    else trails n (n - (v + 1)) (with_node n v t i (led_to n i))

abbrev pub tried_from : ℕ → ℕ → Trail → ℕ → ℕ → List ℕ
tried_from n v t i past = flat_map (tried n v t) (range i (past - i))

pub record Seeking (n v : ℕ) (t : Trail) (left past i rest : ℕ) : Type 0 where
  pub inside : v < n
  pub end : past ≡ past_number n v t
  pub same : sought (tried_from n v t i past) rest ≡ sought (trails n (n - v) t) left

module _ (n v : ℕ) (t : Trail) where
  all-tried : v < n → trails n (n - v) t ≡ tried_from n v t (first_number n t) (past_number n v t)
  unfolding trails
  all-tried l =
      let m : n - v ≡ suc (n - (v + 1)) = omega arith in
      let w : n - suc (n - (v + 1)) ≡ v = omega arith in
      ap (λ (k : ℕ). trails n k t) m
      ∙ ap (λ (u : ℕ). flat_map (λ i.
      if is_barred n u t i (led_to n i) then []
      else if is_cut_off n u (with_node n u t i (led_to n i)) then []
      else trails n (n - (v + 1)) (with_node n u t i (led_to n i)))
      (range (first_number n t) (past_number n u t - first_number n t))) w

  pub seeking-first : (left : ℕ) {first past : ℕ} → v < n → first ≡ first_number n t → past ≡ past_number n v t
      → Seeking n v t left past first left
  seeking-first left l e f = record {
    inside = l;
    end = f;
    same = ap₂ (λ (a b : ℕ). sought (tried_from n v t a b) left) e f ∙ sym (ap (λ (xs : List ℕ). sought xs left) (all-tried l));
  }

module _ {n v : ℕ} {t : Trail} {left past i rest : ℕ} (k : Seeking n v t left past i rest) where
  pub seeking-as : {rest' : ℕ} → rest' ≡ rest → Seeking n v t left past i rest'
  seeking-as e = subst (Seeking n v t left past i) (sym e) k

  pub seeking-done : past ≤ i → Err rest ≡ sought (trails n (n - v) t) left
  unfolding sought
  seeking-done l =
      let z : past - i ≡ 0 = omega arith in
      sym (ap (λ (m : ℕ). sought (flat_map (tried n v t) (range i m)) rest) z) ∙ k.same

  module _ (l : i < past) where
    split : tried_from n v t i past ≡ tried n v t i ++ tried_from n v t (i + 1) past
    split =
        let m : past - i ≡ suc (past - (i + 1)) = omega arith in
        let s : suc i ≡ i + 1 = omega arith in
        ap (λ (j : ℕ). flat_map (tried n v t) (range i j)) m
        ∙ ap (λ (j : ℕ). tried n v t i ++ flat_map (tried n v t) (range j (past - (i + 1)))) s

    seeking-next : (rest' : ℕ) → sought (tried n v t i) rest ≡ Err rest' → Seeking n v t left past (i + 1) rest'
    seeking-next rest' e = record {
      inside = k.inside;
      end = k.end;
      same = sym (ap (λ (xs : List ℕ). sought xs rest) split ∙ sought-second (tried n v t i) (tried_from n v t (i + 1) past) rest rest' e) ∙ k.same;
    }

    -- as many charts as begin so are passed over
    pub seeking-past : {count : ℕ} → count ≡ length (tried n v t i) → count ≤ rest → Seeking n v t left past (i + 1) (rest - count)
    seeking-past {count} e c = seeking-next (rest - count)
        (sought-past (tried n v t i) rest (omega (arith, e)) ∙ ap (λ (j : ℕ). Err (rest - j)) (sym e))

    -- the chart sought begins so
    pub seeking-here : {count : ℕ} → count ≡ length (tried n v t i) → rest < count → sought (tried n v t i) rest ≡ sought (trails n (n - v) t) left
    seeking-here e c =
        let x : sought (tried n v t i) rest ≡ Ok (slice_index_or (tried n v t i) rest 0) = sought-low (tried n v t i) rest (omega (arith, e)) in
        x ∙ sym (sought-first (tried n v t i) (tried_from n v t (i + 1) past) rest (slice_index_or (tried n v t i) rest 0) x)
        ∙ sym (ap (λ (xs : List ℕ). sought xs rest) split) ∙ k.same

    none : tried n v t i ≡ [] → Seeking n v t left past (i + 1) rest
    unfolding sought
    none e = seeking-next rest (ap (λ (xs : List ℕ). sought xs rest) e)

    module _ {led : ℕ} (e : led ≡ led_to n i) where
      tried-by : (a : Bool) → a ≡ is_barred n v t i led
          → tried n v t i ≡ (if a then [] else if is_cut_off n v (with_node n v t i led) then [] else trails n (n - (v + 1)) (with_node n v t i led))
      tried-by a f = grind (arith, common_steps)

      -- where charts begin so, the search goes on from the next place
      pub begins-so : {next : Trail} → next ≡ with_node n v t i led → 0 < length (tried n v t i)
          → tried n v t i ≡ trails n (n - (v + 1)) next
      begins-so {next} g l = go (is_barred n v t i led) refl (is_cut_off n v (with_node n v t i led)) refl
        where
          go : (a : Bool) → a ≡ is_barred n v t i led → (b : Bool) → b ≡ is_cut_off n v (with_node n v t i led)
              → tried n v t i ≡ trails n (n - (v + 1)) next
          go true f b h = absurd (omega (arith, ap length (tried-by true f)))
          go false f true h = absurd (omega (arith, ap length (tried-by false f ∙ ap (λ (x : Bool). if x then [] else trails n (n - (v + 1)) (with_node n v t i led)) (sym h))))
          go false f false h = tried-by false f ∙ ap (λ (x : Bool). if x then [] else trails n (n - (v + 1)) (with_node n v t i led)) (sym h)
              ∙ ap (λ (u : Trail). trails n (n - (v + 1)) u) (sym g)

      pub seeking-barred : {a : Bool} → a ≡ is_barred n v t i led → a ≡ true → Seeking n v t left past (i + 1) rest
      seeking-barred f q = none (grind (arith, common_steps, tried-by))

      module _ {a : Bool} (f : a ≡ is_barred n v t i led) (p : a ≡ false) {next : Trail} (g : next ≡ with_node n v t i led)
          {b : Bool} (h : b ≡ is_cut_off n v next) where
        pub seeking-cut : b ≡ true → Seeking n v t left past (i + 1) rest
        seeking-cut q = none (grind (arith, common_steps, tried-by))

        goes-on : b ≡ false → tried n v t i ≡ trails n (n - (v + 1)) next
        goes-on q = grind (arith, common_steps, tried-by)

        pub seeking-on : b ≡ false → {rest' : ℕ} → Err rest' ≡ sought (trails n (n - (v + 1)) next) rest
            → Seeking n v t left past (i + 1) rest'
        seeking-on q {rest'} r = seeking-next rest' (ap (λ (xs : List ℕ). sought xs rest) (goes-on q) ∙ sym r)

        pub seeking-found : b ≡ false → {x : ℕ} → Ok x ≡ sought (trails n (n - (v + 1)) next) rest
            → Ok x ≡ sought (trails n (n - v) t) left
        seeking-found q {x} r =
            sym (sought-first (tried n v t i) (tried_from n v t (i + 1) past) rest x (ap (λ (xs : List ℕ). sought xs rest) (goes-on q) ∙ sym r))
            ∙ sym (ap (λ (xs : List ℕ). sought xs rest) split) ∙ k.same
