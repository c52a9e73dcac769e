-- The records of little nodes: what they are, and that every node of an accepted little chart has one.
use Rattle.std.proofs.Common.{ℕ, zero, suc, ◌-◌, ◌≤◌, ◌<◌, Bool, true, false, ◌&&◌, ◌||◌, not, ◌≡◌, refl, sym, subst, List, [], ◌∷◌, ◌++◌}
use Rattle.std.proofs.Common.{nat_lt, nat_le, ◌==◌, flat_map}
use Rattle.std.proofs.Common.{map, arith, length, eqb-true, eq-eqb, leb-true, leb-false}
use Rattle.std.proofs.lemmas.Grind.{common_steps}
use Rattle.words.specs.lists.Numbers.{range}
use Rattle.std.specs.List.{list_any, AllByRecursion}
use Rattle.words.proofs.lists.Tests.{no_both, or-l, or-r, and-l, and-r, not-false, not-true}
use Rattle.words.proofs.lists.Searches.{any-false, highest-le, some-cons}
use Rattle.words.proofs.lists.Joins.{all-of}
use Rattle.text.specs.digits.Digit.{char_of}
use Rattle.text.specs.frames.Frame.{size, field, ten_bytes_at, total, frame_text}
use Rattle.text.proofs.frames.Frames.{Frame, frame-by}
use Rattle.charts.specs.Chart.{Chart, kind, scheme, argument, next0, next1, result, mask, is, schemes}
use Rattle.charts.specs.Layout.{kind_of}
use Rattle.charts.specs.Check.{is_filled_from, has_bad_use, has_bad_field}
use Rattle.charts.proofs.Accepted.{SoundChart}
use Rattle.charts.proofs.Nodes.{arc0, arc1, calls}
use Rattle.little_charts.specs.Little.{is_little_node, begin_node, end_node, operation_node, condition_node, nodes}
use Rattle.little_charts.specs.Promises.{is_before}
use Rattle.little_charts.proofs.Members.{In, here, there, in-left, in-right, in-map, in-concat, in-range}
use Rattle.little_charts.proofs.Order.{Ascends}

-- ---- computed for 2, 3 and 4 frames: ten bytes each, of the form, in order
abbrev is_good_record : List ℕ → Bool
is_good_record r = length r == 10 && not (list_any (nat_le 256) r) && is_little_node r 0

unfoldable pub is_rising : List (List ℕ) → Bool
is_rising [] = true
is_rising (x ∷ xs) = not (list_any (λ y. not (is_before (frame_text x) (frame_text y))) xs) && is_rising xs

none-all : {A : Type 0} (p : A → Bool) (xs : List A) → list_any p xs ≡ false → AllByRecursion (λ x. p x ≡ false) xs
none-all p [] e = grind (arith, common_steps)
none-all p (x ∷ xs) e = grind (arith, common_steps, none-all p xs, or-r, some-cons, or-l)

rising-up : (xs : List (List ℕ)) → is_rising xs ≡ true → Ascends frame_text xs
unfolding is_rising
rising-up [] e = tt
rising-up (x ∷ xs) e =
    let bad : List ℕ → Bool = λ y. not (is_before (frame_text x) (frame_text y)) in (
      all-of (λ y. bad y ≡ false) (λ y. is_before (frame_text x) (frame_text y) ≡ true)
          (λ y q. not-false (is_before (frame_text x) (frame_text y)) q) xs
          (none-all bad xs (not-true (list_any bad xs) (and-l (not (list_any bad xs)) (is_rising xs) e))),
      rising-up xs (and-r (not (list_any bad xs)) (is_rising xs) e),
    )

pub record Fine (r : List ℕ) : Type 0 where
  pub frame : Frame r
  pub formed : is_little_node r 0 ≡ true

good-fine : (r : List ℕ) → is_good_record r ≡ true → Fine r
good-fine r e = grind (arith, common_steps, and-l, leb-false, eqb-true, not-true, all-of, and-r, frame-by, none-all)

pub record NodesFine (n : ℕ) : Type 0 where
  pub each : AllByRecursion Fine (nodes n)
  pub up : Ascends frame_text (nodes n)

nodes-by : (n : ℕ) → list_any (λ r. not (is_good_record r)) (nodes n) ≡ false → is_rising (nodes n) ≡ true → NodesFine n
nodes-by n e q = record {
  each = all-of (λ r. not (is_good_record r) ≡ false) Fine (λ r z. good-fine r (not-false (is_good_record r) z)) (nodes n)
      (none-all (λ r. not (is_good_record r)) (nodes n) e);
  up = rising-up (nodes n) q;
}

pub nodes-fine : (n : ℕ) → 2 ≤ n → n ≤ 4 → NodesFine n
unfolding char_of total frame_text is_before is_rising nodes
nodes-fine zero a b = absurd (omega arith)
nodes-fine (suc zero) a b = absurd (omega arith)
nodes-fine (suc (suc zero)) a b = nodes-by 2 refl refl
nodes-fine (suc (suc (suc zero))) a b = nodes-by 3 refl refl
nodes-fine (suc (suc (suc (suc zero)))) a b = nodes-by 4 refl refl
nodes-fine (suc (suc (suc (suc (suc n))))) a b = absurd (omega arith)

-- ---- the four kinds of records among them
module _ (n : ℕ) where
  abbrev ops : List (List ℕ)
  ops = flat_map (λ u. map (operation_node u) (range 0 2)) (range 0 n)

  abbrev tests : List (List ℕ)
  tests = flat_map (λ u. map (condition_node u) (range 0 n)) (range 0 n)

  abbrev begins : List (List ℕ)
  begins = map begin_node (range 0 n)

  in-begins : (u : ℕ) → u < n → In (begin_node u) (nodes n)
  unfolding nodes
  in-begins u l = in-left (begin_node u) begins (end_node ∷ ops ++ tests)
      (in-map begin_node u (range 0 n) (in-range u 0 n (omega arith) (omega arith)))

  in-ends : In end_node (nodes n)
  unfolding nodes
  in-ends = in-right end_node begins (end_node ∷ ops ++ tests) here

  in-operations : (u m : ℕ) → u < n → m < 2 → In (operation_node u m) (nodes n)
  unfolding nodes
  in-operations u m l k = in-right (operation_node u m) begins (end_node ∷ ops ++ tests) (there (in-left (operation_node u m) ops tests
      (in-concat (λ u. map (operation_node u) (range 0 2)) u (range 0 n) (operation_node u m) (in-range u 0 n (omega arith) (omega arith))
      (in-map (operation_node u) m (range 0 2) (in-range m 0 2 (omega arith) (omega arith))))))

  in-conditions : (u w : ℕ) → u < n → w < n → In (condition_node u w) (nodes n)
  unfolding nodes
  in-conditions u w l k = in-right (condition_node u w) begins (end_node ∷ ops ++ tests) (there (in-right (condition_node u w) ops tests
      (in-concat (λ u. map (condition_node u) (range 0 n)) u (range 0 n) (condition_node u w) (in-range u 0 n (omega arith) (omega arith))
      (in-map (condition_node u) w (range 0 n) (in-range w 0 n (omega arith) (omega arith))))))

ten : (a b c d e f g h i j a' b' c' d' e' f' g' h' i' j' : ℕ) → a ≡ a' → b ≡ b' → c ≡ c' → d ≡ d' → e ≡ e' → f ≡ f' → g ≡ g' → h ≡ h'
    → i ≡ i' → j ≡ j'
    → ◌≡◌ {A = List ℕ} (a ∷ b ∷ c ∷ d ∷ e ∷ f ∷ g ∷ h ∷ i ∷ j ∷ []) (a' ∷ b' ∷ c' ∷ d' ∷ e' ∷ f' ∷ g' ∷ h' ∷ i' ∷ j' ∷ [])
ten a b c d e f g h i j a' b' c' d' e' f' g' h' i' j' p q r s t u v w x y = cc

-- ---- a node of an accepted little chart
module _ (c : Chart) (s : SoundChart c) (formed : (v : ℕ) → v < size c → is_little_node c v ≡ true) where
  one-scheme : schemes c ≤ 1
  one-scheme = grind (arith, common_steps, highest-le, eqb-true, and-l)

  module _ (v : ℕ) (l : v < size c) where
    parts : (scheme c v ≡ 1) × (kind c v ≤ 3) × ((is c 2 v || argument c v == 0) ≡ true) ×
        ((not (is c 2 v) || (result c v == 0 && nat_le (mask c v) 1)) ≡ true)
    parts = grind (arith, common_steps)

    implied : (b d : Bool) → (not b || d) ≡ true → b ≡ true → d ≡ true
    implied true d e q = e
    implied false d e q = no_both false q refl

    used : (k : ℕ) → kind c v ≡ k → has_bad_use c v (kind_of k) ≡ false
    unfolding has_bad_field
    used k q = grind (arith, common_steps)

    zeros : (i : ℕ) → i ≤ 10 → is_filled_from c v i ≡ false → (k : ℕ) → i ≤ k → k < 10 → field c v k ≡ 0
    zeros i m e k a b = eqb-true (field c v k) 0
        (not-false (field c v k == 0) (any-false (λ k. not (field c v k == 0)) i (10 - i) e k a (omega arith)))

    abbrev Here : Type 0
    Here = In (ten_bytes_at c v) (nodes (size c))

    no-argument : (kind c v ≡ 2 → ⊥) → argument c v ≡ 0
    no-argument n = grind (arith, common_steps)

    as-begin : kind c v ≡ 0 → Here
    as-begin k = grind (arith, common_steps, arc0 c s v l (λ q. omega arith), used 0 k, zeros 4 (omega arith), no-argument (λ q. omega arith), or-r, in-begins, ten, parts)

    as-end : kind c v ≡ 1 → Here
    as-end k = grind (arith, common_steps, used 1 k, zeros 2 (omega arith) (used 1 k), in-ends, ten, parts)

    no-call : kind c v ≡ 2 → argument c v ≡ 0
    no-call k = grind (arith, common_steps, calls, one-scheme)

    as-operation : kind c v ≡ 2 → Here
    as-operation k =
        let f : (result c v == 0 && nat_le (mask c v) 1) ≡ true = implied (is c 2 v) (result c v == 0 && nat_le (mask c v) 1) parts.3
        (eq-eqb (kind c v) 2 k) in
        let r : result c v ≡ 0 = eqb-true (result c v) 0 (and-l (result c v == 0) (nat_le (mask c v) 1) f) in
        let m : mask c v ≤ 1 = leb-true (mask c v) 1 (and-r (result c v == 0) (nat_le (mask c v) 1) f) in
        let n : next1 c v ≡ 0 = eqb-true (next1 c v) 0
        (not-false (next1 c v == 0) (or-l (not (next1 c v == 0)) (nat_lt 2 (result c v)) (used 2 k))) in
        let t = arc0 c s v l (λ q. omega arith) in
        subst (λ (r : List ℕ). In r (nodes (size c)))
        (sym (ten _ _ _ _ _ _ _ _ _ _ 2 1 0 (next0 c v) 0 0 0 0 0 (field c v 9) k parts.0 (no-call k) refl n r (omega arith)
        (omega arith) (omega arith) refl))
        (in-operations (size c) (next0 c v) (field c v 9) t.inside (omega arith))

    as-condition : kind c v ≡ 3 → Here
    as-condition k =
        let z : (j : ℕ) → 5 ≤ j → j < 10
        → field c v j ≡ 0 = zeros 5 (omega arith) (or-r (nat_lt 15 (argument c v)) (is_filled_from c v 5) (used 3 k)) in
        let a : argument c v ≡ 0 = no-argument (λ q. omega arith) in
        let t = arc0 c s v l (λ q. omega arith) in
        let u = arc1 c s v l (omega arith) in
        subst (λ (r : List ℕ). In r (nodes (size c)))
        (sym (ten _ _ _ _ _ _ _ _ _ _ 3 1 0 (next0 c v) (next1 c v) 0 0 0 0 0 k parts.0 a refl refl (z 5 (omega arith) (omega arith))
        (z 6 (omega arith) (omega arith)) (z 7 (omega arith) (omega arith)) (z 8 (omega arith) (omega arith))
        (z 9 (omega arith) (omega arith))))
        (in-conditions (size c) (next0 c v) (next1 c v) t.inside u.inside)

    pub record-in : In (ten_bytes_at c v) (nodes (size c))
    record-in = grind (arith, common_steps, parts, as-begin, as-end, as-operation, as-condition)
