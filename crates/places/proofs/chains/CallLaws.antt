-- What the list of a scheme's calls holds, and which schemes call and are called in an accepted chart.
use Rattle.std.proofs.Common.{ℕ, zero, suc, ◌+◌, ◌≤◌, ◌<◌, Bool, true, ◌&&◌, not, ◌≡◌, sym, ◌∙◌, List, [], ◌∷◌, eq-or-lt_of_le, arith, ◌==◌, filter}
use Rattle.std.proofs.Common.{eq-eqb, ne_eqb}
use Rattle.std.proofs.lemmas.Grind.{common_steps}
use Rattle.words.specs.lists.Numbers.{range}
use Rattle.words.proofs.lists.Tests.{or-true-l, or-true-r, and-l, and-true, and-no}
use Rattle.words.proofs.lists.Searches.{any-true, any-some}
use Rattle.words.proofs.lists.Ranges.{filter-yes, filter-no}
use Rattle.words.specs.graph.Reach.{is_member}
use Rattle.text.specs.frames.Frame.{size}
use Rattle.charts.specs.Chart.{Chart, kind, argument, is}
use Rattle.walk.proofs.Facts.{Facts}
use Rattle.places.specs.chains.Calls.{has_call, is_call_of, is_caller, calls_of}
use Rattle.places.specs.chains.Chains.{Calls}

-- ---- a member of the numbers that pass
range-member : (h i n : ℕ) → i ≤ h → h < i + n → is_member h (range i n) ≡ true
range-member h i zero a b = grind (arith, common_steps)
range-member h i (suc n) a b = grind (arith, common_steps, range-member h (suc i) n, eq-eqb, or-true-l, or-true-r, eq-or-lt_of_le)

filter-member : (p : ℕ → Bool) (h : ℕ) (xs : List ℕ) → is_member h (filter p xs) ≡ (p h && is_member h xs)
filter-member p h [] = grind (arith, common_steps, and-no)
filter-member p h (x ∷ xs) = grind (arith, common_steps, filter-member p h xs, filter-no, eq-eqb, and-true, or-true-l, filter-yes, ne_eqb)

-- ---- calls
module _ (c : Chart) where
  pub calls-true : (g h : ℕ) → Calls c g h → is_caller c g h ≡ true
  unfolding is_caller
  calls-true g h k = grind (arith, any-true (is_call_of c g h) 0 (size c), and-true, eq-eqb)

  pub true-calls : (g h : ℕ) → is_caller c g h ≡ true → Calls c g h
  unfolding is_caller
  true-calls g h e = grind (arith, common_steps, any-some)

  pub calls-member : (g h : ℕ) → h < 17 → Calls c g h → is_member h (calls_of c g) ≡ true
  calls-member g h l k =
      filter-member (is_caller c g) h (range 0 17)
      ∙ and-true (is_caller c g h) (is_member h (range 0 17)) (calls-true g h k) (range-member h 0 17 (omega arith) (omega arith))

  pub member-calls : (g h : ℕ) → is_member h (calls_of c g) ≡ true → Calls c g h
  member-calls g h m =
      true-calls g h (and-l (is_caller c g h) (is_member h (range 0 17)) (sym (filter-member (is_caller c g) h (range 0 17)) ∙ m))

  -- a node of kind 4, or of kind 2 that calls
  pub holds-function : (v : ℕ) → kind c v ≡ 4 → has_call c v ≡ true
  holds-function v e = or-true-l (is c 4 v) (is c 2 v && not (argument c v == 0)) (eq-eqb (kind c v) 4 e)

  pub holds-operation : (v : ℕ) → kind c v ≡ 2 → (argument c v ≡ 0 → ⊥) → has_call c v ≡ true
  holds-operation v e a = grind (arith, common_steps)

  -- scheme 1 to 16 calls scheme 2 to 16
  pub called-range : Facts c → (g h : ℕ) → Calls c g h → (1 ≤ g) × (g ≤ 16) × (2 ≤ h) × (h ≤ 16)
  called-range f g h k = grind (arith, common_steps)
