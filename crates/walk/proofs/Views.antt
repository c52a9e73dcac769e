-- What a node is as a stop, by its kind.
use Rattle.std.proofs.Common.{ℕ, zero, suc, ◌≤◌, Bool, true, false, not, ◌≡◌, refl, sym, ◌∙◌, ap, arith, eqb-true, eq-eqb, ne_eqb, ◌==◌}
use borrow.Author.Tests.{eqb-false}
use Rattle.std.proofs.lemmas.Bool.{cond-true, cond-false}
use Rattle.words.proofs.lists.Tests.{and-r}
use Rattle.charts.specs.Layout.{kind_of}
use Rattle.charts.specs.Chart.{Chart, kind, scheme, argument, next0, next1, result, mask, is}
use Rattle.walk.specs.Stops.{is_stop_as, is_stop, Stop, plain, call, function, test, home, back, stop_as, stop_at}

-- the seven cases; a test is made by a Begin, of the node after it, or by a condition, of itself
pub data View (c : Chart) (v : ℕ) : Stop → Type 0 where
  a-plain : kind c v ≡ 2 → argument c v ≡ 0 → View c v (plain (mask c v) (result c v) (next0 c v))
  a_call : kind c v ≡ 2 → (argument c v ≡ 0 → ⊥) → View c v (call (mask c v) (result c v) (argument c v) (next0 c v))
  a-function : kind c v ≡ 4 → View c v (function (argument c v) (next0 c v) (next1 c v))
  a-home : kind c v ≡ 1 → scheme c v ≡ 1 → View c v home
  a_back : kind c v ≡ 1 → (scheme c v ≡ 1 → ⊥) → View c v back
  a-begin : kind c v ≡ 0 → View c v (test (next0 c v))
  a-condition : kind c v ≡ 3 → View c v (test v)

module _ (c : Chart) (v : ℕ) where
  stop-by : (k : ℕ) → kind c v ≡ k → stop_at c v ≡ stop_as c v (kind_of k)
  unfolding stop_at
  stop-by k e = ap (λ (k : ℕ). stop_as c v (kind_of k)) e

  stop-plain : kind c v ≡ 2 → argument c v ≡ 0 → stop_at c v ≡ plain (mask c v) (result c v) (next0 c v)
  stop-plain e a = stop-by 2 e ∙ cond-true (argument c v == 0) _ _ (eq-eqb (argument c v) 0 a)

  pub stop-call : kind c v ≡ 2 → (argument c v ≡ 0 → ⊥) → stop_at c v ≡ call (mask c v) (result c v) (argument c v) (next0 c v)
  stop-call e a = stop-by 2 e ∙ cond-false (argument c v == 0) _ _ (ne_eqb (argument c v) 0 a)

  pub stop-function : kind c v ≡ 4 → stop_at c v ≡ function (argument c v) (next0 c v) (next1 c v)
  stop-function e = stop-by 4 e

  stop-home : kind c v ≡ 1 → scheme c v ≡ 1 → stop_at c v ≡ home
  stop-home e s = stop-by 1 e ∙ cond-true (scheme c v == 1) home back (eq-eqb (scheme c v) 1 s)

  stop-back : kind c v ≡ 1 → (scheme c v ≡ 1 → ⊥) → stop_at c v ≡ back
  stop-back e s = stop-by 1 e ∙ cond-false (scheme c v == 1) home back (ne_eqb (scheme c v) 1 s)

  stop-begin : kind c v ≡ 0 → stop_at c v ≡ test (next0 c v)
  stop-begin e = stop-by 0 e

  stop-condition : kind c v ≡ 3 → stop_at c v ≡ test v
  stop-condition e = stop-by 3 e

  -- every node of an accepted chart has a view
  pub view : kind c v ≤ 4 → View c v (stop_at c v)
  view l = go (kind c v) refl l
    where
      by-argument : kind c v ≡ 2 → (t : Bool) → (argument c v == 0) ≡ t → View c v (stop_at c v)
      by-argument e true t = rw (stop-plain e (eqb-true (argument c v) 0 t)) (a-plain e (eqb-true (argument c v) 0 t))
      by-argument e false t = rw (stop-call e (eqb-false (argument c v) 0 t)) (a_call e (eqb-false (argument c v) 0 t))

      by-scheme : kind c v ≡ 1 → (t : Bool) → (scheme c v == 1) ≡ t → View c v (stop_at c v)
      by-scheme e true t = rw (stop-home e (eqb-true (scheme c v) 1 t)) (a-home e (eqb-true (scheme c v) 1 t))
      by-scheme e false t = rw (stop-back e (eqb-false (scheme c v) 1 t)) (a_back e (eqb-false (scheme c v) 1 t))

      go : (k : ℕ) → kind c v ≡ k → k ≤ 4 → View c v (stop_at c v)
      go zero e l = rw (stop-begin e) (a-begin e)
      go (suc zero) e l = by-scheme e (scheme c v == 1) refl
      go (suc (suc zero)) e l = by-argument e (argument c v == 0) refl
      go (suc (suc (suc zero))) e l = rw (stop-condition e) (a-condition e)
      go (suc (suc (suc (suc zero)))) e l = rw (stop-function e) (a-function e)
      go (suc (suc (suc (suc (suc k))))) e l = absurd (omega arith)

  -- a Begin that stops leads to a condition, and an End always stops
  pub stops-by : (k : ℕ) → kind c v ≡ k → is_stop c v ≡ is_stop_as c v (kind_of k)
  unfolding is_stop
  stops-by k e = ap (λ (k : ℕ). is_stop_as c v (kind_of k)) e

  pub begin-leads : kind c v ≡ 0 → is_stop c v ≡ true → kind c (next0 c v) ≡ 3
  begin-leads e s = eqb-true (kind c (next0 c v)) 3 (and-r (not (scheme c v == 1)) (is c 3 (next0 c v)) (sym (stops-by 0 e) ∙ s))

  pub end-stops : kind c v ≡ 1 → is_stop c v ≡ true
  end-stops e = stops-by 1 e
