-- Where no scheme in reach of scheme 1 calls itself, `places` is the number of schemes of the longest chain.
use Rattle.std.proofs.Common.{ℕ, zero, suc, ◌+◌, ◌-◌, ◌≤◌, ◌<◌, Bool, true, false, ◌&&◌, not, ◌≡◌, refl, sym, ◌∙◌, ap, subst, ⊎_elim, [], ◌==◌, ◌∷◌}
use Rattle.std.proofs.Common.{arith, zero-add, ne_eqb}
use Rattle.std.proofs.lemmas.Grind.{common_steps}
use Rattle.words.specs.lists.Numbers.{any, lowest}
use Rattle.words.proofs.lists.Tests.{no_both, or-none, and-l, and-r, and-true, and-false, not-false, cases, split}
use Rattle.words.proofs.lists.Searches.{any-true, any-some, any-false, lowest-hit, lowest-before}
use Rattle.words.proofs.lists.Counts.{count-miss}
use Rattle.words.proofs.lists.Ranges.{length-map-range, get_or-map-range}
use Rattle.words.specs.graph.Reach.{is_member, is_marked, nodes_joined_from}
use Rattle.words.proofs.graph.Closure.{marked-below, only-long, only-at, joined-first, joined-closed, joined-least, Closed}
use Rattle.words.proofs.graph.Rank.{rank, rank-some, rank-falls, marks_after_arcs, with}
use Rattle.charts.specs.Chart.{Chart}
use Rattle.walk.proofs.Facts.{Facts}
use Rattle.places.specs.chains.Calls.{is_caller, calls_of, is_calling_itself, is_circular, ends_of, has_no_end, places}
use Rattle.places.specs.chains.Chains.{Chain, first, on}
use Rattle.places.proofs.chains.CallLaws.{calls-true, true-calls, calls-member, member-calls, called-range}

pub one-member : (h : ℕ) → is_member h (1 ∷ []) ≡ true → h ≡ 1
one-member h m = grind (arith, common_steps)

one-is : is_member 1 (1 ∷ []) ≡ true
one-is = refl

pub chain-some : (c : Chart) {n h : ℕ} → Chain c n h → 1 ≤ n
chain-some c first = omega arith
chain-some c (on k s) = omega arith

-- ---- the marks are the ends of chains
module _ (c : Chart) where
  abbrev is_end_calling : ℕ → ℕ → ℕ → Bool
  is_end_calling k h g = is_marked (ends_of c k) g && is_caller c g h

  pub ends-suc : (k h : ℕ) → h < 17 → is_marked (ends_of c (suc k)) h ≡ any (is_end_calling k h) 0 17
  unfolding ends_of
  ends-suc k h l =
      get_or-map-range (λ h. any (is_end_calling k h) 0 17) false 0 17 h l ∙ ap (λ (j : ℕ). any (is_end_calling k j) 0 17) (zero-add h)

  pub ends-below : (k h : ℕ) → is_marked (ends_of c k) h ≡ true → h < 17
  unfolding ends_of
  ends-below zero h m = marked-below 17 (ends_of c 0) h (only-long 17 (1 ∷ [])) m
  ends-below (suc k) h m = marked-below 17 (ends_of c (suc k)) h (length-map-range (λ h. any (is_end_calling k h) 0 17) 0 17) m

  -- every end that is marked has a chain
  pub end-chain : (k h : ℕ) → is_marked (ends_of c k) h ≡ true → Chain c (suc k) h
  unfolding ends_of
  end-chain zero h m =
      let l : h < 17 = ends-below 0 h m in
      subst (Chain c 1) (sym (one-member h (sym (only-at 17 (1 ∷ []) h l) ∙ m))) first
  end-chain (suc k) h m =
      let l : h < 17 = ends-below (suc k) h m in
      let r = any-some (is_end_calling k h) 0 17 (sym (ends-suc k h l) ∙ m) in
      let g : ℕ = r.0 in
      on (end-chain k g (and-l (is_marked (ends_of c k) g) (is_caller c g h) r.3))
      (true-calls c g h (and-r (is_marked (ends_of c k) g) (is_caller c g h) r.3))

  module _ (f : Facts c) where
    -- and every chain has its end marked
    pub chain-end : (k h : ℕ) → Chain c (suc k) h → is_marked (ends_of c k) h ≡ true
    unfolding ends_of
    chain-end zero h first = only-at 17 (1 ∷ []) 1 (omega arith) ∙ one-is
    chain-end zero h (on s k) = absurd (omega (arith, chain-some c s))
    chain-end (suc k) h (on {m} {g} s call) =
        let r = called-range c f g h call in
        ends-suc k h (omega (arith, r))
        ∙ any-true (is_end_calling k h) 0 17 g (omega arith) (omega (arith, r))
        (and-true (is_marked (ends_of c k) g) (is_caller c g h) (chain-end k g s) (calls-true c g h call))

    chain-inside : (n h : ℕ) → Chain c n h → h < 17
    chain-inside n h first = omega arith
    chain-inside n h (on {m} {g} s call) = let r = called-range c f g h call in omega (arith, r)

    pub filled : (k h : ℕ) → Chain c (suc k) h → has_no_end c k ≡ false
    filled k h s =
        ap not (any-true (is_marked (ends_of c k)) 0 17 h (omega arith) (omega (arith, chain-inside (suc k) h s)) (chain-end k h s))

    -- a chain has a shorter one in front
    pub record Front (n : ℕ) : Type 0 where
      pub end : ℕ
      pub chain : Chain c n end

    pub front : (d n h : ℕ) → 1 ≤ n → Chain c (n + d) h → Front n
    front zero n h l s = record { end = h; chain = subst (λ (m : ℕ). Chain c m h) (omega arith) s }
    front (suc d) n h l s = go (front d n) (n + d) h refl (subst (λ (m : ℕ). Chain c m h) (omega arith) s)
      where
        go : ((g : ℕ) → 1 ≤ n → Chain c (n + d) g → Front n) → (i k : ℕ) → i ≡ n + d → Chain c (suc i) k → Front n
        go ih i k e (on {m} {g} t call) = ih g l (subst (λ (j : ℕ). Chain c j g) e t)
        go ih i k e first = absurd (omega arith)

    -- ---- no circle: the rank of a scheme falls along a chain, so that no chain has more than 16 schemes
    abbrev reached : ℕ → Bool
    reached h = is_marked (nodes_joined_from 17 (calls_of c) (1 ∷ [])) h

    pub chain-reached : (n h : ℕ) → Chain c n h → reached h ≡ true
    chain-reached n h first = joined-first 17 (calls_of c) (1 ∷ []) 1 (omega arith) one-is
    chain-reached n h (on {m} {g} s call) =
        let r = called-range c f g h call in
        (joined-closed 17 (calls_of c) (1 ∷ [])).goes g h (omega (arith, r)) (omega (arith, r))
        (chain-reached m g s) (calls-member c g h (omega (arith, r)) call)

    abbrev nonzero : ℕ → Bool
    nonzero h = not (h == 0)

    never-zero : Closed 17 (calls_of c) nonzero
    never-zero = grind (arith, common_steps, called-range c f, member-calls c, ne_eqb)

    -- nobody calls scheme 0
    unjoined : (h : ℕ) → is_marked (marks_after_arcs 17 (calls_of c) h) 0 ≡ false
    unjoined h = ⊎_elim
        (λ (e : is_marked (marks_after_arcs 17 (calls_of c) h) 0 ≡ true). no_both false
        (joined-least 17 (calls_of c) (calls_of c h) nonzero never-zero
        (λ g l s. let r = called-range c f h g (member-calls c h g s) in ap not (ne_eqb g 0 (λ q. omega (arith, r)))) 0 e) refl)
        (λ e. e) (cases (is_marked (marks_after_arcs 17 (calls_of c) h) 0))

    rank-most : rank 17 (calls_of c) 1 ≤ 16
    unfolding rank
    rank-most =
        let l : rank 17 (calls_of c) 1 < 17 = count-miss (with 17 (calls_of c) 1) 17 0 (omega arith)
        (or-none (1 == 0) (is_marked (marks_after_arcs 17 (calls_of c) 1) 0) refl (unjoined 1)) in omega arith

    module _ (calm : is_circular c ≡ false) where
      no-return : (h : ℕ) → 1 ≤ h → h ≤ 16 → reached h ≡ true → is_marked (marks_after_arcs 17 (calls_of c) h) h ≡ false
      unfolding is_circular
      no-return h a b m = and-false (reached h) (is_marked (marks_after_arcs 17 (calls_of c) h) h)
          (any-false (is_calling_itself c) 1 16 calm h a (omega arith)) m

      falls : (n h : ℕ) → Chain c n h → rank 17 (calls_of c) h + n ≤ rank 17 (calls_of c) 1 + 1
      falls n h first = omega arith
      falls n h (on {m} {g} s call) =
          let r = called-range c f g h call in
          let l : rank 17 (calls_of c) h < rank 17 (calls_of c) g =
          rank-falls 17 (calls_of c) g h (omega (arith, r)) (omega (arith, r)) (calls-member c g h (omega (arith, r)) call)
          (no-return g r.0 r.1 (chain-reached m g s)) in
          omega (arith, falls m g s)

      pub chain-few : (n h : ℕ) → Chain c n h → n ≤ 16
      chain-few n h s = omega (arith, falls n h s, rank-most, rank-some 17 (calls_of c) h (chain-inside n h s))

      -- ---- the longest chain
      places-some : 1 ≤ places c
      unfolding places
      places-some = ⊎_elim (λ (l : 0 < lowest (has_no_end c) 0 16). l)
          (λ (l : lowest (has_no_end c) 0 16 ≤ 0).
          let z : lowest (has_no_end c) 0 16 ≡ 0 = omega arith in
          no_both (has_no_end c (lowest (has_no_end c) 0 16)) (lowest-hit (has_no_end c) 0 16 (omega arith))
          (ap (has_no_end c) z ∙ filled 0 1 first))
          (split 0 (lowest (has_no_end c) 0 16))

      pub no-longer : (n h : ℕ) → Chain c n h → n ≤ places c
      unfolding places
      no-longer n h s = ⊎_elim
          (λ (l : lowest (has_no_end c) 0 16 < n).
          let e : n ≡ suc (lowest (has_no_end c) 0 16) + (n - suc (lowest (has_no_end c) 0 16)) = omega arith in
          let t : Front (suc (lowest (has_no_end c) 0 16)) =
          front (n - suc (lowest (has_no_end c) 0 16)) (suc (lowest (has_no_end c) 0 16)) h (omega arith)
          (subst (λ (m : ℕ). Chain c m h) e s) in
          no_both (has_no_end c (lowest (has_no_end c) 0 16)) (lowest-hit (has_no_end c) 0 16 (omega (arith, chain-few n h s)))
          (filled (lowest (has_no_end c) 0 16) t.end t.chain))
          (λ l. l) (split (lowest (has_no_end c) 0 16) n)

      pub as-long : Front (places c)
      unfolding places
      as-long =
          let k : ℕ = places c - 1 in
          let e : suc k ≡ places c = omega (arith, places-some) in
          let r = any-some (is_marked (ends_of c k)) 0 17 (not-false (any (is_marked (ends_of c k)) 0 17)
          (lowest-before (has_no_end c) 0 16 k (omega arith) (omega (arith, places-some)))) in
          record { end = r.0; chain = subst (λ (m : ℕ). Chain c m r.0) e (end-chain k r.0 r.3) }
