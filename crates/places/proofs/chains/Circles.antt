-- What refusal 20 means: a chain from scheme 1 ends in a scheme that can call itself.
use Rattle.std.proofs.Common.{ℕ, zero, suc, ◌+◌, ◌-◌, ◌≤◌, ◌<◌, Bool, true, false, not, ◌≡◌, ap, subst, ⊎_elim, [], ◌∷◌, arith}
use Rattle.words.proofs.lists.Tests.{and-l, and-r, and-true, cases}
use Rattle.words.proofs.lists.Searches.{any-true, any-some, any-none}
use Rattle.words.specs.graph.Reach.{is_marked, nodes_joined_from}
use Rattle.words.proofs.graph.Closure.{joined-first, joined-closed}
use Rattle.words.specs.graph.Paths.{Path, here, on as further, PathFrom}
use Rattle.words.proofs.graph.Paths.{joined-path}
use Rattle.charts.specs.Chart.{Chart}
use Rattle.walk.proofs.Facts.{Facts}
use Rattle.places.specs.chains.Calls.{calls_of, is_calling_itself, is_circular, ends_of, has_no_end}
use Rattle.places.specs.chains.Chains.{Calls, Chain, first, on, Leads, one, more, Circle}
use Rattle.places.proofs.chains.CallLaws.{calls-member, member-calls, called-range}
use Rattle.places.proofs.chains.Longest.{one-member, chain-some, chain-reached, chain-few, end-chain, filled, Front, front}

module _ (c : Chart) where
  -- a chain of some length
  record ChainTo (h : ℕ) : Type 0 where
    schemes : ℕ
    chain : Chain c schemes h

  path-chain : {h : ℕ} → Path 17 (calls_of c) 1 h → ChainTo h
  path-chain here = record { schemes = 1; chain = first }
  path-chain (further {v} {w} p a) =
      let s : ChainTo v = path-chain p in record { schemes = suc s.schemes; chain = on s.chain (member-calls c v w a.leads) }

  path-leads : (g h : ℕ) → Calls c g h → {k : ℕ} → Path 17 (calls_of c) h k → Leads c g k
  path-leads g h s here = one s
  path-leads g h s (further {v} {w} p a) = more (path-leads g h s p) (member-calls c v w a.leads)

  pub circle-told : is_circular c ≡ true → Circle c
  unfolding is_circular
  circle-told e =
      let r = any-some (is_calling_itself c) 1 16 e in
      let h : ℕ = r.0 in
      let reached : Bool = is_marked (nodes_joined_from 17 (calls_of c) (1 ∷ [])) h in
      let back : Bool = is_marked (nodes_joined_from 17 (calls_of c) (calls_of c h)) h in
      let p : PathFrom 17 (calls_of c) (1 ∷ []) h = joined-path 17 (calls_of c) (1 ∷ []) h (and-l reached back r.3) in
      let q : PathFrom 17 (calls_of c) (calls_of c h) h = joined-path 17 (calls_of c) (calls_of c h) h (and-r reached back r.3) in
      let s : ChainTo h = path-chain (subst (λ (g : ℕ). Path 17 (calls_of c) g h) (one-member p.first p.among) p.path) in
      record {
        scheme = h;
        schemes = s.schemes;
        chain = s.chain;
        back =
            path-leads h q.first (member-calls c h q.first q.among) q.path;
      }

  module _ (f : Facts c) where
    leads-marked : (g h : ℕ) → Leads c g h → is_marked (nodes_joined_from 17 (calls_of c) (calls_of c g)) h ≡ true
    leads-marked g h (one s) = grind (arith, called-range c f g h s, joined-first 17 (calls_of c) (calls_of c g) h, calls-member c g h)
    leads-marked g k (more {h} l s) = grind (arith, leads-marked g h l, called-range c f h k s, joined-closed 17 (calls_of c) (calls_of c g), calls-member c h k)

    leads-from : (g h : ℕ) → Leads c g h → (1 ≤ g) × (g ≤ 16)
    leads-from g h (one s) = let r = called-range c f g h s in (r.0, r.1)
    leads-from g k (more {h} l s) = leads-from g h l

    pub circle-refused : Circle c → is_circular c ≡ true
    unfolding is_circular
    circle-refused k = grind (arith, leads-from, any-true (is_calling_itself c) 1 16, and-true, chain-reached c f k.schemes, leads-marked)

-- ---- how the code tells: there is a circle exactly where a chain has 17 schemes
module _ (c : Chart) (f : Facts c) where
  -- a chain of more than n schemes
  record Further (n h : ℕ) : Type 0 where
    schemes : ℕ
    beyond : n < schemes
    chain : Chain c schemes h

  -- a chain goes on by the calls that lead from its end
  longer : (g h : ℕ) → Leads c g h → (n : ℕ) → Chain c n g → Further n h
  longer g h (one s) n k = record { schemes = suc n; beyond = omega arith; chain = on k s }
  longer g k (more {h} l s) n q =
      let r : Further n h = longer g h l n q in
      record { schemes = suc r.schemes; beyond = omega (arith, r.beyond); chain = on r.chain s }

  -- round and round
  rounds : (h : ℕ) → Leads c h h → (m n : ℕ) → Chain c n h → Further m h
  rounds h l zero n k = record { schemes = n; beyond = chain-some c k; chain = k }
  rounds h l (suc m) n k =
      let r : Further m h = rounds h l m n k in
      let q : Further r.schemes h = longer h h l r.schemes r.chain in
      record { schemes = q.schemes; beyond = omega (arith, r.beyond, q.beyond); chain = q.chain }

  pub circle-long : Circle c → (k : ℕ) → has_no_end c k ≡ false
  circle-long q k =
      let r : Further k q.scheme = rounds q.scheme q.back k q.schemes q.chain in
      let t : Front c f (suc k) = front c f (r.schemes - suc k) (suc k) q.scheme (omega arith)
      (subst (λ (n : ℕ). Chain c n q.scheme) (omega (arith, r.beyond)) r.chain) in
      filled c f k t.end t.chain

  pub no-circle-short : is_circular c ≡ false → has_no_end c 16 ≡ true
  no-circle-short calm = ap not (any-none (is_marked (ends_of c 16)) 0 17 (λ h l. ⊎_elim
      (λ (m : is_marked (ends_of c 16) (0 + h) ≡ true). absurd (omega (arith, chain-few c f calm 17 (0 + h) (end-chain c 16 (0 + h) m))))
      (λ m. m) (cases (is_marked (ends_of c 16) (0 + h)))))
