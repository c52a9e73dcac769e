-- Chains of calls, with no rounds in them: what the number of places and refusal 20 mean.
use Rattle.std.specs.Prelude.{ℕ, suc, ◌≤◌, ◌<◌, true, ◌≡◌}
use Rattle.text.specs.frames.Frame.{size}
use Rattle.charts.specs.Chart.{Chart, scheme, argument}
use Rattle.places.specs.chains.Calls.{has_call}

-- a node of scheme g holds a call of scheme h
pub record Calls (c : Chart) (g h : ℕ) : Type 0 where
  pub node : ℕ
  pub inside : node < size c
  pub holds : has_call c node ≡ true
  pub owner : scheme c node ≡ g
  pub called : argument c node ≡ h

-- a chain of n schemes from scheme 1 to scheme h, each calling the next
pub data Chain (c : Chart) : ℕ → ℕ → Type 0 where
  first : Chain c 1 1
  on : {m g h : ℕ} → Chain c m g → Calls c g h → Chain c (suc m) h

-- one call or more lead from scheme g to scheme h
pub data Leads (c : Chart) (g : ℕ) : ℕ → Type 0 where
  one : {h : ℕ} → Calls c g h → Leads c g h
  more : {h k : ℕ} → Leads c g h → Calls c h k → Leads c g k

-- a scheme that a chain from scheme 1 ends in, and that can call itself
pub record Circle (c : Chart) : Type 0 where
  pub scheme : ℕ
  pub schemes : ℕ
  pub chain : Chain c schemes scheme
  pub back : Leads c scheme scheme

-- there is a chain of n schemes, and none of more
pub record Longest (c : Chart) (n : ℕ) : Type 0 where
  pub end : ℕ
  pub chain : Chain c n end
  pub most : (m h : ℕ) → Chain c m h → m ≤ n
