-- What acceptance of a chart gives for its nodes and for the walk; the laws of the walk and of the table take this record.
use Rattle.std.proofs.Common.{ℕ, ◌*◌, ◌≤◌, ◌<◌, true, ◌≡◌, length, slice_index}
use Rattle.text.specs.frames.Frame.{size}
use Rattle.charts.specs.Chart.{Chart, kind, scheme, argument, next0, next1, result, handler, schemes, begin, end}
pub use Rattle.charts.proofs.Nodes.{Target}
use Rattle.walk.specs.Stops.{is_stop, start, by_arc, by_word}

-- node u is a stop of scheme h
pub record StopOf (c : Chart) (h u : ℕ) : Type 0 where
  pub inside : u < size c
  pub same : scheme c u ≡ h
  pub stopping : is_stop c u ≡ true

pub record Facts (c : Chart) : Type 0 where
  -- lengths and bytes: refusals 1 to 4
  pub whole : length c ≡ 10 * size c
  pub some : 1 ≤ size c
  pub few : size c ≤ 256
  pub bytes : (k : ℕ) → slice_index c k < 256
  pub kinds : (v : ℕ) → v < size c → kind c v ≤ 4
  pub conditions : (v : ℕ) → v < size c → kind c v ≡ 3 → argument c v ≤ 15
  pub results : (v : ℕ) → v < size c → kind c v ≡ 2 → result c v ≤ 2
  -- schemes 1 to H, with Begin and End: refusals 4 and 5
  pub first : 1 ≤ schemes c
  pub most : schemes c ≤ 16
  pub owned : (v : ℕ) → v < size c → (1 ≤ scheme c v) × (scheme c v ≤ schemes c)
  pub begins : (h : ℕ) → 1 ≤ h → h ≤ schemes c → (begin c h < size c) × (kind c (begin c h) ≡ 0) × (scheme c (begin c h) ≡ h)
  pub ends : (h : ℕ) → 1 ≤ h → h ≤ schemes c → (end c h < size c) × (kind c (end c h) ≡ 1) × (scheme c (end c h) ≡ h)
  -- the handler, where there is one: refusal 19
  pub handled : (handler c ≡ 0 → ⊥) → (2 ≤ handler c) × (handler c ≤ schemes c)
  -- arcs and calls: refusals 6 and 7
  pub arc0 : (v : ℕ) → v < size c → (kind c v ≡ 1 → ⊥) → Target c (scheme c v) (next0 c v)
  pub arc1 : (v : ℕ) → v < size c → 3 ≤ kind c v → Target c (scheme c v) (next1 c v)
  pub calls : (v : ℕ) → v < size c → kind c v ≡ 2 → (argument c v ≡ 0 → ⊥) → (2 ≤ argument c v) × (argument c v ≤ schemes c)
  pub functions : (v : ℕ) → v < size c → kind c v ≡ 4 → (2 ≤ argument c v) × (argument c v ≤ schemes c)
  -- no circle of conditions, refusal 8: every way on ends at a stop of the same scheme
  pub follows : (h v w : ℕ) → Target c h v → StopOf c h (by_arc c w v)
  pub tests : (v w : ℕ) → v < size c → kind c v ≡ 3 → StopOf c (scheme c v) (by_word c w v)
  pub starts : (h : ℕ) → 1 ≤ h → h ≤ schemes c → StopOf c h (start c h)
