-- What the paths from a node are, by the node: a stop, a condition tested before, a condition tested for the first time.
-- The number of nodes is more than every rank, so the bound on a path's length never shows.
use Rattle.std.proofs.Common.{◌≡◌, refl, sym, ◌∙◌, ap₂, Bool, true, false, List, [], ◌∷◌, ◌++◌, ℕ, zero, suc, ◌+◌, ◌^◌, ◌≤◌, ◌<◌, arith}
use Rattle.std.proofs.Common.{eq-eqb, ne_eqb}
use Rattle.std.proofs.Math.Decide.{ℕ_discrete}
use Rattle.std.specs.Int.{bit_at}
use Rattle.text.specs.frames.Frame.{size}
use Rattle.charts.specs.Chart.{Chart, kind, argument, next0, next1, arc_taken}
use Rattle.charts.proofs.Rank.{rank, rank-le, rank-some, rank-falls0, rank-falls1}
use Rattle.walk.specs.Stops.{is_stop}
use Rattle.walk.proofs.Follow.{goes-on, taken-by, taken-falls}
use Rattle.image.specs.Image.{Row}
use Rattle.chart_rows.specs.Labels.{label}
use Rattle.chart_rows.specs.Rows.{paths}
use Rattle.chart_rows.specs.inner.ChartContracts.{Ready}
use Rattle.chart_rows.specs.inner.PathContracts.{Entered}
use Rattle.chart_rows.specs.inner.NodeRows.{paths_from}
use Rattle.chart_rows.proofs.chart_labels.ReadyLaws.{ready-sound, ready-facts}

abbrev pub path_row : Chart → ℕ → ℕ → ℕ → ℕ → ℕ → Row
path_row c l f care values v = record { from = l; care = care; values = values; bit = f; next = label c v }

module _ (n : ℕ) (c : Chart) (l f care values v : ℕ) where
  pub paths-stop : is_stop c v ≡ true → paths_from (suc n) c l f care values v ≡ path_row c l f care values v ∷ []
  unfolding paths
  paths-stop e = rw (paths, e)

  pub paths-known : is_stop c v ≡ false → bit_at care (argument c v) ≡ 1
      → paths_from (suc n) c l f care values v ≡ paths_from n c l f care values (arc_taken c values v)
  unfolding paths
  paths-known e k = rw (paths, e, eq-eqb (bit_at care (argument c v)) 1 k)

  pub paths-new : is_stop c v ≡ false → (bit_at care (argument c v) ≡ 1 → ⊥)
      → paths_from (suc n) c l f care values v
      ≡ paths_from n c l f (care + 2 ^ argument c v) values (next0 c v)
      ++ paths_from n c l f (care + 2 ^ argument c v) (values + 2 ^ argument c v) (next1 c v)
  unfolding paths
  paths-new e k = rw (paths, e, ne_eqb (bit_at care (argument c v)) 1 k)

module _ (c : Chart) (ready : Ready c) where
  -- the arcs of a condition
  pub entered0 : (v : ℕ) → v < size c → (kind c v ≡ 1 → ⊥) → Entered c (next0 c v)
  entered0 v l k = let t = (ready-facts ready).arc0 v l k in record { inside = t.inside; no_begin = t.entered }

  pub entered1 : (v : ℕ) → v < size c → 3 ≤ kind c v → Entered c (next1 c v)
  entered1 v l k = let t = (ready-facts ready).arc1 v l k in record { inside = t.inside; no_begin = t.entered }

  pub entered-taken : (w v : ℕ) → v < size c → kind c v ≡ 3 → Entered c (arc_taken c w v)
  entered-taken w v l k = taken-by (Entered c) c w v (entered0 v l (λ e. omega arith)) (entered1 v l (omega arith))

  module _ (l f : ℕ) where
    abbrev P : ℕ → ℕ → ℕ → ℕ → List Row
    P n care values v = paths_from n c l f care values v

    -- a bound beyond the rank changes nothing
    same : (n m care values v : ℕ) → Entered c v → rank c v ≤ n → rank c v ≤ m → P n care values v ≡ P m care values v
    same zero m care values v t a b = absurd (omega (arith, rank-some c v t.inside))
    same (suc n) zero care values v t a b = absurd (omega (arith, rank-some c v t.inside))
    same (suc n) (suc m) care values v t a b = go (is_stop c v) refl (ℕ_discrete (bit_at care (argument c v)) 1) (same n m)
      where
        go : (s : Bool) → is_stop c v ≡ s → Dec (bit_at care (argument c v) ≡ 1)
            → ((care values v : ℕ) → Entered c v → rank c v ≤ n → rank c v ≤ m → P n care values v ≡ P m care values v)
            → P (suc n) care values v ≡ P (suc m) care values v
        go true s d ih = paths-stop n c l f care values v s ∙ sym (paths-stop m c l f care values v s)
        go false s (yes k) ih =
            let three : kind c v ≡ 3 = goes-on c v t.no_begin s in
            let r : rank c (arc_taken c values v) < rank c v = taken-falls c (ready-sound ready) values v t.inside three in
            paths-known n c l f care values v s k
            ∙ ih care values (arc_taken c values v) (entered-taken values v t.inside three) (omega arith) (omega arith)
            ∙ sym (paths-known m c l f care values v s k)
        go false s (no k) ih =
            let three : kind c v ≡ 3 = goes-on c v t.no_begin s in
            let r0 : rank c (next0 c v) < rank c v = rank-falls0 c (ready-sound ready) v t.inside three in
            let r1 : rank c (next1 c v) < rank c v = rank-falls1 c (ready-sound ready) v t.inside three in
            paths-new n c l f care values v s k
            ∙ ap₂ (λ (x y : List Row). x ++ y)
            (ih _ _ (next0 c v) (entered0 v t.inside (λ e. omega arith)) (omega arith) (omega arith))
            (ih _ _ (next1 c v) (entered1 v t.inside (omega arith)) (omega arith) (omega arith))
            ∙ sym (paths-new m c l f care values v s k)

    module _ (care values v : ℕ) (t : Entered c v) where
      -- one step more
      more : P (size c) care values v ≡ P (suc (size c)) care values v
      more = same (size c) (suc (size c)) care values v t (rank-le c v) (omega (arith, rank-le c v))

      pub at-stop : is_stop c v ≡ true → P (size c) care values v ≡ path_row c l f care values v ∷ []
      at-stop s = more ∙ paths-stop (size c) c l f care values v s

      pub at-known : is_stop c v ≡ false → bit_at care (argument c v) ≡ 1
          → P (size c) care values v ≡ P (size c) care values (arc_taken c values v)
      at-known s k = more ∙ paths-known (size c) c l f care values v s k

      pub at-new : is_stop c v ≡ false → (bit_at care (argument c v) ≡ 1 → ⊥)
          → P (size c) care values v
          ≡ P (size c) (care + 2 ^ argument c v) values (next0 c v) ++ P (size c)
          (care + 2 ^ argument c v) (values + 2 ^ argument c v) (next1 c v)
      at-new s k = more ∙ paths-new (size c) c l f care values v s k
