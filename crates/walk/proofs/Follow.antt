-- Following arcs ends at a stop of the scheme within as many steps as there are nodes, and performing a scheme starts at a stop.
use Rattle.std.proofs.Common.{◌≡◌, refl, sym, ◌∙◌, ap, subst, ◌⊎◌, inl, inr, Bool, true, false, ◌&&◌, not, ℕ, zero, suc, ◌≤◌, ◌<◌, arith}
use Rattle.std.proofs.Common.{◌==◌}
use Rattle.std.proofs.Common.{eqb-true, eq-eqb, ne_eqb}
use Rattle.std.proofs.Math.Decide.{ℕ_discrete}
use Rattle.std.proofs.lemmas.Grind.{common_steps}
use Rattle.std.proofs.lemmas.Bool.{cond-true, cond-false}
use Rattle.words.proofs.lists.Tests.{no_both, and-true, cases}
use Rattle.std.specs.Int.{bit_at}
use Rattle.text.specs.frames.Frame.{size}
use Rattle.charts.specs.Chart.{Chart, kind, scheme, argument, next0, next1, is, schemes, begin, arc_taken}
use Rattle.charts.proofs.Accepted.{SoundChart}
use Rattle.charts.proofs.Nodes.{Target, TheNode, begins, arc0, arc1}
use Rattle.charts.proofs.Rank.{rank, rank-le, rank-some, rank-falls0, rank-falls1}
use Rattle.walk.specs.Stops.{is_stop, start, next_stop, by_arc, by_word}
use Rattle.walk.proofs.Facts.{StopOf}
use Rattle.walk.proofs.Views.{stops-by}

-- ---- which nodes are stops
pub stops-other : (c : Chart) (v : ℕ) → (kind c v ≡ 0 → ⊥) → (kind c v ≡ 3 → ⊥) → is_stop c v ≡ true
stops-other c v z n = go (kind c v) refl z n
  where
    go : (k : ℕ) → kind c v ≡ k → (k ≡ 0 → ⊥) → (k ≡ 3 → ⊥) → is_stop c v ≡ true
    go zero e z n = absurd (z refl)
    go (suc zero) e z n = stops-by c v 1 e
    go (suc (suc zero)) e z n = stops-by c v 2 e
    go (suc (suc (suc zero))) e z n = absurd (n refl)
    go (suc (suc (suc (suc zero)))) e z n = stops-by c v 4 e
    go (suc (suc (suc (suc (suc k))))) e z n = stops-by c v (suc (suc (suc (suc (suc k))))) e

pub stops-condition : (c : Chart) (v : ℕ) → kind c v ≡ 3 → is_stop c v ≡ (scheme c v == 1 && next0 c (begin c 1) == v)
stops-condition c v e = stops-by c v 3 e

pub stops-begin : (c : Chart) (v : ℕ) → kind c v ≡ 0 → is_stop c v ≡ (not (scheme c v == 1) && is c 3 (next0 c v))
stops-begin c v e = stops-by c v 0 e

-- an arc's end that is no stop is a condition
pub goes-on : (c : Chart) (v : ℕ) → (kind c v ≡ 0 → ⊥) → is_stop c v ≡ false → kind c v ≡ 3
goes-on c v z s = grind (arith, common_steps, no_both, stops-other)

-- ---- one step
pub follow-stays : (n : ℕ) (c : Chart) (w v : ℕ) → is_stop c v ≡ true → next_stop (suc n) c w v ≡ v
unfolding next_stop
follow-stays n c w v e = rw (next_stop, e)

pub follow-goes : (n : ℕ) (c : Chart) (w v : ℕ) → is_stop c v ≡ false → next_stop (suc n) c w v ≡ next_stop n c w (arc_taken c w v)
unfolding next_stop
follow-goes n c w v e = rw (next_stop, e)

-- the arc that a word takes, by the bit of the condition
pub takes-0 : (c : Chart) (w v : ℕ) → bit_at w (argument c v) ≡ 0 → arc_taken c w v ≡ next0 c v
takes-0 c w v z = cond-true (bit_at w (argument c v) == 0) (next0 c v) (next1 c v) (eq-eqb (bit_at w (argument c v)) 0 z)

pub takes-1 : (c : Chart) (w v : ℕ) → bit_at w (argument c v) ≡ 1 → arc_taken c w v ≡ next1 c v
takes-1 c w v o = cond-false (bit_at w (argument c v) == 0) (next0 c v) (next1 c v) (ne_eqb (bit_at w (argument c v)) 0 (λ q. omega arith))

-- what holds of both arcs holds of the one taken
pub taken-by : (P : ℕ → Type 0) (c : Chart) (w v : ℕ) → P (next0 c v) → P (next1 c v) → P (arc_taken c w v)
taken-by P c w v p q = grind (arith, common_steps)

pub target-as : (c : Chart) {h g u : ℕ} → h ≡ g → Target c h u → Target c g u
target-as c e t = record { inside = t.inside; same = t.same ∙ e; entered = t.entered }

module _ (c : Chart) (a : SoundChart c) where
  pub condition-arc0 : (h v : ℕ) → Target c h v → kind c v ≡ 3 → Target c h (next0 c v)
  condition-arc0 h v t k = target-as c t.same (arc0 c a v t.inside (λ e. omega arith))

  pub condition-arc1 : (h v : ℕ) → Target c h v → kind c v ≡ 3 → Target c h (next1 c v)
  condition-arc1 h v t k = target-as c t.same (arc1 c a v t.inside (omega arith))

  pub taken-end : (h w v : ℕ) → Target c h v → kind c v ≡ 3 → Target c h (arc_taken c w v)
  taken-end h w v t k = taken-by (λ u. Target c h u) c w v (condition-arc0 h v t k) (condition-arc1 h v t k)

  pub taken-falls : (w v : ℕ) → v < size c → kind c v ≡ 3 → rank c (arc_taken c w v) < rank c v
  taken-falls w v l k = taken-by (λ u. rank c u < rank c v) c w v (rank-falls0 c a v l k) (rank-falls1 c a v l k)

  stays : (h v : ℕ) → Target c h v → is_stop c v ≡ true → StopOf c h v
  stays h v t s = record { inside = t.inside; same = t.same; stopping = s }

  pub follow-stop : (n h w v : ℕ) → Target c h v → rank c v ≤ n → StopOf c h (next_stop n c w v)
  follow-stop zero h w v t r = absurd (omega (arith, rank-some c v t.inside))
  follow-stop (suc n) h w v t r = go (is_stop c v) refl (follow-stop n h w (arc_taken c w v))
    where
      go : (b : Bool) → is_stop c v ≡ b
          → (Target c h (arc_taken c w v) → rank c (arc_taken c w v) ≤ n → StopOf c h (next_stop n c w (arc_taken c w v)))
          → StopOf c h (next_stop (suc n) c w v)
      go true s ih = subst (λ (u : ℕ). StopOf c h u) (sym (follow-stays n c w v s)) (stays h v t s)
      go false s ih =
          let k : kind c v ≡ 3 = goes-on c v t.entered s in
          subst (λ (u : ℕ). StopOf c h u) (sym (follow-goes n c w v s))
          (ih (taken-end h w v t k) (omega (arith, taken-falls w v t.inside k)))

  -- more steps than the rank change nothing
  pub follow-more : (n h w v : ℕ) → Target c h v → rank c v ≤ n → next_stop (suc n) c w v ≡ next_stop n c w v
  follow-more zero h w v t r = absurd (omega (arith, rank-some c v t.inside))
  follow-more (suc n) h w v t r = go (is_stop c v) refl (follow-more n h w (arc_taken c w v))
    where
      go : (b : Bool) → is_stop c v ≡ b
          → (Target c h (arc_taken c w v) → rank c (arc_taken c w v) ≤ n → next_stop (suc n) c w (arc_taken c w v)
          ≡ next_stop n c w (arc_taken c w v))
          → next_stop (suc (suc n)) c w v ≡ next_stop (suc n) c w v
      go true s ih = follow-stays (suc n) c w v s ∙ sym (follow-stays n c w v s)
      go false s ih =
          let k : kind c v ≡ 3 = goes-on c v t.entered s in
          follow-goes (suc n) c w v s ∙ ih (taken-end h w v t k) (omega (arith, taken-falls w v t.inside k))
          ∙ sym (follow-goes n c w v s)

  pub follows : (h v w : ℕ) → Target c h v → StopOf c h (by_arc c w v)
  follows h v w t = follow-stop (size c) h w v t (rank-le c v)

  taken-here : (w v : ℕ) → v < size c → kind c v ≡ 3 → Target c (scheme c v) (arc_taken c w v)
  taken-here w v l k = taken-by (λ u. Target c (scheme c v) u) c w v (arc0 c a v l (λ e. omega arith)) (arc1 c a v l (omega arith))

  pub tests : (v w : ℕ) → v < size c → kind c v ≡ 3 → StopOf c (scheme c v) (by_word c w v)
  tests v w l k = follows (scheme c v) (arc_taken c w v) w (taken-here w v l k)

  -- a condition that is no stop goes on as its test says
  pub follow-condition : (v w : ℕ) → v < size c → kind c v ≡ 3 → is_stop c v ≡ false → by_arc c w v ≡ by_word c w v
  follow-condition v w l k s = go (size c) refl
    where
      go : (n : ℕ) → size c ≡ n → by_arc c w v ≡ by_word c w v
      go zero e = absurd (omega arith)
      go (suc n) e =
          ap (λ (m : ℕ). next_stop m c w v) e ∙ follow-goes n c w v s
          ∙ sym (follow-more n (scheme c v) w (arc_taken c w v) (taken-here w v l k) (omega (arith, taken-falls w v l k, rank-le c v)))
          ∙ sym (ap (λ (m : ℕ). next_stop m c w (arc_taken c w v)) e)

  -- ---- where a scheme starts
  -- the node after a Begin that is no stop
  first-stop : (h v : ℕ) → TheNode c 0 h v → v ≡ begin c h → is_stop c v ≡ false → is_stop c (next0 c v) ≡ true
  first-stop h v b e s = go (arc0 c a v b.inside (λ q. omega (arith, b.kinded)))
      (ℕ_discrete (kind c (next0 c v)) 3) (cases (scheme c v == 1))
    where
      go : Target c (scheme c v) (next0 c v) → Dec (kind c (next0 c v) ≡ 3)
          → ((scheme c v == 1) ≡ true) ⊎ ((scheme c v == 1) ≡ false) → is_stop c (next0 c v) ≡ true
      go t (no n) x = stops-other c (next0 c v) t.entered n
      go t (yes k) (inl x) =
          let one : scheme c v ≡ 1 = eqb-true (scheme c v) 1 x in
          stops-condition c (next0 c v) k ∙ and-true (scheme c (next0 c v) == 1) (next0 c (begin c 1) == next0 c v)
          (eq-eqb (scheme c (next0 c v)) 1 (t.same ∙ one))
          (eq-eqb (next0 c (begin c 1)) (next0 c v) (ap (next0 c) (ap (begin c) (sym one ∙ b.same) ∙ sym e)))
      go t (yes k) (inr x) =
          no_both (is_stop c v) (stops-begin c v b.kinded
          ∙ and-true (not (scheme c v == 1)) (is c 3 (next0 c v)) (ap not x) (eq-eqb (kind c (next0 c v)) 3 k))
          s

  pub starts : (h : ℕ) → 1 ≤ h → h ≤ schemes c → StopOf c h (start c h)
  unfolding start
  starts h l m = go (is_stop c (begin c h)) refl
    where
      go : (x : Bool) → is_stop c (begin c h) ≡ x → StopOf c h (start c h)
      go true s = grind (arith, common_steps, cond-true, begins)
      go false s = grind (arith, common_steps, cond-false, arc0, begins, target-as, stays, first-stop)
