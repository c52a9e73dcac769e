-- A code 60 hexadecimal is made exactly at a call for which no place is free, where there is a handler and it is not the first scheme
-- open.
use Rattle.std.proofs.Common.{ℕ, ◌+◌, ◌<◌, Bool, true, false, ◌&&◌, ◌≡◌, refl, arith, ne_eqb, ◌==◌}
use Rattle.text.specs.frames.Frame.{size}
use Rattle.charts.specs.Chart.{Chart, argument}
use Rattle.walk.specs.Stops.{Stop, plain, call, function, test, home, back, stop_at}
use Rattle.walk.specs.Walk.{is_drop}
use Rattle.walk.proofs.Facts.{Facts}
use Rattle.walk.proofs.Views.{View, a-plain, a_call, a-function, a-home, a_back, a-begin, a-condition}
use Rattle.walk.proofs.Trace.{WalkPosition, stop_code, is_drop_at, tick_at, Good, view-of}

abbrev pub is_call_stop : Stop → Bool
is_call_stop (plain m r u) = false
is_call_stop (call m r h u) = true
is_call_stop (function h u₀ u₁) = true
is_call_stop (test u) = false
is_call_stop home = false
is_call_stop back = false

module _ (c : Chart) (facts : Facts c) where
  drop-by : (d : Bool) (v : ℕ) → v < size c → {s : Stop} → View c v s → (stop_code d s == 96) ≡ (is_call_stop s && d)
  drop-by d v l (a-plain e a) = refl
  drop-by true v l (a_call e a) = refl
  drop-by false v l (a_call e a) = ne_eqb (16 + argument c v) 96 (λ q. omega (arith, facts.calls v l e a, facts.most))
  drop-by true v l (a-function e) = refl
  drop-by false v l (a-function e) = ne_eqb (64 + argument c v) 96 (λ q. omega (arith, facts.functions v l e, facts.most))
  drop-by d v l (a-home e s) = refl
  drop-by d v l (a_back e s) = refl
  drop-by d v l (a-begin e) = refl
  drop-by d v l (a-condition e) = refl

  pub drop-exactly : (n : ℕ) (x : WalkPosition) → Good c x → is_drop (tick_at n c x)
      ≡ (is_call_stop (stop_at c x.now.node) && is_drop_at n c x)
  drop-exactly n x g = drop-by (is_drop_at n c x) x.now.node g.top.inside (view-of c facts x g)
