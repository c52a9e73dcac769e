-- What every tick keeps, on any image and from any state, and the numbers that stop one.
use Rattle.std.proofs.Common.{ℕ, zero, suc, ◌≤◌, ◌≡◌, arith, length}
use Rattle.std.proofs.lemmas.Grind.{common_steps}
use Rattle.results.specs.Results.{Results, with_result}
use Rattle.image.specs.Layout.{tick_kind}
use Rattle.image.specs.Image.{Image, Label}
use Rattle.state.specs.State.{State, Sized}
use Rattle.ticks.specs.Tick.{MachineTick, finished, stopped}
use Rattle.ticks.specs.Tick.{tick_by, tick}

length-result : (r h : ℕ) (b : Results) → length (with_result r h b) ≡ length b
length-result r h b = grind (arith, common_steps)

-- the stack size, who serves, how many bits there are, and that there are as many of the rest as the type has
pub record Same (s t : State) : Type 0 where
  pub size : t.size ≡ s.size
  pub serving : t.serving ≡ s.serving
  pub bits : length t.bits ≡ length s.bits
  pub sized : Sized s → Sized t

abbrev pub Normal : State → MachineTick → Type 0
Normal s (finished m k t) = Same s t
Normal s (stopped n) = (17 ≤ n) × (n ≤ 18)

module _ (i : Image) (s : State) where
  module _ (b : Results) (e : length b ≡ length s.bits) where
    by-normal : (w l : ℕ) (x : Label) (k : ℕ) → Normal s (tick_by i s w l x b (tick_kind k))
    by-normal w l x zero = grind (arith, common_steps)
    by-normal w l x (suc zero) = grind (arith, common_steps)
    by-normal w l x (suc (suc zero)) = grind (arith, common_steps)
    by-normal w l x (suc (suc (suc zero))) = grind (arith, common_steps)
    by-normal w l x (suc (suc (suc (suc k)))) = grind (arith, common_steps)

  pub tick-normal : (w : ℕ) → Normal s (tick i s w)
  unfolding tick
  tick-normal w = grind (arith, common_steps, length-result, by-normal)
