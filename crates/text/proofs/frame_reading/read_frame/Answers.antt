use Rattle.std.proofs.Common.{◌≡◌, ℕ, ◌<◌, rules, slice_index}
use Rattle.text.proofs.frame_reading.ReadFrame.{stored, values-at, form-end, stored-none, stored-turn, sum-end, stored-end}
use Rattle.text.proofs.frame_reading.read_frame.Goals as goal

pub loop-k-init : goal.loop-k-init
loop-k-init c = stored-none _ _ _

pub loop-k-preserved : goal.loop-k-preserved
loop-k-preserved c =
    let value : (k : ℕ) → k < 11 → slice_index c.values_of-values.result k ≡ stored c.args.text.now c.args.f k =
    λ k h. values-at _ _ _ c.read_digits-read.ensures _ c.values_of-values.ensures k h in
    stored-turn _ _ _ _ _ _ c.loop-k.invariant _ (search rules) (search rules) (value _ (search rules))

pub returns : goal.returns
returns c =
    let value : (k : ℕ) → k < 11 → slice_index c.values_of-values.result k ≡ stored c.args.text.now c.args.f k =
    λ k h. values-at _ _ _ c.read_digits-read.ensures _ c.values_of-values.ensures k h in
    record {
      form = form-end _ _ _ c.read_digits-read.ensures;
      sum = sum-end _ _ _ _ _ _ c.loop-k.invariant (search rules) _ (value 10 (search rules));
      buffer = stored-end _ _ _ _ _ _ c.loop-k.invariant (search rules);
    }
