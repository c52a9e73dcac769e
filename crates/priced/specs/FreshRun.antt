-- The price of one run from a fresh state: that of the walk's ticks, as many as the answer counts, with no premise about room or length.
use Rattle.std.specs.Prelude.{ℕ, ◌≤◌, ◌≡◌, List, map, take}
use Rattle.bindings.specs.Binding.{own_binding}
use Rattle.text.specs.frames.Frame.{contents}
use Rattle.text.specs.frames.Answer.{success, reply_count}
use Rattle.walk.specs.Walk.{signals, Tick, walk}
use Rattle.translator.specs.Entry.{translate}
use Rattle.state.specs.declared.layout.TheConstants.{PLACES}
use Rattle.state.specs.State.{fresh_state}
use Rattle.prices.specs.Prices.{price}
use Rattle.prices.specs.priced_runs.PricedRun.{priced_run}

abbrev pub PricedByTheWalk : Type 0
PricedByTheWalk =
    (text out : List ℕ) (n : ℕ) → (translate text out).reply ≡ success n
    → (size : ℕ) → 1 ≤ size → size ≤ PLACES → (list words masks codes : List ℕ)
    → let r = priced_run (take n (translate text out).buffer) (fresh_state size).state list words masks codes in
    r.price
    ≡ price list (map (λ (t : Tick). t.mask) (take (reply_count r.run.reply) (walk size (contents text) (signals own_binding words))))
