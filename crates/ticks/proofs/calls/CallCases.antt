-- What a call with a place free answers and leaves: of its label and its callee, as they were read, and of the state after each write.
use Rattle.std.proofs.Common.{◌≡◌, true, List, ℕ, ◌+◌, ◌-◌, ◌<◌, add-one, arith, length}
use Rattle.std.proofs.lemmas.Grind.{common_steps}
use Rattle.image.specs.Layout.{tick_kind}
use Rattle.tables.specs.Table.{table_label}
use Rattle.tables.specs.inner.Labels.{as_label}
use Rattle.ticks.specs.codes.Codes.{code_of}
use Rattle.state.specs.State.{State, number_at}
use Rattle.state.specs.Changes.{with_depth, with_opened, state_after_result}
use Rattle.state.specs.declared.State.{State as Kept}
use Rattle.state.specs.Kept.{view}
use Rattle.fitness.specs.Fitness.{is_call}
use Rattle.ticks.specs.Tick.{top_of}
use Rattle.ticks.specs.inner.TickContracts.{IsFinished}
use Rattle.ticks.proofs.TickCases.{tick-call, top-put}
use Rattle.ticks.specs.declared.calls.Callee.{Callee}
use Rattle.ticks.specs.inner.Callees.{IsCallee}
use Rattle.tables.specs.declared.Label as declared

module _ (b : List ℕ) (before : Kept) (w : ℕ) where
  abbrev s : State
  s = view before

  -- l is the top, z what was read of it, r its callee and g the code; then the state after each write
  pub call-steps : s.depth < s.size → s.depth < length s.places → (l : ℕ) → l ≡ top_of s → is_call (table_label b l) ≡ true
      → (z : declared.Label) → as_label z ≡ table_label b l
      → (r : Callee) → IsCallee b s (table_label b l).called r → (g : ℕ) → g ≡ code_of (tick_kind z.kind) r.number
      → (first second third after : Kept) → view first ≡ state_after_result s z.result (number_at s (s.depth - 1))
      → view second ≡ state_after_result (view first) 1 r.number
      → view third ≡ with_opened (view second) s.depth r.entry r.number r.server
      → view after ≡ with_depth (view third) (s.depth + 1)
      → IsFinished b before w z.mask g r.entry after
  call-steps free room l at calls z read r found g q first second third after e₁ e₂ e₃ e₄ =
      grind (arith, common_steps, tick-call, top-put, add-one)
