-- A call that finds the stack full: whether the stack is kept, and what the call answers and leaves.
use Rattle.std.proofs.Common.{ℕ, ◌-◌, ◌≤◌, ◌≡◌, ◌∙◌, true, false, List, arith, ◌==◌}
use Rattle.std.proofs.lemmas.Grind.{common_steps}
use Rattle.results.specs.Results.{with_result, cleared_results}
use Rattle.image.specs.Image.{Label}
use Rattle.image.specs.Decode.{handler_in}
use Rattle.tables.specs.Table.{table_label, table_image}
use Rattle.tables.specs.inner.Asked.{Whole, entry_of}
use Rattle.tables.specs.inner.Labels.{as_label}
use Rattle.tables.proofs.TableReads.{handler-at, handler-inside, label-at, entry-at}
use Rattle.state.specs.State.{State, place_at, number_at}
use Rattle.state.specs.Changes.{with_alone, state_after_result}
use Rattle.state.specs.declared.State.{State as Kept}
use Rattle.state.specs.Kept.{view}
use Rattle.fitness.specs.Fitness.{is_call}
use Rattle.ticks.specs.Tick.{is_full_stack_kept, top_of, state_alone, finished, tick}
use Rattle.ticks.specs.inner.TickContracts.{IsFinished}
use Rattle.ticks.proofs.TickCases.{tick-drops}
use Rattle.tables.specs.declared.Label as declared

-- ---- whether the stack is kept: h stands for the handler
module _ (b : List ℕ) (s : State) (h : ℕ) (is : h ≡ handler_in b) where
  pub kept-none : h ≡ 0 → true ≡ is_full_stack_kept (table_image b) s
  kept-none e = grind (arith, common_steps, handler-at)

  -- z is what was read of the label at the bottom
  pub kept-owner : (h ≡ 0 → ⊥) → (place_at s 0 ≡ 1 → ⊥) → (z : declared.Label) → as_label z ≡ table_label b (place_at s 0)
      → (z.owner == h) ≡ is_full_stack_kept (table_image b) s
  kept-owner some other z read = grind (arith, common_steps, handler-at, label-at)

-- ---- what a call that drops answers and leaves
module _ (b : List ℕ) (y : Whole b) (before : Kept) (w : ℕ) where
  abbrev s : State
  s = view before

  abbrev top : Label
  top = table_label b (top_of s)

  abbrev dropped : State
  dropped = state_alone s (entry_of b (handler_in b)) (handler_in b)
      (cleared_results (handler_in b) (with_result top.result (number_at s (s.depth - 1)) s.bits))

  pub drop-is : is_call top ≡ true → s.size ≤ s.depth → is_full_stack_kept (table_image b) s ≡ false
      → tick (table_image b) s w ≡ finished top.mask 96 dropped
  drop-is calls full kept =
      let entered = entry-at b y.counts (handler_in b) (handler-inside b y) in
      tick-drops b s w calls full kept ∙ grind (arith, common_steps, entered, handler-at)

  -- z is what was read of the top, h the handler and n its entry; then the state after each write
  pub drop-steps : tick (table_image b) s w ≡ finished top.mask 96 dropped → (z : declared.Label) → as_label z ≡ top
      → (h : ℕ) → h ≡ handler_in b → (n : ℕ) → n ≡ entry_of b h
      → (first second after : Kept) → view first ≡ state_after_result s z.result (number_at s (s.depth - 1))
      → view second ≡ state_after_result (view first) 1 h → view after ≡ with_alone (view second) n h
      → IsFinished b before w z.mask 96 n after
  drop-steps ticked z read h is n p first second after e₁ e₂ e₃ = grind (arith, common_steps)
