-- The entry of the scheme that serves, and the callee of a label, by what was read of it.
use Rattle.std.proofs.Common.{◌≡◌, List, ℕ, ◌+◌, ◌≤◌, ◌<◌, arith}
use Rattle.std.proofs.lemmas.Grind.{common_steps}
use Rattle.std.proofs.Math.ListN.{get_or-eq_default}
use Rattle.bindings.specs.Binding.{server_of}
use Rattle.text.specs.frames.Frame.{field}
use Rattle.image.specs.Decode.{scheme_count, last_label, labels_from}
use Rattle.tables.specs.Table.{table_image, table_label}
use Rattle.tables.specs.inner.Asked.{Whole, entry_of}
use Rattle.tables.proofs.TableReads.{counts-told, entries-count, entry-at}
use Rattle.state.specs.State.{State, entry_at}
use Rattle.ticks.specs.declared.calls.Callee.{Callee}
use Rattle.ticks.specs.inner.Callees.{IsCallee}

module _ (b : List ℕ) (k : ℕ) where
  pub server-none : scheme_count b < k → 0 ≡ entry_at (table_image b) k
  server-none h = grind (arith, common_steps, get_or-eq_default, entries-count)

  pub server-entry : Whole b → k ≤ scheme_count b → (n : ℕ) → n ≡ entry_of b k → n ≡ entry_at (table_image b) k
  server-entry y h n e = grind (arith, common_steps, entry-at)

  -- no scheme counts as the first
  pub first-entry : Whole b → k ≡ 0 → (n : ℕ) → n ≡ entry_of b 1 → n ≡ entry_at (table_image b) k
  first-entry y z n e = grind (arith, common_steps, entry-at, counts-told)

module _ (b : List ℕ) (l : ℕ) (low : 2 ≤ l) (high : l ≤ last_label b) (h : ℕ) (is : h ≡ field b (labels_from b + l) 3) where
  called-known : h ≤ scheme_count b → h ≡ (table_label b l).called
  called-known k = grind (arith, common_steps)

  -- the callee of label l, which calls a number that the table has: k is the scheme that serves it, e its entry
  pub callee-read : h ≤ scheme_count b → (s : State) (k : ℕ) → k ≡ server_of s.serving h → (e : ℕ) → e ≡ entry_at (table_image b) k
      → IsCallee b s (table_label b l).called (record { number = h; server = k; entry = e })
  callee-read few s k p e q = grind (arith, common_steps, called-known few)

-- the number that a callee has is 0 or that of a scheme
pub callee-few : (b : List ℕ) → Whole b → (l : ℕ) (s : State) (r : Callee) → IsCallee b s (table_label b l).called r → r.number ≤ 16
callee-few b y l s r found = grind (arith, common_steps, counts-told)
