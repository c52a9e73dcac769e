-- What the functions that find the callee of a call hand back.
use Rattle.std.specs.Prelude.{ℕ, ◌≡◌, List}
use Rattle.bindings.specs.Binding.{server_of}
use Rattle.tables.specs.Table.{table_image}
use Rattle.state.specs.State.{State, entry_at}
use Rattle.ticks.specs.declared.calls.Callee.{Callee}

-- r is the callee of a call of number h
pub record IsCallee (b : List ℕ) (s : State) (h : ℕ) (r : Callee) : Type 0 where
  pub number : r.number ≡ h
  pub server : r.server ≡ server_of s.serving h
  pub entry : r.entry ≡ entry_at (table_image b) r.server
