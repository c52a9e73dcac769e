-- Tick kinds.
use Rattle.std.specs.Prelude.{ℕ, zero, suc}

-- a tick kind by its number; one above 4 counts as home
pub data TickKind : Type 0 where
  plain : TickKind
  operation_call : TickKind
  function_call : TickKind
  return : TickKind
  home : TickKind

-- the tick kind by the byte that tells it
abbrev pub tick_kind : ℕ → TickKind
tick_kind zero = plain
tick_kind (suc zero) = operation_call
tick_kind (suc (suc zero)) = function_call
tick_kind (suc (suc (suc zero))) = return
tick_kind (suc (suc (suc (suc k)))) = home
