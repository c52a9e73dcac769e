-- Kinds of nodes.
use Rattle.std.specs.Prelude.{ℕ, zero, suc}

-- a kind by its number; no node has a number above 4
pub data Kind : Type 0 where
  Begin : Kind
  End : Kind
  Operation : Kind
  Condition : Kind
  Function : Kind
  Unknown : Kind

-- the kind by the byte that tells it
abbrev pub kind_of : ℕ → Kind
kind_of zero = Begin
kind_of (suc zero) = End
kind_of (suc (suc zero)) = Operation
kind_of (suc (suc (suc zero))) = Condition
kind_of (suc (suc (suc (suc zero)))) = Function
kind_of (suc (suc (suc (suc (suc k))))) = Unknown
