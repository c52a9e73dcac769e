-- For how many words a tick is made, and for how many lists each of them stands.
use Rattle.std.specs.Prelude.{ℕ, ◌*◌, ◌^◌, Option, None, Some}
use Rattle.ticks.specs.declared.leaving.Leaving.{Leaving}
use Rattle.fillings.specs.declared.fill_lists.Fork.{Fork}

-- where a tick takes no row, one word stands for all
abbrev pub fork : Option Leaving → ℕ → ℕ → Fork
fork None k each = record { words = 1; each = each * 2 ^ k }
fork (Some x) k each = record { words = 2 ^ k; each = each }
