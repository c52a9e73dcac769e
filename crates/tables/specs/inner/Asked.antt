-- What the functions on a table ask and read.
use Rattle.std.specs.Prelude.{ℕ, suc, ◌*◌, ◌-◌, false, ◌≡◌, List, length, take}
use Rattle.text.specs.declared.frames.sizes.TheConstants.{FRAME}
use Rattle.image.specs.Decode.{entry_in}
use Rattle.image.specs.Check.{has_bad_counts, has_bad_handler}
use Rattle.tables.specs.Table.{table_end}

-- the table without what stands behind it
abbrev pub front : List ℕ → List ℕ
front b = take (FRAME * table_end b) b

pub record Whole (b : List ℕ) : Type 0 where
  pub counts : has_bad_counts b ≡ false
  pub handler : has_bad_handler b ≡ false
  pub alone : length b ≡ FRAME * table_end b

-- the entry of scheme h, which counts as 1 where it is 0
abbrev pub entry_of : List ℕ → ℕ → ℕ
entry_of b h = entry_in b (suc (h - 1))
