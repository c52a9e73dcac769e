-- Bytes whose front is told have a table there.
use Rattle.std.proofs.Common.{ℕ, ◌*◌, Bool, true, false, ◌≡◌, List, Option, None, Some, if◌then◌else◌, take, arith}
use Rattle.std.proofs.lemmas.Grind.{common_steps}
use Rattle.tables.specs.Table.{table_end, is_bad_table}
use Rattle.tables.specs.inner.Asked.{front, Whole}

front-stands : (b : List ℕ) → is_bad_table b ≡ false → Whole (front b)
front-stands b good = grind (arith, common_steps)

module _ (b : List ℕ) (n : ℕ) where
  told : (t : Bool) → is_bad_table b ≡ t → (if t then None else Some (10 * table_end b)) ≡ Some n
      → (is_bad_table b ≡ false) × (n ≡ 10 * table_end b)
  told true e q = grind (arith, common_steps)
  told false e q = grind (arith, common_steps)

  pub told-whole : (r : Option ℕ) → r ≡ (if is_bad_table b then None else Some (10 * table_end b)) → r ≡ Some n → Whole (take n b)
  told-whole r p q = grind (arith, common_steps, front-stands, told)
