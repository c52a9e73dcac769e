-- What the functions that list the rows of a table ask and promise.
use Rattle.std.specs.Prelude.{ℕ, ◌≤◌, ◌<◌, ◌≡◌, List, length}
use Rattle.text.specs.declared.frames.refusals.TheConstants.{NO_ROOM}
use Rattle.text.specs.frames.Verdict.{when}
use Rattle.image.specs.Image.{Image}
use Rattle.image.specs.Decode.{last_label}
use Rattle.tables.specs.Table.{table_image}
use Rattle.rows.specs.listing.Listing.{row_count_of, first_of, ListingOutcome, listing_on, has_no_room_for}
use Rattle.rows.specs.listing.Exact.{LooksAt}
use Rattle.rows.specs.declared.listing.Rows.{Rows}

-- a table whose noted frames are those of its image's listing
pub record Listable (b : List ℕ) : Type 0 where
  pub none : (l : ℕ) → l < 2 → row_count_of (table_image b) l ≡ 0
  pub some : (l : ℕ) → 2 ≤ l → l ≤ last_label b → LooksAt b (table_image b) l

-- the rows of label l
pub record RowsOf (i : Image) (l : ℕ) (r : Rows) : Type 0 where
  pub first : r.first ≡ first_of i l
  pub count : r.count ≡ row_count_of i l

-- 16, then the listing
unfoldable pub list_table : List ℕ → List ℕ → List ℕ → ListingOutcome
list_table b old₁ old₂ = let i = table_image b in listing_on (when NO_ROOM (has_no_room_for (length i.labels) old₁ old₂)) (λ _. i) old₁ old₂
