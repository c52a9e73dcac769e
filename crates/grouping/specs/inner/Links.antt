-- Labels by their tags: each is linked with the highest one below it that has its tag.
use Rattle.std.specs.Prelude.{ℕ, ◌+◌, ◌*◌, ◌/◌, ◌%◌, ◌^◌, ◌≤◌, ◌<◌, ◌≡◌, List, slice_index}
use Rattle.words.specs.lists.Numbers.{lowest}
use Rattle.text.specs.declared.frames.sizes.TheConstants.{LABELS}
use Rattle.image.specs.Image.{Label}
use Rattle.tables.specs.Table.{table_label}
use Rattle.grouping.specs.declared.first_classes.TheConstants.{SPREAD, TOP_BYTE}
use Rattle.grouping.specs.inner.GroupingContracts.{has_same_fields_on}

-- a byte that depends on every bit of the fields
unfoldable pub tag_of : Label → ℕ
tag_of x =
    let rest = (x.kind * 1024 + x.called * 32 + x.owner) * 4 + x.result in (x.mask + rest) % 2 ^ 32 * SPREAD % 2 ^ 32 / TOP_BYTE

abbrev pub tag_on : List ℕ → ℕ → ℕ
tag_on b l = tag_of (table_label b l)

-- m is the highest label from 1 up to l that has this tag, or 0 where there is none
pub record Highest (b : List ℕ) (l tag m : ℕ) : Type 0 where
  pub below : m < l
  pub own : 1 ≤ m → tag_on b m ≡ tag
  pub most : (k : ℕ) → k < l → tag_on b k ≡ tag → k ≤ m

-- the links of labels 1 up to l
pub record Linked (b : List ℕ) (l : ℕ) (links : List ℕ) : Type 0 where
  pub at : (k : ℕ) → 1 ≤ k → k < l → Highest b k (tag_on b k) (slice_index links k)

-- for each tag the highest label below l
pub record Headed (b : List ℕ) (l : ℕ) (heads : List ℕ) : Type 0 where
  pub at : (tag : ℕ) → tag < LABELS → Highest b l tag (slice_index heads tag)

-- the lowest label that holds the same as label l
abbrev pub first_same : List ℕ → ℕ → ℕ
first_same b l = lowest (λ m. has_same_fields_on b m l) 0 l

-- the first classes of labels 0 up to l
pub record FirstSame (b : List ℕ) (l : ℕ) (classes : List ℕ) : Type 0 where
  pub at : (k : ℕ) → k < l → slice_index classes k ≡ first_same b k
