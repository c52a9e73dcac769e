-- The listing by the image's text: the image is refused, or the table that is made of it is listed.
use Rattle.std.proofs.Common.{ℕ, ◌≡◌, List, arith, Err}
use Rattle.std.proofs.lemmas.Grind.{common_steps}
use Rattle.text.specs.frames.Answer.{Answer, reply, verdict_reply}
use Rattle.text.specs.declared.frames.refusals.Refusal.{Refusal}
use Rattle.image.specs.Check.{image_verdict}
use Rattle.image.proofs.Accepted.{labels-count, image-table, image-bytes}
use Rattle.tables.proofs.Made.{MadeTable}
use Rattle.tables.proofs.Noted.{noted-last}
use Rattle.rows.specs.listing.Listing.{list, GivesListing}
use Rattle.rows.specs.inner.ListingContracts.{Listable, list_table}
use Rattle.rows.proofs.listing.Laws.{low-none, looks-at}

module _ (t : List ℕ) where
  pub image-refused : (xs ys : List ℕ) (r : Refusal) → reply (Err r) ≡ verdict_reply (image_verdict t) 0
      → GivesListing (list t xs ys) (Err r) xs ys
  unfolding list
  image-refused xs ys r gives = grind (arith, common_steps)

  module _ (b : List ℕ) (made : MadeTable t b) where
    pub made-listable : Listable b
    made-listable = grind (arith, common_steps, image-table, looks-at, low-none, noted-last, image-bytes)

    pub image-lists : (xs ys : List ℕ) (a : Answer) (us vs : List ℕ) → GivesListing (list_table b xs ys) a us vs
        → GivesListing (list t xs ys) a us vs
    unfolding list list_table
    image-lists xs ys a us vs x = grind (arith, common_steps, labels-count)
