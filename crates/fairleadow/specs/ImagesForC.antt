-- What a call from C that lists rows hands back.
use Rattle.std.specs.Prelude.{ℕ, ◌≡◌, List}
use Rattle.rows.specs.listing.Listing.{ListingOutcome}
use Rattle.fairleadow.specs.AnswersForC.{GivesReplyC}

-- a call that lists rows in two lent buffers
pub record GivesListingC (x : ListingOutcome) (returned at made : ℕ) (xs ys : List ℕ) : Type 0 where
  pub told : GivesReplyC x.reply returned at made
  pub firsts : xs ≡ x.firsts
  pub counts : ys ≡ x.counts
