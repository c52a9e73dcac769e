-- The cases of the listing hold, computed.
use Rattle.std.proofs.Common.{refl}
use Rattle.words.specs.lists.Numbers.{tabulate, lowest, count}
use Rattle.rows.specs.listing.Listing.{first_rows, row_counts, list}
use Rattle.bench.specs.Bench.{image_p}
use Rattle.bench.specs.Listing.{ListingCases, image_rowless}
use Rattle.bench.proofs.Computing.{checking}

pub listing-cases : ListingCases
unfolding checking tabulate lowest count first_rows row_counts list image_p image_rowless
listing-cases = record { of-p = refl; gap = refl; short-firsts = refl; short-counts = refl; unchecked = refl }
