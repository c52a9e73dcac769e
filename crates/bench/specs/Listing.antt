-- Cases of the listing: of the image of chart P, and of an image that no chart gives, with a label without rows between two others.
use Rattle.std.specs.Prelude.{ℕ, ◌≡◌, List, [], ◌∷◌, replicate}
use Rattle.text.specs.frames.Answer.{success, refusal}
use Rattle.rows.specs.listing.Listing.{ListingOutcome, list}
use Rattle.bench.specs.Bench.{lines, image_p}
use Rattle.bench.specs.RefusalCases.{changed_image}

-- labels 0 to 5: 2 has the same row twice, 4 has two rows, 3 and 5 have none
unfoldable pub image_rowless : List ℕ
image_rowless = lines (
    "0F010500040000000000E7" ∷ "10010200000000000000ED" ∷ "11000400010000000000EA" ∷ "11010300000000000000EB"
    ∷ "11020000010000000001EB" ∷ "11030000010000000002E9" ∷ "11040000010000000004E6" ∷ "11050000010000000008E1"
    ∷ "12020000000002030000E7" ∷ "12020000000002030000E7" ∷ "12040001000002000000E7" ∷ "12040001000102050000E1" ∷ [])

-- a listing that is refused leaves both buffers
abbrev pub kept_listing : ℕ → ℕ → ℕ → ListingOutcome
kept_listing number n m = record { reply = refusal number 0 0; firsts = replicate n 9; counts = replicate m 9 }

pub record ListingCases : Type 0 where
  -- what stands behind the labels stays
  pub of-p : list image_p (replicate 6 9) (replicate 7 9) ≡ record {
    reply = success 5;
    firsts = 0 ∷ 0 ∷ 0 ∷ 1 ∷ 3 ∷ 9 ∷ [];
    counts = 0 ∷ 0 ∷ 1 ∷ 2 ∷ 1 ∷ 9 ∷ 9 ∷ [];
  }
  pub gap : list image_rowless (replicate 6 9) (replicate 6 9) ≡ record {
    reply = success 6;
    firsts = 0 ∷ 0 ∷ 0 ∷ 0 ∷ 2 ∷ 0 ∷ [];
    counts = 0 ∷ 0 ∷ 2 ∷ 0 ∷ 2 ∷ 0 ∷ [];
  }
  -- 16 by either buffer, and after what the image check tries
  pub short-firsts : list image_p (replicate 4 9) (replicate 5 9) ≡ kept_listing 16 4 5
  pub short-counts : list image_p (replicate 5 9) (replicate 4 9) ≡ kept_listing 16 5 4
  pub unchecked : list (changed_image 0 2 0) (replicate 4 9) (replicate 5 9) ≡ kept_listing 11 4 5
