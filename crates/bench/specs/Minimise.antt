-- Cases of the image with one label a group: of the image of chart P, whose labels all act differently, of two branches that end
-- alike, and of images that 23 refuses.
use Rattle.std.specs.Prelude.{ℕ, ◌≡◌, List, [], ◌∷◌, replicate}
use Rattle.text.specs.frames.Verdict.{fine}
use Rattle.text.specs.frames.Answer.{BufferOutcome, refusal, buffer_on}
use Rattle.minimising.specs.Entry.{minimise}
use Rattle.bench.specs.Bench.{lines, image_p}
use Rattle.bench.specs.RefusalCases.{changed_image}
use Rattle.bench.specs.Listing.{image_rowless}

-- labels 4 and 5 go home as 7 and 8 do, label 3 leads to the former and 6 to the latter
unfoldable pub image_branches : List ℕ
image_branches = lines (
    "0F010800080000000000E0" ∷ "10010200000000000000ED" ∷ "11000400010000000000EA" ∷ "11010300000000000000EB"
    ∷ "11020000010000000008E4" ∷ "11030000010000000101E9" ∷ "11040000010000000800E2" ∷ "11050000010000000000E9"
    ∷ "11060000010000000501E2" ∷ "11070000010000000800DF" ∷ "11080000010000000000E6" ∷ "12020020000002030000C7"
    ∷ "12020020002002060000A4" ∷ "12030000000002040000E5" ∷ "12040000000002050000E3" ∷ "12050000000002000000E7"
    ∷ "12060000000002070000DF" ∷ "12070000000002080000DD" ∷ "12080000000002000000E4" ∷ [])

unfoldable pub image_joined : List ℕ
image_joined = lines (
    "0F010600060000000000E4" ∷ "10010200000000000000ED" ∷ "11000400010000000000EA" ∷ "11010300000000000000EB"
    ∷ "11020000010000000008E4" ∷ "11030000010000000101E9" ∷ "11040000010000000800E2" ∷ "11050000010000000000E9"
    ∷ "11060000010000000501E2" ∷ "12020020000002030000C7" ∷ "12020020002002060000A4" ∷ "12030000000002040000E5"
    ∷ "12040000000002050000E3" ∷ "12050000000002000000E7" ∷ "12060000000002040000E2" ∷ [])

-- a call that is refused leaves the buffer
abbrev pub kept_smaller : ℕ → List ℕ → BufferOutcome
kept_smaller number out = record { reply = refusal number 0 0; buffer = out }

pub record MinimiseCases : Type 0 where
  pub of-p : (out : List ℕ) → minimise image_p out ≡ buffer_on fine 1 (λ _. image_p) out
  pub branches : (out : List ℕ) → minimise image_branches out ≡ buffer_on fine 1 (λ _. image_joined) out
  pub again : (out : List ℕ) → minimise image_joined out ≡ buffer_on fine 1 (λ _. image_joined) out
  -- two rows match each word; a row asks more than it did, so that words match none
  pub twice : (out : List ℕ) → minimise image_rowless out ≡ kept_smaller 23 out
  pub missed : (out : List ℕ) → minimise (changed_image 8 3 1) out ≡ kept_smaller 23 out
  -- 16 follows, one character short
  pub short : minimise image_branches (replicate 344 9) ≡ kept_smaller 16 (replicate 344 9)
  -- what the image check tries comes first
  pub unchecked : (out : List ℕ) → minimise (changed_image 0 2 0) out ≡ kept_smaller 11 out
