-- The rows of each label of an image: the first one's number and how many there are; refusal 16.
use Rattle.std.specs.Prelude.{ℕ, ◌+◌, Bool, ◌||◌, ◌≡◌, List, length, if◌then◌else◌, nat_lt, ◌==◌}
use Rattle.words.specs.lists.Numbers.{tabulate, lowest, count}
use Rattle.words.specs.lists.Sequences.{over}
use Rattle.text.specs.declared.frames.refusals.TheConstants.{NO_ROOM}
use Rattle.text.specs.frames.Frame.{contents}
use Rattle.text.specs.frames.Verdict.{Verdict, fine, refused, next, when}
use Rattle.text.specs.frames.Answer.{Answer, Reply, success, refusal, reply}
use Rattle.image.specs.Image.{Image, nth_row}
use Rattle.image.specs.Decode.{last_label, decoded_image}
use Rattle.image.specs.Check.{image_verdict}

-- row k leaves label l
abbrev pub is_row_leaving : Image → ℕ → ℕ → Bool
is_row_leaving i l k = (nth_row i k).from == l

abbrev pub row_count_of : Image → ℕ → ℕ
row_count_of i l = count (is_row_leaving i l) 0 (length i.rows)

abbrev pub first_of : Image → ℕ → ℕ
first_of i l = if row_count_of i l == 0 then 0 else lowest (is_row_leaving i l) 0 (length i.rows)

-- of the labels 0 to M
unfoldable pub first_rows : Image → List ℕ
first_rows i = tabulate (first_of i) (length i.labels)

unfoldable pub row_counts : Image → List ℕ
row_counts i = tabulate (row_count_of i) (length i.labels)

-- what the entry point answers, counting labels, and what the two buffers then hold
pub record ListingOutcome : Type 0 where
  pub reply : Reply
  pub firsts : List ℕ
  pub counts : List ℕ

abbrev pub listing_on : Verdict → (Unit {0} → Image) → List ℕ → List ℕ → ListingOutcome
listing_on (refused k n) go old₁ old₂ = record { reply = refusal k n 0; firsts = old₁; counts = old₂ }
listing_on fine go old₁ old₂ = let i = go tt in record {
  reply = success (length i.labels);
  firsts = over (first_rows i) old₁;
  counts = over (row_counts i) old₂;
}

-- less room in a buffer than labels
abbrev pub has_no_room_for : ℕ → List ℕ → List ℕ → Bool
has_no_room_for n old₁ old₂ = nat_lt (length old₁) n || nat_lt (length old₂) n

-- what the image check tries, then 16
unfoldable pub list : List ℕ → List ℕ → List ℕ → ListingOutcome
list t old₁ old₂ =
    listing_on (next (image_verdict t) λ _. when NO_ROOM (has_no_room_for (last_label (contents t) + 1) old₁ old₂))
    (λ _. decoded_image (contents t)) old₁ old₂

pub record GivesListing (x : ListingOutcome) (a : Answer) (xs ys : List ℕ) : Type 0 where
  pub answered : reply a ≡ x.reply
  pub firsts : xs ≡ x.firsts
  pub counts : ys ≡ x.counts
