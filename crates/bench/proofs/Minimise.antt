-- The cases of the smaller image hold, computed; that 23 does not apply is computed by sizes.
use Rattle.std.proofs.Common.{ℕ, ◌≡◌, refl, List, replicate, arith}
use Rattle.std.proofs.lemmas.Grind.{common_steps}
use lib.Count.{ones, ones_in}
use Rattle.words.specs.lists.Numbers.{tabulate, lowest, count}
use Rattle.words.specs.lists.Sequences.{map_from}
use Rattle.text.specs.frames.Frame.{contents}
use Rattle.text.specs.frames.Verdict.{fine, next, when}
use Rattle.text.specs.frames.Answer.{BufferOutcome, buffer_on}
use Rattle.image.specs.Image.{image_frames, image_text}
use Rattle.image.specs.Decode.{decoded_image}
use Rattle.image.specs.Check.{image_verdict}
use Rattle.image.proofs.Accepted.{image-sound}
use Rattle.covering.specs.Matched.{is_uneven}
use Rattle.covering.specs.inner.Sizes.{has_overlap, covered_count, is_uneven_by_sizes}
use Rattle.covering.proofs.Covered.{sizes-decide}
use Rattle.grouping.specs.Classes.{is_parted, classes, grouping}
use Rattle.minimising.specs.group_numbers.Smaller.{joined_labels, smaller_image}
use Rattle.minimising.specs.Entry.{minimise_verdict, minimise}
use Rattle.bench.specs.Bench.{image_p}
use Rattle.bench.specs.Listing.{image_rowless}
use Rattle.bench.specs.Minimise.{MinimiseCases, image_branches, image_joined}
use Rattle.bench.proofs.Computing.{checking}

abbrev by_sizes : List ℕ → List ℕ → BufferOutcome
by_sizes t old =
    buffer_on (next (image_verdict t) λ _. when 23 (is_uneven_by_sizes (decoded_image (contents t))))
    1 (λ _. image_text (smaller_image (decoded_image (contents t)))) old

by-sizes : (t old : List ℕ) → image_verdict t ≡ fine → minimise t old ≡ by_sizes t old
unfolding minimise minimise_verdict
by-sizes t old e = grind (arith, common_steps, sizes-decide, image-sound)

pub minimise-cases : MinimiseCases
unfolding checking tabulate lowest count map_from ones ones_in image_frames image_text
    has_overlap covered_count is_uneven_by_sizes is_uneven is_parted classes grouping
    joined_labels minimise_verdict minimise image_p image_rowless image_branches image_joined
minimise-cases = record {
  of-p = λ out. by-sizes image_p out refl;
  branches = λ out. by-sizes image_branches out refl;
  again = λ out. by-sizes image_joined out refl;
  twice = λ out. refl;
  missed = λ out. refl;
  short = by-sizes image_branches (replicate 344 9) refl;
  unchecked = λ out. refl;
}
