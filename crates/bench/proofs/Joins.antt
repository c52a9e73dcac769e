-- The cases of labels joined hold, computed; that an image is uneven or even is computed by sizes.
use mathlib.Core.Path.{◌≡◌, refl, sym, subst}
use lib.Count.{ones, ones_in}
use Rattle.words.specs.lists.Numbers.{tabulate, lowest, any, count, sum}
use Rattle.words.specs.lists.Sequences.{map_from}
use Rattle.text.specs.frames.Frame.{contents}
use Rattle.text.specs.frames.Verdict.{fine}
use Rattle.image.specs.Image.{Image, image_frames, image_text}
use Rattle.image.specs.Decode.{decoded_image}
use Rattle.image.specs.Check.{image_verdict}
use Rattle.image.specs.inner.Sound.{SoundImage}
use Rattle.image.proofs.Accepted.{image-sound}
use Rattle.covering.specs.Matched.{is_uneven}
use Rattle.covering.specs.inner.Sizes.{has_overlap, covered_count, is_uneven_by_sizes}
use Rattle.covering.proofs.Covered.{sizes-decide}
use Rattle.grouping.specs.Classes.{is_parted, classes, grouping}
use Rattle.minimising.specs.group_numbers.Smaller.{joined_labels}
use Rattle.bench.specs.Joins.{GroupCases, even_image, gap_image, twice_image, bit_left_image, last_left_image, apart_image, EvenCases}
use Rattle.bench.proofs.Computing.{checking}

pub group-cases : GroupCases
unfolding joined_labels grouping classes is_parted tabulate lowest count
group-cases = record { two-alike = refl; parted-later = refl; crosswise = refl; tests-kept = refl; lowest-first = refl }

-- of an image whose text is accepted and is read back as it is
by-sizes : (i : Image) → image_verdict (image_text i) ≡ fine → decoded_image (contents (image_text i)) ≡ i → is_uneven i ≡ is_uneven_by_sizes i
by-sizes i e back = sym (sizes-decide i (subst SoundImage back (image-sound (image_text i) e)))

pub even-cases : EvenCases
unfolding checking map_from image_frames image_text is_uneven_by_sizes has_overlap covered_count any sum ones ones_in
even-cases = record {
  even = by-sizes even_image refl refl;
  gap = by-sizes gap_image refl refl;
  twice = by-sizes twice_image refl refl;
  bit-left = by-sizes bit_left_image refl refl;
  last-left = by-sizes last_left_image refl refl;
  apart = by-sizes apart_image refl refl;
}
