-- The smaller image has as few labels as a grouping can have groups, and its text is no longer than the one given.
use Rattle.std.proofs.Common.{ℕ, ◌*◌, ◌/◌, ◌≤◌, false, ◌≡◌, List, arith, length}
use Rattle.words.proofs.lists.Counts.{count-le}
use Rattle.text.specs.frames.Frame.{contents}
use Rattle.text.specs.frames.Verdict.{fine}
use Rattle.text.specs.frames.Answer.{success}
use Rattle.text.proofs.frames.Contents.{any-contents-length}
use Rattle.text.proofs.frames.Texts.{text-length}
use Rattle.text.proofs.frames.Lent.{lent-told, lent-fits}
use Rattle.image.specs.Image.{Image, image_frames, image_text}
use Rattle.image.specs.Decode.{decoded_image}
use Rattle.image.specs.Check.{image_verdict}
use Rattle.image.specs.inner.Sound.{SoundImage}
use Rattle.image.proofs.Accepted.{CountedTable, counted, entries-count, labels-count, rows-count, image-sound, image-table}
use Rattle.image.proofs.Written.{frames-length, image-frames}
use Rattle.covering.specs.Matched.{is_uneven}
use Rattle.covering.proofs.Hits.{one-row}
use Rattle.grouping.specs.Rule.{Grouping, Meets, groups}
use Rattle.grouping.specs.Classes.{is_first, grouping}
use Rattle.grouping.proofs.Rounds.{ClassRound, group-round}
use Rattle.grouping.proofs.Coarsest.{groups-counted, even-fewest}
use Rattle.minimising.specs.group_numbers.Smaller.{smaller_image}
use Rattle.minimising.specs.Entry.{minimise_verdict, minimise}
use Rattle.joined_again.proofs.Again.{smaller-sound, minimise-allowed}
use Rattle.minimising.proofs.group_numbers.Numbering as numbered
use Rattle.std.proofs.lemmas.Grind.{common_steps}

module _ (i : Image) (S : SoundImage i) (even : is_uneven i ≡ false) where
  rounds : ClassRound i (grouping i)
  rounds = group-round i S (one-row i S even)

  pub fewest-labels : (g : Grouping) → Meets i g → length (smaller_image i).labels ≤ groups g (length i.labels)
  fewest-labels g m =
      omega (arith, numbered.labels-count i S (grouping i) rounds, groups-counted i S (one-row i S even), even-fewest i S even g m)

  pub text-shorter : length (image_text (smaller_image i)) ≤ 23 * length (image_frames i)
  unfolding image_text
  text-shorter = omega (
    arith,
    text-length (image_frames (smaller_image i)) (image-frames (smaller_image i) (smaller-sound i S even)),
    frames-length (smaller_image i),
    frames-length i,
    numbered.entries-count i S (grouping i) rounds,
    numbered.labels-count i S (grouping i) rounds,
    count-le (is_first (grouping i)) 0 (length i.labels),
    numbered.rows-fewer i S (grouping i) rounds,
  )

-- an accepted text has a frame for each part of its image
frames-all : (t : List ℕ) → image_verdict t ≡ fine → 23 * length (image_frames (decoded_image (contents t))) ≤ length t
frames-all t e =
    let b : List ℕ = contents t in
    let c : CountedTable b = counted b (image-table t e) in
    omega (arith, frames-length (decoded_image b), entries-count b, labels-count b, rows-count b, c.all, any-contents-length t)

-- where nothing but 16 can refuse it
module _ (t : List ℕ) (ok : minimise_verdict t ≡ fine) where
  abbrev small : List ℕ
  small = image_text (smaller_image (decoded_image (contents t)))

  pub never-longer : length small ≤ length t
  never-longer = grind (arith, common_steps, minimise-allowed, image-sound, text-shorter, frames-all)

  -- room for the given text is enough
  pub room-enough : (room : List ℕ) → length t ≤ length room → (minimise t room).reply ≡ success (length small / 1)
  unfolding minimise
  room-enough room h = grind (arith, common_steps, lent-fits, never-longer)

pub minimise-shorter : (t room : List ℕ) (m : ℕ) → (minimise t room).reply ≡ success m → m ≤ length t
unfolding minimise
minimise-shorter t room m e = grind (arith, common_steps, lent-told, never-longer)
