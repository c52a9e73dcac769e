-- What the function that reads the frames of a text promises.
use Rattle.std.specs.Prelude.{ℕ, ◌≡◌, List, flat_map}
use Rattle.words.specs.lists.Numbers.{range, lowest}
use Rattle.words.specs.lists.Sequences.{over}
use Rattle.text.specs.frames.Check.{has_bad_form, has_bad_sum}
use Rattle.text.specs.inner.FrameReads.{stored_bytes}
use Rattle.text.specs.declared.reading.Lowest.{Lowest}

-- n frames
pub record FramesRead (t : List ℕ) (n : ℕ) (old : List ℕ) (r : Lowest) (out : List ℕ) : Type 0 where
  pub form : r.form ≡ lowest (has_bad_form t) 0 n
  pub sum : r.sum ≡ lowest (has_bad_sum t) 0 n
  pub buffer : out ≡ over (flat_map (stored_bytes t) (range 0 n)) old
