-- The frame that the programs of cases print of an answer.
use Rattle.std.specs.Prelude.{ℕ, ◌/◌, ◌%◌, List, [], ◌∷◌, ◌++◌}
use Rattle.text.specs.frames.Frame.{frame_text}
use Rattle.text.specs.frames.Answer.{Reply, reply_number, reply_index, reply_count}

abbrev pub two_bytes : ℕ → List ℕ
two_bytes x = x / 256 % 256 ∷ x % 256 ∷ []

-- an entry's number, the number, the index and the count that it answers, and a number of bytes
unfoldable pub numbered_line : ℕ → ℕ → ℕ → ℕ → ℕ → List ℕ
numbered_line entry number index count bytes =
    frame_text (entry ∷ number ∷ two_bytes index ++ (two_bytes count ++ (two_bytes bytes ++ (0 ∷ 0 ∷ []))))

abbrev pub report_line : ℕ → Reply → ℕ → List ℕ
report_line entry r bytes = numbered_line entry (reply_number r) (reply_index r) (reply_count r) bytes
