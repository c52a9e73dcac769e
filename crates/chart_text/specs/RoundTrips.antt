-- Charts there and back, through the buffers of reader and writer: nothing is lost but the size of letters.
use Rattle.std.specs.Prelude.{ℕ, ◌*◌, ◌≤◌, ◌<◌, ◌≡◌, List, map, length, take, slice_index}
use Rattle.text.specs.digits.Digit.{capital}
use Rattle.text.specs.frames.Frame.{text_of}
use Rattle.text.specs.frames.Verdict.{fine}
use Rattle.text.specs.frames.Answer.{success, buffer_filled_with}
use Rattle.charts.specs.Chart.{Chart}
use Rattle.charts.specs.Entry.{read_chart, write_verdict, write_chart}

-- n characters were written; given room, the reader turns them into the records again
abbrev pub ReadOfWrite : Type 0
ReadOfWrite =
    (c : Chart) → ((k : ℕ) → slice_index c k < 256) → (out out' : List ℕ) (n : ℕ)
    → (write_chart c out).reply ≡ success n → length c ≤ length out'
    → read_chart (take n (write_chart c out).buffer) out' ≡ buffer_filled_with 10 c out'

-- n records were read; given room, the writer turns them into the text in capitals
abbrev pub WriteOfRead : Type 0
WriteOfRead =
    (t out out' : List ℕ) (n : ℕ) → (read_chart t out).reply ≡ success n → length t ≤ length out'
    → write_chart (take (10 * n) (read_chart t out).buffer) out' ≡ buffer_filled_with 1 (map capital t) out'

-- a text that was in capitals comes back as it was
abbrev pub WriteOfCapitals : Type 0
WriteOfCapitals =
    (t out out' : List ℕ) (n : ℕ) → map capital t ≡ t → (read_chart t out).reply ≡ success n → length t ≤ length out'
    → write_chart (take (10 * n) (read_chart t out).buffer) out' ≡ buffer_filled_with 1 t out'

-- what is written is in capitals
abbrev pub WrittenCapitals : Type 0
WrittenCapitals = (c : Chart) → ((k : ℕ) → slice_index c k < 256) → write_verdict c ≡ fine → map capital (text_of c) ≡ text_of c
