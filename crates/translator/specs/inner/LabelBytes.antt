-- Parts of an image's bytes before its rows, as the functions that write them have them, node by node or scheme by scheme.
use Rattle.std.specs.Prelude.{ℕ, ◌+◌, ◌≡◌, List, [], ◌∷◌, ◌++◌, length, replicate, if◌then◌else◌, flat_map}
use Rattle.words.specs.lists.Numbers.{range}
use Rattle.words.specs.lists.Sequences.{written}
use Rattle.text.specs.frames.Frame.{pair}
use Rattle.charts.specs.Chart.{Chart}
use Rattle.image.specs.declared.layout.TheConstants.{HEADER}
use Rattle.image.specs.Image.{entry_frame, label_frame}
use Rattle.chart_rows.specs.Labels.{is_numbered, label, entry, home_label, return_label, stop_label}

-- the frames of image parts: the header, entry k + 1, labels 0 and 1, the label of node v
abbrev pub header_bytes : ℕ → ℕ → ℕ → ℕ → List ℕ
header_bytes highest last n handler = HEADER ∷ highest ∷ last ∷ pair n ++ (handler ∷ replicate 4 0)

abbrev pub entry_bytes : Chart → ℕ → List ℕ
entry_bytes c k = entry_frame (k + 1) (entry c (k + 1))

abbrev pub fixed_bytes : List ℕ
fixed_bytes = label_frame 0 home_label ++ label_frame 1 return_label

abbrev pub node_label_bytes : Chart → ℕ → List ℕ
node_label_bytes c v = if is_numbered c v then label_frame (label c v) (stop_label c v) else []

-- those of the nodes or schemes below n, joined
abbrev pub up_to : (ℕ → List ℕ) → ℕ → List ℕ
up_to bytes n = flat_map bytes (range 0 n)

-- bytes that were written at an offset of a buffer, and the offset after them
pub record Put (old : List ℕ) (at : ℕ) (bytes : List ℕ) (after : ℕ) (new : List ℕ) : Type 0 where
  pub ends : after ≡ at + length bytes
  pub holds : new ≡ written old at bytes
