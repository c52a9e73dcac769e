-- A sound image: the plain facts that let its text be read back and pass the image check.
use Rattle.std.specs.Prelude.{ℕ, suc, ◌≤◌, ◌<◌, ◌≡◌, ◌⊎◌, length, if◌then◌else◌, ◌==◌, slice_index, slice_index_or}
use Rattle.std.specs.Int.Bits.{bit_and}
use Rattle.text.specs.declared.frames.sizes.TheConstants.{SCHEMES, LABELS, ROWS}
use Rattle.text.specs.frames.Sizes.{WORDS}
use Rattle.image.specs.Image.{Image, Label, Row, home_label, return_label, nth_row}
pub use Rattle.image.specs.Image.{no_label}

abbrev pub nth_label : Image → ℕ → Label
nth_label i l = slice_index_or i.labels l no_label

-- the label where scheme h ends
abbrev pub end_of : ℕ → ℕ
end_of h = if h == 1 then 0 else 1

-- a label that a row or an entry of scheme h may lead to
pub record Reaches (i : Image) (h l : ℕ) : Type 0 where
  pub inside : l < length i.labels
  pub belongs : ((nth_label i l).owner ≡ h) ⊎ (l ≡ end_of h)

-- a label from 2 up, in an image of n schemes
pub record SoundLabel (n : ℕ) (x : Label) : Type 0 where
  pub kinds : x.kind ≤ 2
  pub some : 1 ≤ x.owner
  pub most : x.owner ≤ n
  pub results : x.result ≤ 2
  pub masks : x.mask < 4294967296
  pub plain : x.kind ≡ 0 → x.called ≡ 0
  pub calls : (x.kind ≡ 0 → ⊥) → (2 ≤ x.called) × (x.called ≤ n)

pub record SoundRow (i : Image) (r : Row) : Type 0 where
  pub low : 2 ≤ r.from
  pub high : r.from < length i.labels
  pub cares : r.care < WORDS
  pub small : r.values < WORDS
  pub within : bit_and r.values r.care ≡ r.values
  pub bits : r.bit ≤ 2
  pub function : r.bit < 2 → (nth_label i r.from).kind ≡ 2
  pub leading : Reaches i (nth_label i r.from).owner r.next

pub record SoundImage (i : Image) : Type 0 where
  pub first : 1 ≤ length i.entries
  pub most : length i.entries ≤ SCHEMES
  pub two : 2 ≤ length i.labels
  pub last : length i.labels ≤ LABELS
  pub few : length i.rows ≤ ROWS
  pub handled : (i.handler ≡ 0 → ⊥) → (2 ≤ i.handler) × (i.handler ≤ length i.entries)
  pub starts : (h : ℕ) → h < length i.entries → Reaches i (suc h) (slice_index i.entries h)
  pub home : nth_label i 0 ≡ home_label
  pub back : nth_label i 1 ≡ return_label
  pub others : (l : ℕ) → 2 ≤ l → l < length i.labels → SoundLabel (length i.entries) (nth_label i l)
  pub each : (k : ℕ) → k < length i.rows → SoundRow i (nth_row i k)
  pub rising : (k : ℕ) → suc k < length i.rows → (nth_row i k).from ≤ (nth_row i (suc k)).from
