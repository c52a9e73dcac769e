-- The rule for a grouping of an image's labels, and how many groups a grouping has.
use Rattle.std.specs.Prelude.{ℕ, ◌<◌, Bool, true, not, ◌≡◌, length, ◌==◌}
use Rattle.words.specs.lists.Numbers.{any, count}
use Rattle.text.specs.frames.Sizes.{WORDS}
use Rattle.image.specs.Image.{Image, nth_row}
use Rattle.rows.specs.Rows.{is_candidate}
use Rattle.state.specs.State.{label_at}

-- each label with the number of its group
abbrev pub Grouping : Type 0
Grouping = ℕ → ℕ

-- The rule: labels of one group hold the same, and their rows that match a common word and bit lead to one group.
pub record Meets (i : Image) (g : Grouping) : Type 0 where
  pub same : (l m : ℕ) → l < length i.labels → m < length i.labels → g l ≡ g m → label_at i l ≡ label_at i m
  pub leads : (l m : ℕ) → l < length i.labels → m < length i.labels → g l ≡ g m
      → (w b : ℕ) → w < WORDS → b < 2 → (j k : ℕ) → j < length i.rows → k < length i.rows
      → is_candidate l w b (nth_row i j) ≡ true → is_candidate m w b (nth_row i k) ≡ true → g (nth_row i j).next ≡ g (nth_row i k).next

-- a group is counted at its lowest member
abbrev pub is_lowest : Grouping → ℕ → Bool
is_lowest g l = not (any (λ k. g k == g l) 0 l)

abbrev pub groups : Grouping → ℕ → ℕ
groups g n = count (is_lowest g) 0 n
