-- The parts of each class after a round: how many labels each has, the largest one, and the marks of all others.
use Rattle.std.specs.Prelude.{ℕ, zero, suc, ◌+◌, ◌≡◌, Bool, true, false, ◌&&◌, not, List, set, if◌then◌else◌, nat_lt, ◌==◌, slice_index}
use Rattle.std.specs.List.{list_any, range_with_len}

-- a buffer after one write for each label from 0 up to n
unfoldable pub labelled : (ℕ → ℕ) → (ℕ → List ℕ → ℕ) → ℕ → List ℕ → List ℕ
labelled place value zero xs = xs
labelled place value (suc l) xs = let before = labelled place value l xs in set before (place l) (value l before)

-- the labels of a class with label l, up to 255: its lowest label is the first of them
abbrev pub member_count : List ℕ → ℕ → ℕ → ℕ
member_count counts class l =
    let before = slice_index counts class in if class == l then 1 else if nat_lt before 255 then before + 1 else before

abbrev pub count_members : List ℕ → ℕ → List ℕ → List ℕ
count_members classes = labelled (λ l. slice_index classes l) (λ l counts. member_count counts (slice_index classes l) l)

-- the part of label l, where none is kept for its former class or one with fewer labels, else the part that is kept
abbrev pub larger_part : List ℕ → List ℕ → ℕ → ℕ → ℕ → ℕ
larger_part counts kept class l part =
    let first = slice_index kept class in
    if class == l then part
    else if nat_lt (slice_index counts first) (slice_index counts part) then part
    else first

abbrev pub keep_largest : List ℕ → List ℕ → List ℕ → ℕ → List ℕ → List ℕ
keep_largest classes next counts =
    labelled (λ l. slice_index classes l) (λ l kept. larger_part counts kept (slice_index classes l) l (slice_index next l))

-- 2 for a label whose part is not the one that is kept, else 0
abbrev pub mark_of : ℕ → ℕ → ℕ
mark_of part kept = if part == kept then 0 else 2

abbrev pub mark_others : List ℕ → List ℕ → List ℕ → ℕ → List ℕ → List ℕ
mark_others classes next kept = labelled (λ l. l) (λ l _. mark_of (slice_index next l) (slice_index kept (slice_index classes l)))

-- what the three buffers then hold
pub record LargestKept (classes next marks₀ counts₀ kept₀ : List ℕ) (n : ℕ) (marks counts kept : List ℕ) : Type 0 where
  pub counted : counts ≡ count_members next n counts₀
  pub largest : kept ≡ keep_largest classes next counts n kept₀
  pub others : marks ≡ mark_others classes next kept n marks₀

-- label l left its class and is not the lowest of its next one
abbrev pub is_led_away : List ℕ → List ℕ → ℕ → Bool
is_led_away classes next l = not (slice_index next l == slice_index classes l) && not (slice_index next l == l)

-- 2 for a label that left its class, else 0
abbrev pub mark_left : List ℕ → List ℕ → ℕ → List ℕ → List ℕ
mark_left classes next = labelled (λ l. l) (λ l _. mark_of (slice_index next l) (slice_index classes l))

-- Where each label that left its class is alone since, just these are marked, and the other buffers are not needed.
pub record PartsMarked (classes next marks₀ counts₀ kept₀ : List ℕ) (n : ℕ) (marks counts kept : List ℕ) : Type 0 where
  pub alone : list_any (is_led_away classes next) (range_with_len 0 n) ≡ false → marks ≡ mark_left classes next n marks₀
  pub together : list_any (is_led_away classes next) (range_with_len 0 n) ≡ true
      → LargestKept classes next marks₀ counts₀ kept₀ n marks counts kept
