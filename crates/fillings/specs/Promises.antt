-- What the counts promise of every image: the lists counted are all lists, each once, and the three counts are together as many.
use Rattle.std.specs.Prelude.{ℕ, ◌+◌, ◌^◌, ◌<◌, ◌≡◌, List, length}
use Rattle.std.specs.List.{AllByRecursion}
use Rattle.text.specs.frames.Answer.{success}
use Rattle.fillings.specs.Counts.{words_of, lists, count_fillings}

-- n words below 2 ^ k
pub record Words (n k : ℕ) (words : List ℕ) : Type 0 where
  pub many : length words ≡ n
  pub low : AllByRecursion (λ (w : ℕ). w < 2 ^ k) words

-- a list that has just one number below their count
pub record NumberedList (n k : ℕ) (words : List ℕ) : Type 0 where
  pub number : ℕ
  pub low : number < lists n k
  pub same : words_of n k number ≡ words
  pub only : (x : ℕ) → x < lists n k → words_of n k x ≡ words → x ≡ number

-- each number stands for n words below 2 ^ k, and each list of such words has its number
pub record AllLists : Type 0 where
  pub each : (n k x : ℕ) → Words n k (words_of n k x)
  pub once : (n k : ℕ) (words : List ℕ) → Words n k words → NumberedList n k words

-- the three counts are all lists
unfoldable pub SumsUp : Type 0
SumsUp =
    (t : List ℕ) (size n k : ℕ) → let r = count_fillings t size n k in
    r.reply ≡ success 0 → r.ended + r.full + r.unmatched ≡ lists n k
