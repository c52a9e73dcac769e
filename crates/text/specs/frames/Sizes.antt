-- The sizes of words.
use Rattle.std.specs.Prelude.{ℕ}

-- the conditions of a word
abbrev pub CONDITIONS : ℕ
CONDITIONS = 16

-- how many words there are; no run with a price and no list that is counted has more than that
abbrev pub WORDS : ℕ
WORDS = 65536
