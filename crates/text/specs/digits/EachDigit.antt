-- The digit of each of the 256 characters, written out.
use Rattle.std.specs.Prelude.{◌≡◌, ◌++◌, replicate}
use Rattle.words.specs.lists.Numbers.{range, tabulate}
use Rattle.text.specs.digits.Digit.{digit_of}

-- 48 of them nothing, then 0 to 9, 7 nothing, A to F, 26 nothing, a to f, the others nothing
abbrev pub EachDigit : Type 0
EachDigit =
    tabulate digit_of 256
    ≡ replicate 48 255 ++ (range 0 10 ++ (replicate 7 255 ++ (range 10 6 ++ (replicate 26 255 ++ (range 10 6 ++ replicate 153 255)))))
