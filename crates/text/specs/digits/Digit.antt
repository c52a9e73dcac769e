-- Digits: what a character stands for, the character of a digit, and capitals.
use Rattle.std.specs.Prelude.{ℕ, ◌+◌, ◌-◌, ◌&&◌, if◌then◌else◌, nat_lt, nat_le}

-- 0-9 stand for 0 to 9, every other character gives 255
abbrev pub numeral_of : ℕ → ℕ
numeral_of c = if nat_le 48 c && nat_le c 57 then c - 48 else 255

-- A-F and a-f stand for 10 to 15, every other character gives 255
abbrev pub letter_of : ℕ → ℕ
letter_of c = if nat_le 65 c && nat_le c 70 then c - 55 else if nat_le 97 c && nat_le c 102 then c - 87 else 255

-- the digit of a character, or 255
unfoldable pub digit_of : ℕ → ℕ
digit_of c = if nat_le 48 c && nat_le c 57 then c - 48 else letter_of c

-- the character of a digit, a capital from ten on
unfoldable pub char_of : ℕ → ℕ
char_of d = if nat_lt d 10 then 48 + d else 55 + d

-- a-f as A-F, every other character as it is
unfoldable pub capital : ℕ → ℕ
capital c = if nat_le 97 c && nat_le c 102 then c - 32 else c
