-- Digits and characters: each of the sixteen digits has one character, its capital where it is a letter.
use Rattle.std.proofs.Common.{if◌then◌else◌, ℕ, zero, suc, ◌+◌, ◌*◌, ◌-◌, ◌/◌, ◌%◌, ◌≤◌, ◌<◌, true, ◌&&◌, ◌≡◌, refl, sym, ◌∙◌, ap, List, [], nat_lt, nat_le, slice_index}
use Rattle.std.proofs.Common.{◌∷◌, map, arith, bit_and, le-ltb, lt-ltb, le-leb, leb-true}
use mir.Val.{bool_byte}
use borrow.Author.Tests.{lt-leb}
use Rattle.std.proofs.lemmas.Grind.{common_steps}
use Rattle.words.specs.lists.Numbers.{tabulate}
use Rattle.std.proofs.lemmas.Bool.{cond-false}
use Rattle.words.proofs.lists.Tests.{and-l, and-r, split, cases}
use Rattle.words.proofs.lists.Tabulated.{get_d-tabulate}
use Rattle.text.specs.digits.Digit.{numeral_of, letter_of, digit_of, char_of, capital}
use Rattle.text.specs.digits.EachDigit.{EachDigit}

-- what each of the 256 characters gives, computed
pub digit-each : EachDigit
unfolding tabulate digit_of
digit-each = refl

-- functions that give the same of each of the 256
each : (f g : ℕ → ℕ) → tabulate f 256 ≡ tabulate g 256 → (c : ℕ) → c < 256 → f c ≡ g c
each f g e c h = sym (get_d-tabulate f 256 c h) ∙ ap (λ (xs : List ℕ). slice_index xs c) e ∙ get_d-tabulate g 256 c h

-- a letter's digit by its capital: without the bit of 32 none but the twelve letters are between A and F; each of the 256 computed
abbrev masked : ℕ → ℕ
masked c = let letter = bit_and c 223 in if nat_le 65 letter && nat_le letter 70 then letter - 55 else 255

masked-each : tabulate masked 256 ≡ tabulate letter_of 256
unfolding tabulate
masked-each = refl

pub masked-is : (c : ℕ) → c < 256 → masked c ≡ letter_of c
masked-is = each masked letter_of masked-each

-- what numerals and letters give, joined: no character is both
abbrev joined : ℕ → ℕ
joined c = bit_and (numeral_of c) (letter_of c)

joined-each : tabulate joined 256 ≡ tabulate digit_of 256
unfolding tabulate digit_of
joined-each = refl

pub joined-is : (c : ℕ) → c < 256 → joined c ≡ digit_of c
joined-is = each joined digit_of joined-each

-- a test of two bounds
pub within : (a b c : ℕ) → (nat_le a c && nat_le c b) ≡ true → (a ≤ c) × (c ≤ b)
within a b c h = (leb-true a c (and-l (nat_le a c) (nat_le c b) h), leb-true c b (and-r (nat_le a c) (nat_le c b) h))

pub digit-low : (c : ℕ) → 48 ≤ c → c ≤ 57 → digit_of c ≡ c - 48
unfolding digit_of
digit-low c h l = simp (le-leb 48 c h, le-leb c 57 l)

pub digit-high : (c : ℕ) → 65 ≤ c → c ≤ 70 → digit_of c ≡ c - 55
unfolding digit_of
digit-high c h l = simp (lt-leb c 57 (omega arith), le-leb 48 c (omega arith), le-leb 65 c h, le-leb c 70 l)

pub digit-of-small : (c : ℕ) → 97 ≤ c → c ≤ 102 → digit_of c ≡ c - 87
unfolding digit_of
digit-of-small c h l = grind (arith, common_steps, lt-leb, le-leb)

pub capital-of-small : (c : ℕ) → 97 ≤ c → c ≤ 102 → capital c ≡ c - 32
unfolding capital
capital-of-small c h l = simp (le-leb 97 c h, le-leb c 102 l)

pub capital-same : (c : ℕ) → c < 97 → capital c ≡ c
unfolding capital
capital-same c h = simp (lt-leb 97 c h)

-- a text in capitals, by place; past its end too
pub capital-at : (t : List ℕ) (i : ℕ) → slice_index (map capital t) i ≡ capital (slice_index t i)
capital-at [] i = sym (capital-same 0 (omega arith))
capital-at (c ∷ t) zero = refl
capital-at (c ∷ t) (suc i) = capital-at t i

-- the four classes of characters
pub data Class (c : ℕ) : Type 0 where
  numeral : 48 ≤ c → c ≤ 57 → Class c
  large : 65 ≤ c → c ≤ 70 → Class c
  small : 97 ≤ c → c ≤ 102 → Class c
  other : digit_of c ≡ 255 → capital c ≡ c → Class c

pub class_of : (c : ℕ) → Class c
unfolding digit_of capital
class_of c = grind (arith, common_steps, cond-false, cases, within)

-- a character and its capital stand for the same digit
pub digit-capital : (c : ℕ) → digit_of (capital c) ≡ digit_of c
digit-capital c = grind (arith, common_steps, digit-high, digit-of-small, capital-of-small, capital-same, class_of)

pub char-low : (d : ℕ) → d < 10 → char_of d ≡ 48 + d
unfolding char_of
char-low d h = simp (lt-ltb d 10 h)

pub char-high : (d : ℕ) → 10 ≤ d → char_of d ≡ 55 + d
unfolding char_of
char-high d h = simp (le-ltb d 10 h)

pub char-made : (d : ℕ) → d + 48 + 7 * bool_byte (nat_lt 9 d) ≡ char_of d
char-made d = grind (arith, common_steps, le-ltb, split, lt-ltb, char-low, char-high)

pub char-small : (d : ℕ) → d < 16 → char_of d < 128
char-small d h = grind (arith, common_steps, split, char-low, char-high)

-- both characters of a byte by one sum: of each of the 256 computed
abbrev pub both_digits : ℕ → ℕ
both_digits b = b / 16 + b % 16 * 256

abbrev pub letters : ℕ → ℕ
letters b = bit_and ((both_digits b + 1542) / 16) 257

abbrev summed : ℕ → ℕ
summed b = both_digits b + 12336 + 7 * letters b

abbrev pair : ℕ → ℕ
pair b = char_of (b / 16) + 256 * char_of (b % 16)

pair-each : tabulate summed 256 ≡ tabulate pair 256
unfolding tabulate char_of
pair-each = refl

pub pair-made : (b : ℕ) → b < 256 → summed b ≡ pair b
pair-made = each summed pair pair-each

-- each of the two again
module _ (b r : ℕ) (small : b < 256) (e : r ≡ pair b) where
  pub pair-first : r % 256 ≡ char_of (b / 16)
  pair-first = omega (arith, char-small (b / 16) (omega arith))

  pub pair-second : r / 256 ≡ char_of (b % 16)
  pair-second = omega (arith, char-small (b / 16) (omega arith))

pub digit-char : (d : ℕ) → d < 16 → digit_of (char_of d) ≡ d
digit-char d h = grind (arith, common_steps, split, digit-low, digit-high, char-low, char-high)

-- the character of a character's digit is its capital
pub char-digit : (c : ℕ) → digit_of c < 16 → char_of (digit_of c) ≡ capital c
char-digit c h = grind (arith, common_steps, class_of c, digit-low, digit-high, digit-of-small, capital-of-small, capital-same, char-low, char-high)

pub ruleset digits_made = (char-made, pair-made, joined-is, masked-is)
