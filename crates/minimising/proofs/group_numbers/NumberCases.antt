-- Cases of the functions that number the groups and count what is kept.
use Rattle.std.proofs.Common.{if◌then◌else◌, ℕ, ◌+◌, ◌≤◌, ◌<◌, ◌≡◌, ◌∙◌, Bool, true, false, List, slice_index}
use Rattle.std.proofs.Common.{arith, length, set, get_or-set_same, get_or-set_other}
use Rattle.std.proofs.lemmas.Grind.{common_steps}
use Rattle.words.specs.lists.Numbers.{count}
use Rattle.words.specs.lists.Sequences.{over}
use Rattle.words.proofs.lists.Fills.{ValuesFrom, values-none, values-turn, values-all}
use Rattle.words.proofs.lists.Written.{written-front}
use Rattle.words.proofs.lists.Ranges.{length-map-range, get_or-map-range}
use Rattle.std.proofs.Math.ListN.{get_or-append}
use Rattle.words.proofs.lists.Counts.{count-snoc, count-le}
use Rattle.grouping.specs.Classes.{is_first}
use Rattle.minimising.specs.group_numbers.Smaller.{renumbered_label}
use Rattle.minimising.specs.inner.NumberContracts.{LowestOfClass, group_numbers}

-- ---- number_groups: the labels below l have their numbers
pub record NumberTurn (c old numbers : List ℕ) (n groups l : ℕ) : Type 0 where
  pub room : length old ≡ 256
  pub filled : ValuesFrom (renumbered_label c) old numbers 0 n l
  pub is : groups ≡ count (is_first c) 0 l
  pub few : groups ≤ l
  pub at : (k : ℕ) → k < l → slice_index numbers k ≡ renumbered_label c k

pub turn-start : (c old : List ℕ) (n : ℕ) → length old ≡ 256 → NumberTurn c old old n 0 0
turn-start c old n e = grind (arith, values-none (renumbered_label c) old 0 n, count-le (is_first c) 0 0)

module _ (c old numbers : List ℕ) (n groups l : ℕ) (low : LowestOfClass c n)
    (t : NumberTurn c old numbers n groups l) (h : l < n) (small : n ≤ 256) where
  abbrev number : ℕ
  number = if is_first c l then groups else slice_index numbers (slice_index c l)

  number-is : (b : Bool) → is_first c l ≡ b → number ≡ renumbered_label c l
  number-is true e = grind (arith, common_steps)
  number-is false e = grind (arith, common_steps)

  pub turn-on : (v x : ℕ) → v ≡ number → x ≡ (if is_first c l then 1 else 0) → x ≤ 1
      → NumberTurn c old (set numbers l v) n (groups + x) (l + 1)
  turn-on v x e w most = record {
    room = t.room;
    filled = grind (arith, t.room, t.filled, values-turn (renumbered_label c) old 0 n numbers l v, number-is (is_first c l));
    is = grind (arith, t.is, count-snoc (is_first c) 0 l);
    few = omega (arith, t.few, most);
    at = λ k j. grind (arith, common_steps, get_or-set_same, get_or-set_other, t.at k, t.room, t.filled.size, number-is (is_first c l));
  }

module _ (c old numbers : List ℕ) (n : ℕ) where
  pub turn-all : (groups l : ℕ) → NumberTurn c old numbers n groups l → n ≤ l → numbers ≡ over (group_numbers c n) old
  turn-all groups l t h = values-all (renumbered_label c) old 0 n numbers l t.filled h ∙ written-front old (group_numbers c n)

  pub number-at : numbers ≡ over (group_numbers c n) old → (l : ℕ) → l < n → slice_index numbers l ≡ renumbered_label c l
  number-at e l h = grind (arith, get_or-append, length-map-range, get_or-map-range)
