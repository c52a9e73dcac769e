-- Pairs of rows in blocks: what is shared by one more row, and that pairs within blocks and across them are all pairs.
use Rattle.std.proofs.Common.{ℕ, zero, suc, ◌+◌, ◌-◌, ◌≤◌, ◌<◌, Bool, true, false, ◌||◌, ◌≡◌, refl, sym, ◌∙◌, ap, List, arith}
use Rattle.std.proofs.Common.{bit_and}
use Rattle.std.specs.Int.Bits.{bit_xor, and_self}
use lib.Bits.{and_le_l, xor_lt}
use Rattle.std.proofs.lemmas.Nat.{and_assoc, and_comm}
use Rattle.std.proofs.lemmas.Nat.Bits.{bit_at_and, bit_at_xor, bit_at_not, bit_at-lt, same_from_bits_below}
use Rattle.std.proofs.lemmas.Grind.{common_steps}
use Rattle.std.specs.Int.{w16}
use Rattle.std.specs.List.{list_any, range_with_len}
use Rattle.words.specs.lists.Numbers.{any}
use Rattle.words.proofs.lists.Tests.{cases, split}
use Rattle.words.proofs.lists.Searches.{any-alike}
use Rattle.text.specs.frames.Frame.{pair_at}
use Rattle.image.specs.declared.layout.TheConstants.{CARE, VALUES}
use Rattle.image.specs.Image.{Row}
use Rattle.image.specs.Decode.{row_in_frame}
use Rattle.covering.specs.Matched.{is_together}
use Rattle.covering.specs.inner.CoveringContracts.{is_together_with_some, has_any_together}
use Rattle.covering.specs.inner.Sharing.{Shares, is_agreeing_with, has_any_across}
use Rattle.covering.proofs.Chains.{any-chain, chain-none}
use Rattle.std.proofs.lemmas.Bool.Decides.{nat_tests}

-- ---- searches in parts
any-split : (p : ℕ → Bool) (i m n : ℕ) → any p i (m + n) ≡ (any p i m || any p (i + m) n)
unfolding any
any-split p i zero n = grind (arith, common_steps)
any-split p i (suc m) n =
    let e : suc m + n ≡ suc (m + n) = omega arith in
    let z : i + suc m ≡ suc i + m = omega arith in
    grind (arith, common_steps, any-split p (suc i) m n, ap (λ (x : ℕ). any p i x) e, ap (λ (x : ℕ). any p x n) z)

any-or : (p q : ℕ → Bool) (i n : ℕ) → any (λ k. p k || q k) i n ≡ (any p i n || any q i n)
unfolding any
any-or p q i zero = refl
any-or p q i (suc n) = grind (arith, common_steps, any-or p q (suc i) n)

pub chain-split : (p : ℕ → Bool) (i j k : ℕ) → i ≤ j → j ≤ k
    → list_any p (range_with_len i (k - i)) ≡ (list_any p (range_with_len i (j - i)) || list_any p (range_with_len j (k - j)))
chain-split p i j k h g = grind (arith, any-chain p i (k - i), any-split p i (j - i) (k - j), any-chain p i (j - i), any-chain p j (k - j))

pub chain-both : (p q r : ℕ → Bool) (i n : ℕ) → ((k : ℕ) → i ≤ k → k < i + n → r k ≡ (p k || q k))
    → list_any r (range_with_len i n) ≡ (list_any p (range_with_len i n) || list_any q (range_with_len i n))
chain-both p q r i n h = grind (arith, any-chain r i n, any-alike r, any-or p q i n, any-chain p i n, any-chain q i n)

-- ---- what is shared
-- with a row that has these conditions and values too
abbrev narrowed : ℕ → ℕ → ℕ → ℕ → ℕ
narrowed care values c v = bit_and (bit_and care c) (65535 - bit_xor values v)

within-and : (h x y : ℕ) → bit_and h x ≡ x → bit_and h (bit_and x y) ≡ bit_and x y
within-and h x y e = sym (and_assoc y h x) ∙ ap (λ (z : ℕ). bit_and z y) e

and-again : (c x : ℕ) → bit_and c (bit_and x c) ≡ bit_and x c
and-again c x = grind (arith, and_comm, and_assoc, and_self)

and-twice : (x c : ℕ) → bit_and (bit_and x c) c ≡ bit_and x c
and-twice x c = grind (arith, and_assoc, and_self)

-- of values that are v where a row cares, its further values under less
through : (v care values y : ℕ) → bit_and v care ≡ values → bit_and values care ≡ values
    → bit_and v (bit_and care y) ≡ bit_and values (bit_and care y)
through v care values y e own = grind (arith, and_assoc y v care, and_assoc y values care)

module _ (care values c v : ℕ) (hv : values < 65536) (gv : v < 65536) where
  abbrev n : ℕ
  n = narrowed care values c v

  narrow-has : bit_and v n ≡ bit_and values n
  narrow-has = same_from_bits_below 16 (bit_and v n) (bit_and values n)
      (omega (arith, and_le_l v n)) (omega (arith, and_le_l values n))
      (λ j h. grind (arith, nat_tests, bit_at_and, bit_at_not w16 (bit_xor values v) j (xor_lt 16 values v hv gv) h, bit_at_xor, bit_at-lt))

  narrow-cares : bit_and c n ≡ n
  narrow-cares = grind (arith, within-and, and-again)

  narrow-kept : (h : ℕ) → bit_and h care ≡ care → bit_and h n ≡ n
  narrow-kept h e = grind (arith, within-and)

  narrow-through : (w : ℕ) → bit_and w care ≡ values → bit_and values care ≡ values → bit_and w n ≡ bit_and values n
  narrow-through w e own = search (arith, and_assoc, through)

module _ (b : List ℕ) (first : ℕ) where
  pub shares-first : (c v : ℕ) → c ≡ pair_at b first CARE → v ≡ pair_at b first VALUES → Shares b first (first + 1) c (bit_and v c)
  shares-first c v p q = grind (arith, common_steps, and-twice v c)

  pub shares-on : (g care values c v : ℕ) → Shares b first g care values → values < 65536 → v < 65536
      → c ≡ pair_at b g CARE → v ≡ pair_at b g VALUES
      → Shares b first (g + 1) (narrowed care values c v) (bit_and values (narrowed care values c v))
  shares-on g care values c v s hv gv p q = search (arith, split, and-twice, narrow-has, narrow-cares, narrow-kept, narrow-through)

-- ---- a row that differs in what is shared
alike-shared : (c v d u care values : ℕ) → bit_and c care ≡ care → bit_and v care ≡ values → bit_and u c ≡ bit_and v d
    → bit_and u care ≡ bit_and values d
alike-shared c v d u care values p q e = grind (arith, and_assoc care u c, and_assoc care v d, and_comm d care, and_assoc d v care)

module _ (b : List ℕ) (first end care values : ℕ) (s : Shares b first end care values) (r : Row) where
  pub differs-from : is_agreeing_with care values r ≡ false → (f : ℕ) → first ≤ f → f < end
      → is_together r (row_in_frame b f) ≡ false
  differs-from e f h g = grind (arith, common_steps, cases (is_together r (row_in_frame b f)), s.cares f h g, s.has f h g, alike-shared)

  pub differs-from-all : is_agreeing_with care values r ≡ false → is_together_with_some b r first (end - first) ≡ false
  differs-from-all e = search (arith, chain-none, differs-from)

-- ---- all pairs, block by block
-- the pairs of rows from frame `from` up to end are left
pub record InBlocks (b : List ℕ) (first end from : ℕ) : Type 0 where
  pub low : first ≤ from
  pub high : from ≤ end
  pub left : has_any_together b from (end - from) ≡ has_any_together b first (end - first)

module _ (b : List ℕ) where
  abbrev with : ℕ → ℕ → ℕ → Bool
  with f i n = is_together_with_some b (row_in_frame b f) i n

  parts : (i j k : ℕ) → i ≤ j → j ≤ k
      → has_any_together b i (k - i) ≡ ((has_any_together b i (j - i) || has_any_across b i j k) || has_any_together b j (k - j))
  parts i j k h g =
      let both = chain-both (λ f. with f i (j - i)) (λ f. with f j (f - j)) (λ f. with f i (f - i)) j (k - j)
      (λ f p q. chain-split (λ x. is_together (row_in_frame b f) (row_in_frame b x)) i j f h p) in
      grind (arith, common_steps, chain-split (λ f. with f i (f - i)) i j k h g, both)

  module _ (first end from next : ℕ) (t : InBlocks b first end from) (low : from < next) (high : next ≤ end) (x : Bool)
      (p : x ≡ has_any_together b from (next - from)) where
    pub within-hit : x ≡ true → true ≡ has_any_together b first (end - first)
    within-hit e = grind (arith, common_steps, parts from next end (omega arith) high, t.left)

    module _ (y : Bool) (q : y ≡ has_any_across b from next end) where
      pub across-hit : y ≡ true → true ≡ has_any_together b first (end - first)
      across-hit e = grind (arith, common_steps, parts from next end (omega arith) high, t.left)

      pub blocks-on : x ≡ false → y ≡ false → InBlocks b first end next
      blocks-on e g = search (arith, parts)
