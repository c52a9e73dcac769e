-- Two rows are together just where some word of 16 bits and some bit match both.
use Rattle.std.proofs.Common.{if◌then◌else◌, ℕ, ◌%◌, ◌≤◌, ◌<◌, min, Bool, true, false, ◌||◌, ◌≡◌, sym, ◌∙◌, ap, ◌==◌}
use Rattle.std.proofs.Common.{arith, bit_and, bit_or, eqb-true, eq-eqb, ne_eqb}
use Rattle.std.proofs.lemmas.Nat.{and_assoc, and_comm, or_comm}
use lib.Bits.{and_le_r, and_mod, or_lt}
use Rattle.std.proofs.lemmas.Grind.{common_steps}
use Rattle.words.proofs.lists.Tests.{cases, no_both, and-l, and-r, and-true, or-cases, or-true-l, or-true-r}
use Rattle.std.specs.Int.{bit_at}
use Rattle.words.proofs.bits.BitLaws.{bit-and, bit-or, same-bits}
use Rattle.image.specs.Image.{Image, Row}
use Rattle.image.specs.inner.Sound.{SoundRow}
use Rattle.image.proofs.Accepted.{image-sound}
use Rattle.rows.specs.Rows.{is_match}
use Rattle.covering.specs.Matched.{is_together}
use Rattle.covering.specs.Common.{Common, TogetherCommon, CommonTogether}

-- ---- words above 16 bits
pub and-low : (w c : ℕ) → c < 65536 → bit_and w c ≡ bit_and (w % 65536) c
and-low w c h = grind (arith, and_le_r w c, and_mod w c 16)

pub matches-low : (w b : ℕ) (r : Row) → r.care < 65536 → is_match w b r ≡ is_match (w % 65536) b r
matches-low w b r h = grind (arith, and-low w r.care h)

-- ---- the words
-- values of two masks that one word has
both-have : (w c v d u : ℕ) → v < 65536 → u < 65536 → bit_and w c ≡ v → bit_and w d ≡ u → bit_and v d ≡ bit_and u c
both-have w c v d u hv hu p q = grind (arith, and_assoc, and_comm)

-- one word that has the values of both
joined-has : (c v d u : ℕ) → c < 65536 → v < 65536 → bit_and v c ≡ v → bit_and v d ≡ bit_and u c → bit_and (bit_or v u) c ≡ v
joined-has c v d u hc hv p q = same-bits 16 (bit_and (bit_or v u) c) v (omega (arith, and_le_r (bit_or v u) c)) hv (λ j.
    let x : min (bit_at v j) (bit_at c j) ≡ bit_at v j = sym (bit-and v c j) ∙ ap (λ (y : ℕ). bit_at y j) p in
    let z : min (bit_at v j) (bit_at d j) ≡ min (bit_at u j) (bit_at c j) = sym (bit-and v d j) ∙ ap (λ (y : ℕ). bit_at y j) q ∙ bit-and u c j in
    bit-and (bit_or v u) c j ∙ ap (λ (y : ℕ). min y (bit_at c j)) (bit-or v u j) ∙ omega arith)

-- ---- the bits
abbrev suits : ℕ → ℕ → Bool
suits f b = f == 2 || f == b

bits-suit : (f g b : ℕ) → suits f b ≡ true → suits g b ≡ true → (f == 2 || g == 2 || f == g) ≡ true
bits-suit f g b p q = grind (arith, common_steps, eqb-true, or-true-l, or-true-r, or-cases, eq-eqb)

-- a bit that suits both
suiting : (f g : ℕ) → f ≤ 2 → g ≤ 2 → (f == 2 || g == 2 || f == g) ≡ true
    → let b : ℕ = (if f == 1 || g == 1 then 1 else 0) in (suits f b ≡ true) × (suits g b ≡ true)
suiting f g hf hg e = grind (arith, common_steps, cases (f == 1), cases (g == 1), cases (f == 2), cases (g == 2))

-- ---- in the other order
pub together-turned : (r s : Row) → is_together r s ≡ false → is_together s r ≡ false
together-turned r s e = grind (arith, common_steps, ne_eqb, eq-eqb, no_both)

-- ---- both ways
module _ (r s : Row) where
  pub common-together : (w b : ℕ) → r.values < 65536 → s.values < 65536 → is_match w b r ≡ true
      → is_match w b s ≡ true → is_together r s ≡ true
  common-together w b hr hs p q = grind (arith, common_steps, eqb-true, and-l, and-true, and-r, eq-eqb, both-have, bits-suit)

  pub together-common : {i : Image} → SoundRow i r → SoundRow i s → is_together r s ≡ true → Common r s
  together-common R S e =
      let q : bit_and r.values s.care ≡ bit_and s.values r.care = grind (arith, common_steps) in
      let t = suiting r.bit s.bit R.bits S.bits (and-r (bit_and r.values s.care == bit_and s.values r.care) _ e) in
      record {
        word = bit_or r.values s.values;
        low = or_lt 16 r.values s.values R.small S.small;
        bit = r.bit == 1 || s.bit == 1;
        first = grind (arith, common_steps, joined-has r.care r.values s.care s.values R.cares R.small R.within q, t.0);
        second = grind (arith, common_steps, joined-has s.care s.values r.care r.values S.cares S.small S.within (sym q), or_comm, t.1);
      }

-- of every accepted image
pub rows-together-common : TogetherCommon
rows-together-common t ok j k hj hk e = let S = image-sound t ok in together-common _ _ (S.each j hj) (S.each k hk) e

-- of any two rows
pub rows-common-together : CommonTogether
rows-common-together r s w b hr hs p q = common-together r s w b hr hs p q
