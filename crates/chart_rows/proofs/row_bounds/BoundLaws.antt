-- How many paths go on from a node at most: each test of a new number takes one from the numbers that are untested, and at most doubles
-- the paths.
use Rattle.std.proofs.Common.{if◌then◌else◌, ◌≡◌, refl, sym, ◌∙◌, ap, subst, ◌⊎◌, inl, inr, ⊎_elim, Bool, true, false, ◌&&◌, List, ◌++◌, ℕ}
use Rattle.std.proofs.Common.{◌==◌, slice_index}
use Rattle.std.proofs.Common.{zero, suc, ◌+◌, ◌-◌, ◌*◌, ◌/◌, ◌%◌, ◌^◌, ◌≤◌, ◌<◌, max, pow-suc, div-one, add-one, arith, bit_or, length}
use Rattle.std.proofs.Common.{replicate, length-append, pow_pos, pow_mono, shr-shr, shr_lt, shl_exact}
use Rattle.std.proofs.Common.{eqb-true, eq-eqb, ne_eqb}
use Rattle.std.proofs.Math.Decide.{ℕ_discrete}
use Rattle.std.proofs.Math.Arith.{lt-one}
use lib.Count.{ones, ones_step, ones-le}
use Rattle.std.proofs.Math.ListN.{length-replicate, get_or-replicate}
use Rattle.std.proofs.Math.Pow.{high, ones_lt, ones_split}
use Rattle.std.proofs.lemmas.Grind.{common_steps}
use Rattle.words.specs.lists.Numbers.{count}
use Rattle.words.proofs.lists.Counts.{count-suc, count-within, count-less}
use Rattle.std.proofs.lemmas.Bool.{cond-true, cond-false}
use Rattle.words.proofs.lists.Tests.{and-l, and-r, and-true, and-no}
use Rattle.std.specs.Int.{bit_at}
use Rattle.words.proofs.bits.BitLaws.{bit-or, bit-pow-same, bit-add-same, bit-add-other, bit-cases}
use Rattle.text.specs.frames.Frame.{size}
use Rattle.charts.specs.Chart.{Chart, kind, argument, next0, next1, arc_taken}
use Rattle.charts.proofs.Rank.{rank, rank-le, rank-some, rank-falls0, rank-falls1}
use Rattle.walk.specs.Stops.{is_stop}
use Rattle.walk.proofs.Follow.{goes-on, taken-by}
use Rattle.image.specs.Image.{Row}
use Rattle.chart_rows.specs.inner.ChartContracts.{Ready}
use Rattle.chart_rows.proofs.chart_labels.ReadyLaws.{ready-sound}
use Rattle.chart_rows.specs.inner.NodeRows.{paths_from, tested_number, untested_count}
use Rattle.chart_rows.specs.inner.PathContracts.{NotedAt, Entered, FewPaths, Masked}
use Rattle.chart_rows.proofs.PathSteps.{entered0, entered1, at-stop, at-known, at-new}
use Rattle.chart_rows.proofs.NumberLaws.{small-number, high-stops, low-condition, low-goes, low-number}

-- ---- the numbers of a mask that are untested
-- each number of the first mask is one of the second
pub record MaskWithin (m n : ℕ) : Type 0 where
  pub each : (i : ℕ) → bit_at m i ≡ 1 → bit_at n i ≡ 1

abbrev free : ℕ → ℕ → ℕ → Bool
free mask care i = bit_at mask i == 1 && bit_at care i == 0

module _ (m n : ℕ) (w : MaskWithin m n) where
  pub untested-more : (care : ℕ) → untested_count m care ≤ untested_count n care
  untested-more care = grind (arith, common_steps, and-r, eq-eqb, count-within, eqb-true, and-true, and-l)

  pub untested-less : (care i : ℕ) → i < 16 → bit_at n i ≡ 1 → bit_at care i ≡ 0 → untested_count m (care + 2 ^ i) < untested_count n care
  untested-less care i l one z =
      count-less (free m (care + 2 ^ i)) (free n care) 0 16 (λ k a b e. go k e (ℕ_discrete i k)) i (omega arith) (omega arith) here
      (and-true (bit_at n i == 1) (bit_at care i == 0) (eq-eqb (bit_at n i) 1 one) (eq-eqb (bit_at care i) 0 z))
    where
      here : free m (care + 2 ^ i) i ≡ false
      here = ap (λ (x : ℕ). bit_at m i == 1 && x == 0) (bit-add-same care i z) ∙ and-no (bit_at m i == 1) false refl

      go : (k : ℕ) → free m (care + 2 ^ i) k ≡ true → Dec (i ≡ k) → free n care k ≡ true
      go k e (yes q) =
          let o : bit_at (care + 2 ^ i) k ≡ 1 = ap (bit_at (care + 2 ^ i)) (sym q) ∙ bit-add-same care i z in
          let y : bit_at (care + 2 ^ i) k ≡ 0 =
          eqb-true (bit_at (care + 2 ^ i) k) 0 (and-r (bit_at m k == 1) (bit_at (care + 2 ^ i) k == 0) e) in
          absurd (omega arith)
      go k e (no q) =
          and-true (bit_at n k == 1) (bit_at care k == 0)
          (eq-eqb (bit_at n k) 1 (w.each k (eqb-true (bit_at m k) 1 (and-l (bit_at m k == 1) (bit_at (care + 2 ^ i) k == 0) e))))
          (eq-eqb (bit_at care k) 0 (sym (bit-add-other care i k z q)
          ∙ eqb-true (bit_at (care + 2 ^ i) k) 0 (and-r (bit_at m k == 1) (bit_at (care + 2 ^ i) k == 0) e)))

-- no more of them than bits in the mask
ones-count : (k i m : ℕ) → m < 2 ^ (i + k) → ones (m / 2 ^ i) ≡ count (λ j. bit_at m j == 1) i k
ones-count zero i m h =
    unfold count ones in ap ones (lt-one (shr_lt {n = m} 0 i (subst (λ (x : ℕ). m < 2 ^ x) (omega arith) h)))
ones-count (suc k) i m h =
    ones_step (m / 2 ^ i) ∙ ap (λ (x : ℕ). bit_at m i + ones x) (shr-shr m i 1)
    ∙ ap (λ (x : ℕ). bit_at m i + x) (ap (λ (x : ℕ). ones (m / 2 ^ x)) (add-one i)
    ∙ ones-count k (suc i) m (subst (λ (x : ℕ). m < 2 ^ x) (omega arith) h))
    ∙ ap (λ (x : ℕ). x + count (λ j. bit_at m j == 1) (suc i) k) (digit (bit-cases m i))
    ∙ sym (count-suc (λ j. bit_at m j == 1) i k)
  where
    digit : (bit_at m i ≡ 0) ⊎ (bit_at m i ≡ 1) → bit_at m i ≡ (if bit_at m i == 1 then 1 else 0)
    digit = ⊎_elim
        (λ (z : bit_at m i ≡ 0). z ∙ sym (cond-false (bit_at m i == 1) 1 0 (ne_eqb (bit_at m i) 1 (λ q. omega arith))))
        (λ (o : bit_at m i ≡ 1). o ∙ sym (cond-true (bit_at m i == 1) 1 0 (eq-eqb (bit_at m i) 1 o)))

pub untested-ones : (m care : ℕ) → m < 65536 → untested_count m care ≤ ones m
untested-ones m care h =
    let o : ones m ≡ count (λ j. bit_at m j == 1) 0 16 = ap ones (sym (div-one m)) ∙ ones-count 16 0 m h in
    let w : untested_count m care ≤ count (λ j. bit_at m j == 1) 0 16 =
    count-within (free m care) (λ j. bit_at m j == 1) 0 16 (λ k a b e. and-l (bit_at m k == 1) (bit_at care k == 0) e) in
    omega arith

-- one value for no bit, and two for each bit
pub no-values : (m : ℕ) → m ≡ 0 → (care : ℕ) → 2 ^ untested_count m care ≤ 1
no-values m e care = grind (arith, common_steps, ones-le, pow_mono, untested-ones)

module _ (m : ℕ) (h : m < 65536) where
  unshifted : 1 * 2 ^ ones m % 2 ^ 64 ≡ 1 * 2 ^ ones m
  unshifted = shl_exact 1 (ones m) 64 (omega arith) (omega (arith, ones-le 16 m h))

  pub count-values : (care : ℕ) → 2 ^ untested_count m care ≤ 1 * 2 ^ ones m % 18446744073709551616
  count-values care = omega (arith, unshifted, pow_mono {i = untested_count m care} {j = ones m} (untested-ones m care h))

  pub few-values : 1 * 2 ^ ones m % 18446744073709551616 ≤ 65536
  few-values = omega (arith, unshifted, pow_mono {i = ones m} {j = 16} (ones-le 16 m h))

-- ---- the paths on from a node
module _ (c : Chart) (ready : Ready c) where
  abbrev P : ℕ → ℕ → ℕ → ℕ → ℕ → List Row
  P l f care values v = paths_from (size c) c l f care values v

  pub few-stop : (v m : ℕ) → Entered c v → is_stop c v ≡ true → FewPaths c v m
  few-stop v m t s = record {
    most = λ l f care values.
        omega (arith, ap (λ (rs : List Row). length rs) (at-stop c ready l f care values v t s), pow_pos (untested_count m care));
  }

  -- by the masks behind the two arcs
  pub few-goes : (v i a b m : ℕ) → Entered c v → is_stop c v ≡ false → i ≡ argument c v → FewPaths c (next0 c v) a
      → FewPaths c (next1 c v) b
      → bit_at m i ≡ 1 → MaskWithin a m → MaskWithin b m → FewPaths c v m
  few-goes v i a b m t s e p q one wa wb = record { most = λ l f care values. go l f care values (bit-cases care i) }
    where
      three : kind c v ≡ 3
      three = goes-on c v t.no_begin s

      small : i < 16
      small = small-number (record { ready = ready; inside = t.inside; kind = three }) e

      side : (l f care values w : ℕ) → (x : ℕ) → FewPaths c w x → MaskWithin x m → length (P l f care values w) ≤ 2 ^ untested_count m care
      side l f care values w x few within =
          omega (
            arith,
            few.most l f care values,
            pow_mono {i = untested_count x care} {j = untested_count m care}
                (untested-more x m within care),
          )

      half : (l f care values w x : ℕ) → FewPaths c w x → MaskWithin x m → bit_at care i ≡ 0
          → length (P l f (care + 2 ^ i) values w) * 2 ≤ 2 ^ untested_count m care
      half l f care values w x few within z =
          let less : suc (untested_count x (care + 2 ^ i)) ≤ untested_count m care = untested-less x m within care i small one z in
          omega (
            arith,
            few.most l f (care + 2 ^ i) values,
            pow-suc 2 (untested_count x (care + 2 ^ i)),
            pow_mono {i = suc (untested_count x (care + 2 ^ i))} {j = untested_count m care} less,
          )

      go : (l f care values : ℕ) → (bit_at care i ≡ 0) ⊎ (bit_at care i ≡ 1) → length (P l f care values v) ≤ 2 ^ untested_count m care
      go l f care values (inr o) =
          let known : P l f care values v ≡ P l f care values (arc_taken c values v) =
          at-known c ready l f care values v t s (ap (bit_at care) (sym e) ∙ o) in
          let bound : length (P l f care values (arc_taken c values v)) ≤ 2 ^ untested_count m care =
          taken-by (λ w. length (P l f care values w) ≤ 2 ^ untested_count m care) c values v
          (side l f care values (next0 c v) a p wa) (side l f care values (next1 c v) b q wb) in
          omega (arith, ap (λ (rs : List Row). length rs) known)
      go l f care values (inl z) =
          let n : bit_at care (argument c v) ≡ 1 → ⊥ = λ o. omega (arith, ap (bit_at care) e ∙ o) in
          let x : P l f care values v ≡ P l f (care + 2 ^ i) values (next0 c v) ++ P l f (care + 2 ^ i) (values + 2 ^ i) (next1 c v) =
          at-new c ready l f care values v t s n
          ∙ ap (λ (j : ℕ). P l f (care + 2 ^ j) values (next0 c v) ++ P l f (care + 2 ^ j) (values + 2 ^ j) (next1 c v)) (sym e) in
          omega (
            arith,
            ap (λ (rs : List Row). length rs) x
                ∙ length-append (P l f (care + 2 ^ i) values (next0 c v)) (P l f (care + 2 ^ i) (values + 2 ^ i) (next1 c v)),
            half l f care values (next0 c v) a p wa z,
            half l f care (values + 2 ^ i) (next1 c v) b q wb z,
          )

  -- all sixteen numbers are a mask of every node
  every : (m : ℕ) → MaskWithin m m
  every m = record { each = λ i o. o }

  full : (i : ℕ) → i < 16 → bit_at 65535 i ≡ 1
  full i l =
      let k : 16 ≡ suc (15 - i) + i = omega arith in
      let e : 65535 ≡ 2 ^ (suc (15 - i) + i) - 1 = ap (λ (k : ℕ). 2 ^ k - 1) k in
      let h : 65535 / 2 ^ i ≡ 2 ^ suc (15 - i) - 1 =
      ap (λ (x : ℕ). x / 2 ^ i) (e ∙ ones_split (suc (15 - i)) i) ∙ high (2 ^ suc (15 - i) - 1) i (ones_lt i) in
      omega (arith, h, pow-suc 2 (15 - i), pow_pos (15 - i))

  few-rank : (n v : ℕ) → Entered c v → rank c v ≤ n → FewPaths c v 65535
  few-rank zero v t h = absurd (omega (arith, rank-some c v t.inside))
  few-rank (suc n) v t h = go (is_stop c v) refl (few-rank n)
    where
      go : (s : Bool) → is_stop c v ≡ s → ((v : ℕ) → Entered c v → rank c v ≤ n → FewPaths c v 65535) → FewPaths c v 65535
      go true s ih = few-stop v 65535 t s
      go false s ih =
          let three : kind c v ≡ 3 = goes-on c v t.no_begin s in
          few-goes v (argument c v) 65535 65535 65535 t s refl
          (ih (next0 c v) (entered0 c ready v t.inside (λ e. omega arith))
          (omega (arith, rank-falls0 c (ready-sound ready) v t.inside three)))
          (ih (next1 c v) (entered1 c ready v t.inside (omega arith))
          (omega (arith, rank-falls1 c (ready-sound ready) v t.inside three)))
          (full (argument c v) (small-number (record { ready = ready; inside = t.inside; kind = three }) refl))
          (every 65535) (every 65535)

  pub masked-full : (masks : List ℕ) → masks ≡ replicate 256 65535 → Masked c masks
  masked-full masks e = record {
    long = omega (arith, ready.few, ap (λ (ms : List ℕ). length ms) e ∙ length-replicate {A = ℕ} 256 65535);
    few = λ v t. subst (FewPaths c v)
        (sym (ap (λ (ms : List ℕ). slice_index ms v) e ∙ get_or-replicate 256 v 65535 0 (omega (arith, ready.few, t.inside))))
        (few-rank (size c) v t (rank-le c v));
  }

-- loops over the nodes write them
pub record Masking (c : Chart) (old masks : List ℕ) (v : ℕ) : Type 0 where
  pub within : v ≤ size c
  pub size : length masks ≡ length old
  pub masked : Masked c masks

-- ---- the mask of a node by those behind its arcs
module _ {c : Chart} {notes masks : List ℕ} {v : ℕ} (node : NotedAt c notes v) (k : Masked c masks) where
  ready : Ready c
  ready = node.noted.chart.ready

  read : slice_index notes (256 + v) ≡ tested_number c v
  read = node.noted.numbers v node.inside

  pub mask-stop : 15 < slice_index notes (256 + v) → Entered c v → FewPaths c v 0
  mask-stop h t = few-stop c ready v 0 t (high-stops c ready v _ t read h)

  module _ (low : slice_index notes (256 + v) ≤ 15) where
    condition : kind c v ≡ 3
    condition = low-condition c v _ read low

    here : Entered c v
    here = record { inside = node.inside; no_begin = λ q. omega (arith, condition) }

    side0 : {w : ℕ} → w ≡ next0 c v → Entered c w
    side0 e = subst (Entered c) (sym e) (entered0 c ready v node.inside (λ q. omega (arith, condition)))

    side1 : {w : ℕ} → w ≡ next1 c v → Entered c w
    side1 e = subst (Entered c) (sym e) (entered1 c ready v node.inside (omega (arith, condition)))

    pub mask-side0 : {w : ℕ} → w ≡ next0 c v → w < length masks
    mask-side0 e = omega (arith, k.long, (side0 e).inside)

    pub mask-side1 : {w : ℕ} → w ≡ next1 c v → w < length masks
    mask-side1 e = omega (arith, k.long, (side1 e).inside)

    pub mask-goes : {w0 w1 m : ℕ} → w0 ≡ next0 c v → w1 ≡ next1 c v
        → m ≡ bit_or (bit_or (slice_index masks w0) (slice_index masks w1)) (2 ^ slice_index notes (256 + v)) → FewPaths c v m
    mask-goes {w0} {w1} {m} e0 e1 em =
        few-goes c ready v (slice_index notes (256 + v)) (slice_index masks w0) (slice_index masks w1) m here
        (low-goes c ready v _ here read low) (low-number c ready v _ here read low)
        (subst (λ (w : ℕ). FewPaths c w (slice_index masks w0)) e0 (k.few w0 (side0 e0)))
        (subst (λ (w : ℕ). FewPaths c w (slice_index masks w1)) e1 (k.few w1 (side1 e1)))
        (each (slice_index notes (256 + v)) ∙ omega (arith, bit-pow-same (slice_index notes (256 + v))))
        (record { each = λ i o. each i ∙ omega (arith, bit-or (slice_index masks w0) (slice_index masks w1) i) })
        (record { each = λ i o. each i ∙ omega (arith, bit-or (slice_index masks w0) (slice_index masks w1) i) })
      where
        each : (i : ℕ)
            → bit_at m i
            ≡ max (bit_at (bit_or (slice_index masks w0) (slice_index masks w1)) i) (bit_at (2 ^ slice_index notes (256 + v)) i)
        each i =
            ap (λ (x : ℕ). bit_at x i) em
            ∙ bit-or (bit_or (slice_index masks w0) (slice_index masks w1)) (2 ^ slice_index notes (256 + v)) i

pub ruleset own_masks = (mask-stop, mask-goes)
