-- The rows of an accepted chart are sound, and their labels do not fall.
use Rattle.std.proofs.Common.{if◌then◌else◌, ℕ, zero, suc, ◌+◌, ◌^◌, ◌≤◌, ◌<◌, Bool, true, false, not, ◌≡◌, refl, sym, ◌∙◌, ap, subst, List}
use Rattle.std.proofs.Common.{◌==◌, slice_index_or, flat_map, filter}
use Rattle.std.proofs.Common.{[], ◌∷◌, ◌++◌, arith, length, bit_and, eqb-true, eq-eqb}
use Rattle.std.proofs.Math.Decide.{ℕ_discrete}
use lib.Bits.{and_le_r, and_zero_l, and_self}
use Rattle.std.proofs.Math.Pow.{pow-lt}
use borrow.Author.Tests.{eqb-false}
use Rattle.std.proofs.lemmas.Grind.{common_steps}
use Rattle.words.specs.lists.Numbers.{range, count}
use Rattle.std.specs.List.{AllByRecursion}
use Rattle.words.proofs.lists.Tests.{and-r, not-true}
use Rattle.words.proofs.lists.Counts.{count-snoc}
use Rattle.words.proofs.lists.Joins.{all-append, all-of, all-concat, all-range, all-filter}
use Rattle.std.specs.Int.{bit_at}
use Rattle.words.proofs.bits.MaskLaws.{more-small, more-within-0, more-within-1}
use Rattle.text.specs.frames.Frame.{size}
use Rattle.charts.specs.Chart.{Chart, is, kind, scheme, argument, next0, next1, arc_taken}
use Rattle.walk.specs.Stops.{is_stop}
use Rattle.walk.proofs.Facts.{Facts, Target}
use Rattle.walk.proofs.Follow.{goes-on}
use Rattle.image.specs.Image.{Label, Row, no_row}
use Rattle.image.specs.inner.Sound.{nth_label, Reaches, SoundRow}
use Rattle.image.proofs.Rising.{Rising, rising-at}
use Rattle.chart_rows.specs.Labels.{is_numbered, numbered_nodes, label, stop_label}
use Rattle.chart_rows.proofs.chart_labels.LabelKinds.{label-function, label-owner}
use Rattle.chart_rows.specs.Rows.{paths, rows_of, rows}
use Rattle.chart_rows.proofs.RowKinds.{function-rows, condition-rows, plain-rows}
use Rattle.chart_rows.specs.inner.NodeRows.{paths_from}
use Rattle.translator.specs.Table.{table}
use Rattle.translator.proofs.LabelLaws.{label-is, label-low, label-inside, label-holds, labels-two}

-- a row of a path in scheme h from label l with function bit f
pub record PathRow (c : Chart) (l f h : ℕ) (r : Row) : Type 0 where
  pub leaving : r.from ≡ l
  pub flag : r.bit ≡ f
  pub cares : r.care < 65536
  pub within : bit_and r.values r.care ≡ r.values
  pub leading : Reaches (table c) h r.next

-- the label of a node is of its scheme, or ends it
pub label-reaches : (c : Chart) (h v : ℕ) → v < size c → scheme c v ≡ h → Reaches (table c) h (label c v)
unfolding label
label-reaches c h v l e = grind (arith, common_steps, labels-two, label-inside, label-owner, label-holds)

module _ (c : Chart) (F : Facts c) where
  if-target : (h : ℕ) (b : Bool) (u v : ℕ) → Target c h u → Target c h v → Target c h (if b then u else v)
  if-target h true u v s t = s
  if-target h false u v s t = t

  paths-good : (n l f h care values v : ℕ) → care < 65536 → bit_and values care ≡ values → Target c h v
      → AllByRecursion (PathRow c l f h) (paths_from n c l f care values v)
  unfolding paths
  paths-good zero l f h care values v s w t = tt
  paths-good (suc n) l f h care values v s w t =
      go (λ care values v s w t. paths-good n l f h care values v s w t) (is_stop c v) refl
    where
      go : ((care values v : ℕ) → care < 65536 → bit_and values care ≡ values → Target c h v
          → AllByRecursion (PathRow c l f h) (paths_from n c l f care values v))
          → (b : Bool) → is_stop c v ≡ b → AllByRecursion (PathRow c l f h) (paths_from (suc n) c l f care values v)
      go ih true e =
          rw (paths, e) (
            record { leaving = refl; flag = refl; cares = s; within = w; leading = label-reaches c h v t.inside t.same },
            tt,
          )
      go ih false e = further (bit_at care (argument c v) == 1) refl
        where
          three : kind c v ≡ 3
          three = goes-on c v t.entered e

          t₀ : Target c h (next0 c v)
          t₀ = subst (λ (g : ℕ). Target c g (next0 c v)) t.same (F.arc0 v t.inside (λ z. omega (arith, three)))

          t₁ : Target c h (next1 c v)
          t₁ = subst (λ (g : ℕ). Target c g (next1 c v)) t.same (F.arc1 v t.inside (omega (arith, three)))

          further : (b : Bool) → (bit_at care (argument c v) == 1) ≡ b
              → AllByRecursion (PathRow c l f h) (paths_from (suc n) c l f care values v)
          further true q =
              rw (paths, e, q) (ih care values (arc_taken c values v) s w
              (if-target h (bit_at values (argument c v) == 0) (next0 c v) (next1 c v) t₀ t₁))
          further false q =
              let free : bit_at care (argument c v) ≡ 1 → ⊥ = eqb-false (bit_at care (argument c v)) 1 q in
              let small : care + 2 ^ argument c v < 65536 =
              more-small (argument c v) 16 care (omega (arith, F.conditions v t.inside three)) s free in
              rw (paths, e, q) (all-append (PathRow c l f h) _ _
              (ih (care + 2 ^ argument c v) values (next0 c v) small (more-within-0 (argument c v) values care free w) t₀)
              (ih (care + 2 ^ argument c v) (values + 2 ^ argument c v) (next1 c v) small
              (more-within-1 (argument c v) values care free w) t₁))

  -- ---- the rows of a node
  module _ (v : ℕ) (l : v < size c) (n : is_numbered c v ≡ true) where
    no-end : kind c v ≡ 1 → ⊥
    no-end z = eqb-false (kind c v) 1 (not-true (is c 1 v) (and-r (is_stop c v) (not (is c 1 v)) n)) z

    Good : Row → Type 0
    Good r = SoundRow (table c) r × (r.from ≡ label c v)

    row-good : (f : ℕ) → f ≤ 2 → (f < 2 → is c 4 v ≡ true) → (r : Row) → PathRow c (label c v) f (scheme c v) r → Good r
    unfolding Good
    row-good f m four r p =
        let at : nth_label (table c) r.from ≡ stop_label c v = ap (nth_label (table c)) p.leaving ∙ label-holds c v l n in (
          record {
            low = omega (arith, p.leaving, label-low c v n);
            high = omega (arith, p.leaving, label-inside c v l n);
            cares = p.cares;
            small = omega (arith, p.cares, p.within, and_le_r r.values r.care);
            within = p.within;
            bits = omega (arith, p.flag);
            function = λ b. ap (λ (x : Label). x.kind) (at ∙ label-function c v (eqb-true (kind c v) 4 (four (omega (arith, p.flag)))));
            leading = subst (λ (h : ℕ). Reaches (table c) h r.next)
                (sym (ap (λ (x : Label). x.owner) at ∙ label-owner c v)) p.leading;
          },
          p.leaving,
        )

    of-paths : (f care values u : ℕ) → f ≤ 2 → (f < 2 → is c 4 v ≡ true) → care < 65536 → bit_and values care ≡ values
        → Target c (scheme c v) u
        → AllByRecursion Good (paths_from (size c) c (label c v) f care values u)
    of-paths f care values u m four s w t =
        all-of (PathRow c (label c v) f (scheme c v)) Good (row-good f m four) (paths_from (size c) c (label c v) f care values u)
        (paths-good (size c) (label c v) f (scheme c v) care values u s w t)

    rows-of : AllByRecursion Good (rows_of c v)
    rows-of = go (ℕ_discrete (kind c v) 4) (ℕ_discrete (kind c v) 3)
      where
        t₀ : Target c (scheme c v) (next0 c v)
        t₀ = F.arc0 v l no-end

        none : 2 < 2 → is c 4 v ≡ true
        none z = absurd (omega arith)

        go : Dec (kind c v ≡ 4) → Dec (kind c v ≡ 3) → AllByRecursion Good (rows_of c v)
        go (yes k) x = subst (AllByRecursion Good) (sym (function-rows c v k))
            (all-append Good _ _
            (of-paths 0 0 0 (next0 c v) (omega arith) (λ z. eq-eqb (kind c v) 4 k) (omega arith) (and_zero_l 0) t₀)
            (of-paths 1 0 0 (next1 c v) (omega arith) (λ z. eq-eqb (kind c v) 4 k) (omega arith) (and_zero_l 0)
            (F.arc1 v l (omega arith))))
        go (no n) (yes k) =
            let small : 2 ^ argument c v < 65536 = pow-lt {i = argument c v} {j = 16} (omega (arith, F.conditions v l k)) in
            subst (AllByRecursion Good) (sym (condition-rows c v k)) (all-append Good _ _
            (of-paths 2 (2 ^ argument c v) 0 (next0 c v) (omega arith) none small (and_zero_l (2 ^ argument c v)) t₀)
            (of-paths 2 (2 ^ argument c v) (2 ^ argument c v) (next1 c v) (omega arith) none small
            (and_self (2 ^ argument c v)) (F.arc1 v l (omega arith))))
        go (no n) (no k) =
            subst (AllByRecursion Good) (sym (plain-rows c v n k))
            (of-paths 2 0 0 (next0 c v) (omega arith) none (omega arith) (and_zero_l 0) t₀)

    pub rows-of-sound : AllByRecursion (SoundRow (table c)) (rows_of c v)
    unfolding Good
    rows-of-sound = all-of Good (SoundRow (table c)) (λ r p. p.0) (rows_of c v) rows-of

    pub rows-of-leave : AllByRecursion (λ r. r.from ≡ label c v) (rows_of c v)
    unfolding Good
    rows-of-leave = all-of Good (λ r. r.from ≡ label c v) (λ r p. p.1) (rows_of c v) rows-of

-- ---- the rows of all nodes
pub numbered-nodes : (c : Chart) → AllByRecursion (λ v. (v < size c) × (is_numbered c v ≡ true)) (numbered_nodes c)
numbered-nodes c = all-filter (λ v. v < size c) (is_numbered c) (range 0 (size c))
    (all-range (λ v. v < size c) 0 (size c) (λ i h. omega arith))

pub rows-sound : (c : Chart) → Facts c → AllByRecursion (SoundRow (table c)) (rows c)
unfolding rows
rows-sound c F = grind (arith, common_steps, all-of, all-concat, rows-of-sound, numbered-nodes)

rising-down : (m n : ℕ) (rs : List Row) → m ≤ n → Rising n rs → Rising m rs
rising-down m n [] h a = tt
rising-down m n (r ∷ rs) h a = (omega (arith, a.0), a.1)

rising-append : (m l : ℕ) (xs ys : List Row) → m ≤ l → AllByRecursion (λ r. r.from ≡ l) xs → Rising l ys → Rising m (xs ++ ys)
rising-append m l [] ys h a b = rising-down m l ys h b
rising-append m l (x ∷ xs) ys h a b = (omega (arith, a.0), rising-append x.from l xs ys (omega (arith, a.0)) a.1 b)

from-rising : (c : Chart) → Facts c → (n a m : ℕ) → a + n ≤ size c → m ≤ 2 + count (is_numbered c) 0 a
    → Rising m (flat_map (rows_of c) (filter (is_numbered c) (range a n)))
from-rising c F zero a m h l = tt
from-rising c F (suc n) a m h l = go (λ m k. from-rising c F n (suc a) m (omega arith) k) (is_numbered c a) refl
  where
    go : ((m : ℕ) → m ≤ 2 + count (is_numbered c) 0 (suc a) → Rising m (flat_map (rows_of c) (filter (is_numbered c) (range (suc a) n))))
        → (b : Bool) → is_numbered c a ≡ b → Rising m (flat_map (rows_of c) (filter (is_numbered c) (range a (suc n))))
    go ih true e =
        rw e (rising-append m (label c a) (rows_of c a) (flat_map (rows_of c) (filter (is_numbered c) (range (suc a) n)))
        (omega (arith, label-is c a e)) (rows-of-leave c F a (omega arith) e)
        (ih (label c a) (omega (arith, label-is c a e, count-snoc (is_numbered c) 0 a))))
    go ih false e = rw e (ih m (omega (arith, count-snoc (is_numbered c) 0 a)))

pub rows-rising : (c : Chart) → Facts c → (k : ℕ) → suc k < length (rows c)
    → (slice_index_or (rows c) k no_row).from ≤ (slice_index_or (rows c) (suc k) no_row).from
unfolding rows
rows-rising c F = rising-at 0 (rows c) (from-rising c F (size c) 0 0 (omega arith) (omega arith))
