-- Steps of all rounds over a table.
use Rattle.std.proofs.Common.{ℕ, zero, suc, ◌+◌, ◌-◌, ◌≤◌, ◌<◌, Bool, false, ◌≡◌, sym, ◌∙◌, ap, List, arith, ◌==◌, slice_index}
use Rattle.std.proofs.Common.{length, take, drop, replicate, ext_get_or, eqb-true}
use Rattle.std.proofs.Math.Seq.{take_at, drop-append_seam}
use Rattle.std.specs.List.{list_any, range_with_len}
use Rattle.words.specs.lists.Sequences.{written, over}
use Rattle.words.proofs.lists.Tests.{not-false}
use Rattle.words.proofs.lists.Written.{written-front}
use Rattle.covering.proofs.Chains.{chain-false}
use Rattle.image.specs.Image.{Image}
use Rattle.image.specs.Decode.{last_label}
use Rattle.tables.specs.Table.{table_image}
use Rattle.tables.proofs.TableReads.{labels-count}
use Rattle.grouping.specs.Classes.{classes, grouping}
use Rattle.grouping.specs.inner.GroupingContracts.{Even, Classed, OneMore, Advanced, Marks, has_other_class}
use Rattle.grouping.proofs.TableRounds.{classes-long, over-classed}
use Rattle.grouping.proofs.Marked.{first-marks, marks-alike}

module _ (b : List ℕ) where
  abbrev i : Image
  i = table_image b

  abbrev n : ℕ
  n = length i.labels

  at-rest-on : (k : ℕ) → classes i (suc k) ≡ classes i k → (d : ℕ) → classes i (d + k) ≡ classes i k
  unfolding classes
  at-rest-on k e zero = grind arith
  at-rest-on k e (suc d) =
      let z : suc d + k ≡ suc (d + k) = omega arith in grind (arith, z, at-rest-on k e d)

  -- the classes after k rounds stand in the buffer, and the marks say which rows the next one need look at
  pub record Rounding (old buffer marks touched : List ℕ) (m k : ℕ) : Type 0 where
    pub count : m ≡ last_label b + 1
    pub done : k ≤ m
    pub room : length buffer ≡ 256
    pub is : buffer ≡ over (classes i k) old
    pub marked : Marks b buffer marks touched

  pub rounding-start : ((k : ℕ) → slice_index b k < 256) → (old buffer marks touched : List ℕ) (m : ℕ)
      → m ≡ last_label b + 1 → length buffer ≡ 256 → marks ≡ replicate 256 1 → touched ≡ replicate 256 1
      → buffer ≡ over (classes i 0) old → Rounding old buffer marks touched m 0
  rounding-start bytes old buffer marks touched m e h p q t = search (arith, first-marks)

  module _ (x : Even b) (old buffer marks touched : List ℕ) (m k : ℕ) (t : Rounding old buffer marks touched m k) where
    pub rounding-now : Classed b (classes i k) buffer
    rounding-now = over-classed b (classes i k) old buffer (classes-long b k) t.is t.room

    module _ (before next : List ℕ) (room : length next ≡ 256) (r : OneMore b buffer before next) where
      abbrev c : List ℕ
      c = classes i (suc k)

      after : Classed b c next
      after = over-classed b c before next (classes-long b (suc k)) (r k rounding-now) room

      pub rounding-advanced : Advanced b buffer next
      rounding-advanced = record { rounds = k; before = rounding-now; after = after }

      pub rounding-on : k < m → (marks' touched' : List ℕ) → Marks b next marks' touched'
          → (buffer' : List ℕ) → length buffer' ≡ 256 → buffer' ≡ written buffer 0 (take m next)
          → Rounding old buffer' marks' touched' m (k + 1)
      rounding-on h marks' touched' M buffer' g e = record {
        count = t.count;
        done = omega arith;
        room = g;
        is = grind (arith, now);
        marked = marks-alike b x next buffer' marks' touched' (λ l z. same.at l z ∙ sym (after.at l z)) M;
      }
        where
          alike : length (classes i k) ≡ length c
          alike = classes-long b k ∙ sym (classes-long b (suc k))

          long : m ≡ length c
          long = omega (arith, classes-long b (suc k), labels-count b, t.count)

          now : buffer' ≡ over c old
          now =
              grind (arith, long, alike, r k rounding-now, take_at c (drop (length c) before) (length c), written-front buffer c, t.is, drop-append_seam (classes i k) (drop (length (classes i k)) old))

          same : Classed b c buffer'
          same = over-classed b c old buffer' (classes-long b (suc k)) now g

      pub rounding-rest : k < m → (d : Bool) → d ≡ list_any (has_other_class buffer next) (range_with_len 0 m) → d ≡ false
          → buffer ≡ over (grouping i) old
      unfolding grouping
      rounding-rest h d e z =
          let same : c ≡ classes i k =
          ext_get_or 0 c (classes i k) (classes-long b (suc k) ∙ sym (classes-long b k)) (λ l g.
          let low : l ≤ last_label b = omega (arith, labels-count b, classes-long b (suc k)) in
          sym (after.at l low)
          ∙ sym (eqb-true (slice_index buffer l) (slice_index next l) (not-false (slice_index buffer l == slice_index next l)
          (chain-false (has_other_class buffer next) 0 m (sym e ∙ z) l (omega arith) (omega (arith, t.count)))))
          ∙ rounding-now.at l low) in
          let steps : n - k + k ≡ n = omega (arith, labels-count b, t.count) in
          t.is ∙ ap (λ (c : List ℕ). over c old) (sym (at-rest-on k same (n - k)) ∙ ap (classes i) steps)

    pub rounding-all : m ≤ k → buffer ≡ over (grouping i) old
    unfolding grouping
    rounding-all h = grind (arith, t, labels-count b)

  -- the grouping, read from such a buffer
  pub group-classed : (old buffer : List ℕ) → buffer ≡ over (grouping i) old → length buffer ≡ 256 → Classed b (grouping i) buffer
  unfolding grouping
  group-classed old buffer e h = over-classed b (grouping i) old buffer (classes-long b n) e h
