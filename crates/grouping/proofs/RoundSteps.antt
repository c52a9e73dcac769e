-- Steps of one round over a table.
use Rattle.std.proofs.Common.{ℕ, suc, ◌+◌, ◌-◌, ◌≤◌, ◌<◌, Bool, ◌≡◌, refl, sym, ◌∙◌, List, arith, length, set, ext_get_or, Option, find, unwrap_or, slice_index}
use Rattle.std.specs.List.{range_with_len}
use Rattle.image.specs.Image.{Image}
use Rattle.image.specs.Decode.{last_label}
use Rattle.tables.specs.Table.{table_image}
use Rattle.tables.proofs.TableReads.{labels-count}
use Rattle.grouping.specs.Classes.{is_staying_with, classes_by, classes}
use Rattle.grouping.specs.inner.GroupingContracts.{Even, Classed, Refined, OneMore, Lowest, is_class_leader}
use Rattle.grouping.proofs.Representatives.{lowest_alike}
use Rattle.grouping.proofs.TableRounds.{FillingClasses, fill-start, fill-on, fill-all, classes-long, class-low}
use Rattle.grouping.proofs.TableRounds.{zero-alone, one-alone, class-lowest, next-is}

module _ (b : List ℕ) where
  abbrev i : Image
  i = table_image b

  abbrev n : ℕ
  n = length i.labels

  -- a buffer holds the classes of one list only
  held : (c d buffer : List ℕ) → length c ≡ n → length d ≡ n → Classed b c buffer → Classed b d buffer → c ≡ d
  held c d buffer p q s t = grind (arith, ext_get_or 0 c d (p ∙ sym q), labels-count b)

  one-more : (k : ℕ) → classes_by i (is_staying_with i (classes i k)) ≡ classes i (suc k)
  unfolding classes
  one-more k = refl

  -- ---- refine
  pub record Refining (buffer old next : List ℕ) (m l : ℕ) : Type 0 where
    pub rounds : ℕ
    pub now : Classed b (classes i rounds) buffer
    pub filling : FillingClasses b (is_staying_with i (classes i rounds)) old next m l
    pub low : 2 ≤ l

  module _ (x : Even b) where
    pub refining-start : (buffer old : List ℕ) (m : ℕ)
        → Refined b buffer → length old ≡ 256 → m < 256 → m ≡ last_label b
        → Refining buffer old (set (set old 0 0) 1 1) m 2
    refining-start buffer old m r h g e =
        let k : ℕ = r.rounds in
        let stays : ℕ → ℕ → Bool = is_staying_with i (classes i k) in
        let two : 1 ≤ m = omega (arith, x.sound.two, labels-count b) in
        let s = fill-start b stays old h m g e in
        let t = fill-on b stays old old m 0 s (omega arith) 0 (zero-alone b x k buffer r.now) in
        record {
          rounds = k;
          now = r.now;
          filling = fill-on b stays old (set old 0 0) m 1 t two 1 (one-alone b x k buffer r.now);
          low = omega arith;
        }

    module _ (buffer old next : List ℕ) (m l : ℕ) (t : Refining buffer old next m l) (h : l ≤ m) where
      inside : l ≤ last_label b
      inside = omega (arith, t.filling.is)

      pub refining-low : 2 ≤ slice_index buffer l
      refining-low = class-low b x t.rounds buffer t.now l t.low inside

      pub refining-lowest : Lowest buffer next l
      refining-lowest = class-lowest b x t.rounds buffer t.now next l t.low inside t.filling.each

      module _ (r : Option ℕ) (e : r ≡ find (is_class_leader b buffer next l) (range_with_len (slice_index buffer l) (l - slice_index buffer l)))
          (v : ℕ) (u : v ≡ unwrap_or r l) where
        is : v ≡ lowest_alike (is_staying_with i (classes i t.rounds)) l
        is = next-is b x t.rounds buffer t.now next l t.low inside t.filling.each v r e u

        pub refining-on : Refining buffer old (set next l v) m (l + 1)
        refining-on = record {
          rounds = t.rounds;
          now = t.now;
          filling = fill-on b (is_staying_with i (classes i t.rounds)) old next m l t.filling h v is;
          low = omega (arith, t.low);
        }

    pub refining-all : (buffer old next : List ℕ) (m l : ℕ) → Refining buffer old next m l → m < l → OneMore b buffer old next
    refining-all buffer old next m l t h k now =
        let j : ℕ = t.rounds in
        let same : classes i j ≡ classes i k = held (classes i j) (classes i k) buffer (classes-long b j) (classes-long b k) t.now now in
        grind (arith, fill-all b (is_staying_with i (classes i j)) old next m l t.filling h, same, one-more k)
