-- Rows that lead to marked labels are enough to look at: two labels of one class are parted by them, or by none.
use Rattle.std.proofs.Common.{ℕ, suc, ◌+◌, ◌*◌, ◌-◌, ◌≤◌, ◌<◌, Bool, true, false, ◌&&◌, ◌||◌, not, ◌≡◌, sym, ◌∙◌, ap, nat_lt, ◌==◌, slice_index, slice_index_or}
use Rattle.std.proofs.Common.{List, arith, length, replicate, eq-eqb, ne_eqb, lt-ltb, le-leb}
use Rattle.std.proofs.Math.ListN.{length-replicate, get_or-replicate}
use borrow.Author.Tests.{lt-leb}
use Rattle.std.specs.List.{list_any}
use Rattle.words.proofs.lists.Tests.{no_both, and-l, and-r, and-true, and-no, not-true, or-cases, or-true-l}
use Rattle.words.proofs.lists.Searches.{any-false}
use Rattle.text.specs.frames.Frame.{field}
use Rattle.image.specs.Image.{Image, Row, no_row}
use Rattle.image.specs.Decode.{last_label}
use Rattle.tables.specs.Table.{first_on, end_on, row_on, table_image}
use Rattle.tables.proofs.TableReads.{labels-count}
use Rattle.covering.proofs.Together.{together-turned}
use Rattle.grouping.specs.Classes.{classes}
use Rattle.grouping.specs.inner.GroupingContracts.{Even, Classed, is_parting_in, is_parting_any, is_parted_on, has_marked_next}
use Rattle.grouping.specs.inner.GroupingContracts.{is_parted_by, Marks, Noted, KeptClasses}
use Rattle.covering.proofs.Chains.{chain-false, chain-none, chain-true, chain-some}
use Rattle.grouping.proofs.Onward.{some-none}
use Rattle.grouping.proofs.Partings.{some-own}
use Rattle.grouping.proofs.TableRounds.{unparted-before}
use Rattle.std.proofs.lemmas.Bool.Decides.{nat_tests}

same-truth : (p q : Bool) → (p ≡ true → q ≡ true) → (q ≡ true → p ≡ true) → p ≡ q
same-truth p q f g = grind (arith, nat_tests)

-- ---- rows of two labels, in the other order
module _ (b c : List ℕ) where
  parts-turned : (f g : ℕ) → is_parting_in b c f g ≡ true → is_parting_in b c g f ≡ true
  parts-turned f g e = search (arith, and-l, no_both, and-r, not-true, eq-eqb, together-turned, and-true, ne_eqb)

  -- rows that part two labels
  record Parting (m l : ℕ) : Type 0 where
    pub f : ℕ
    pub g : ℕ
    pub low-f : first_on b m ≤ f
    pub high-f : f < end_on b m
    pub low-g : first_on b l ≤ g
    pub high-g : g < end_on b l
    pub parting : is_parting_in b c f g ≡ true

  found : (m l : ℕ) → is_parted_on b c m l ≡ true → Parting m l
  found m l e = grind (arith, chain-some)

  parts-one : (l f g : ℕ) → first_on b l ≤ g → g < end_on b l → is_parting_in b c f g ≡ true
      → is_parting_any b c f (first_on b l) (end_on b l) ≡ true
  parts-one l f g u v e = grind (arith, chain-true (is_parting_in b c f) (first_on b l) (end_on b l - first_on b l) g)

  parted-one : (m l f : ℕ) → first_on b m ≤ f → f < end_on b m → is_parting_any b c f (first_on b l) (end_on b l) ≡ true
      → is_parted_on b c m l ≡ true
  parted-one m l f u v e = grind (arith, chain-true (λ f. is_parting_any b c f (first_on b l) (end_on b l)) (first_on b m) (end_on b m - first_on b m) f)

  turned : (m l : ℕ) → is_parted_on b c l m ≡ true → is_parted_on b c m l ≡ true
  turned m l e =
      let p : Parting l m = found l m e in
      grind (arith, parted-one m l p.g, parts-one l p.g p.f, parts-turned p.f p.g)

  module _ (marks : List ℕ) where
    abbrev marked : ℕ → ℕ → ℕ → Bool
    marked least l f = has_marked_next b marks least f && is_parting_any b c f (first_on b l) (end_on b l)

    by-one : (least m l f : ℕ) → first_on b m ≤ f → f < end_on b m → has_marked_next b marks least f ≡ true
        → is_parting_any b c f (first_on b l) (end_on b l) ≡ true → is_parted_by b c marks least m l ≡ true
    by-one least m l f u v s e =
        grind (arith, and-true, chain-true (marked least l) (first_on b m) (end_on b m - first_on b m) f)

    by-parts : (least m l : ℕ) → is_parted_by b c marks least m l ≡ true → is_parted_on b c m l ≡ true
    by-parts least m l e = search (arith, and-r, chain-some, parted-one)

    -- ---- are_parted_by
    module _ (touched : List ℕ) (M : Marks b c marks touched) (m l : ℕ) (am : 2 ≤ m) (hm : m ≤ last_label b) where
      pub by-none : (least : ℕ) → slice_index touched m < least → false ≡ is_parted_by b c marks least m l
      by-none least h = sym (chain-none (marked least l) (first_on b m) (end_on b m - first_on b m) (λ k u.
          let f : ℕ = first_on b m + k in
          ap (λ (t : Bool). t && is_parting_any b c f (first_on b l) (end_on b l))
          (lt-leb least (slice_index marks (field b f 7)) (omega (arith, M.noted m f am (omega arith) (omega arith) (omega arith))))))

      -- ---- are_parted
      module _ (al : 2 ≤ l) (hl : l ≤ last_label b) (e : slice_index c m ≡ slice_index c l) where
        by-marks : is_parted_on b c m l ≡ true → (is_parted_by b c marks 1 m l || is_parted_by b c marks 2 l m) ≡ true
        by-marks t =
            let p : Parting m l = found m l t in
            let q = parts-one l p.f p.g p.low-g p.high-g p.parting in
            let r = parts-one m p.g p.f p.low-f p.high-f (parts-turned p.f p.g p.parting) in
            let s = M.seen m l p.f p.g am hm al hl e p.low-f p.high-f p.low-g p.high-g p.parting in
            grind (arith, or-cases, by-one 1 m l p.f p.low-f p.high-f, by-one 2 l m p.g p.low-g p.high-g)

        pub parted-by : (is_parted_by b c marks 1 m l || is_parted_by b c marks 2 l m) ≡ is_parted_on b c m l
        parted-by = grind (arith, or-cases, same-truth, turned, by-parts, by-marks)

-- ---- are_parted, where neither label is noted
pub unnoted-unparted : (b c marks touched : List ℕ) → Marks b c marks touched → (m l : ℕ) → 2 ≤ m → m ≤ last_label b → 2 ≤ l → l ≤ last_label b
    → slice_index c m ≡ slice_index c l → slice_index touched m ≡ 0 → slice_index touched l ≡ 0 → is_parted_on b c m l ≡ false
unnoted-unparted b c marks touched M m l am hm al hl e p q =
    grind (arith, parted-by b c marks touched M m l, by-none b c marks touched M m l am hm 1, by-none b c marks touched M l m al hl 2)

-- ---- the marks before the first round
pub ones-long : (xs : List ℕ) → xs ≡ replicate 256 1 → length xs ≡ 256
ones-long xs e = grind (arith, length-replicate)

pub first-marks : (b c : List ℕ) → ((k : ℕ) → slice_index b k < 256) → (marks touched : List ℕ)
    → marks ≡ replicate 256 1 → touched ≡ replicate 256 1
    → Marks b c marks touched
first-marks b c bytes marks touched p q = record {
  long = ones-long marks p;
  room = ones-long touched q;
  seen = λ m l f g am hm al hl e uf vf ug vg t.
      or-true-l (has_marked_next b marks 1 f) (has_marked_next b marks 2 g)
      (le-leb 1 (slice_index marks (field b f 7)) (omega (arith, one marks p (field b f 7) (bytes (10 * f + 7)))));
  noted = λ l f al hl u v. omega (arith, one marks p (field b f 7) (bytes (10 * f + 7)), one touched q l (omega (arith, bytes 2)));
}
  where
    one : (xs : List ℕ) → xs ≡ replicate 256 1 → (k : ℕ) → k < 256 → slice_index xs k ≡ 1
    one xs e k h = ap (λ (ys : List ℕ). slice_index ys k) e ∙ get_or-replicate 256 k 1 0 h

-- ---- the marks after a round
module _ (b : List ℕ) (x : Even b) where
  abbrev i : Image
  i = table_image b

  next-inside : (m f : ℕ) → 2 ≤ m → m ≤ last_label b → first_on b m ≤ f → f < end_on b m → field b f 7 ≤ last_label b
  next-inside m f am hm u v =
      let none : list_any outside i.rows ≡ false = some-none outside no_row i.rows (λ j h.
      and-no ((slice_index_or i.rows j no_row).from == m) (not (nat_lt (slice_index_or i.rows j no_row).next (length i.labels)))
      (ap not (lt-ltb (slice_index_or i.rows j no_row).next (length i.labels) (x.sound.each j h).leading.inside))) in
      let here : outside (row_on b m f) ≡ false =
      any-false (λ f. outside (row_on b m f)) (first_on b m) (end_on b m - first_on b m)
      (sym (some-own b outside m (λ k g h. ap (λ (t : Bool). t && not (nat_lt (field b g 7) (length i.labels))) (ne_eqb k m h)) am hm)
      ∙ none)
      f u (omega arith) in
      grind (arith, nat_tests, labels-count b, here)
    where
      outside : Row → Bool
      outside r = r.from == m && not (nat_lt r.next (length i.labels))

  -- classes that are the same are parted by the same rows
  pub marks-alike : (c d marks touched : List ℕ) → ((l : ℕ) → l ≤ last_label b → slice_index d l ≡ slice_index c l) → Marks b c marks touched
      → Marks b d marks touched
  marks-alike c d marks touched e M = record {
    long = M.long;
    room = M.room;
    seen = λ m l f g am hm al hl q uf vf ug vg t.
        grind (arith, M.seen m l f g am hm al hl, e m hm, e l hl, e (field b f 7), e (field b g 7), next-inside m f am hm uf vf, next-inside l g al hl ug vg);
    noted = M.noted;
  }

  module _ (k : ℕ) (former : List ℕ) (h : Classed b (classes i k) former) (c : List ℕ) (h' : Classed b (classes i (suc k)) c)
      (n : ℕ) (count : n ≡ last_label b + 1) (marks : List ℕ) (K : KeptClasses n former c marks) where
    -- rows that match one word and bit led to one class before: where they part labels now, one of the two next labels is marked
    seen : (m l f g : ℕ) → 2 ≤ m → m ≤ last_label b → 2 ≤ l → l ≤ last_label b → slice_index c m ≡ slice_index c l
        → first_on b m ≤ f → f < end_on b m → first_on b l ≤ g → g < end_on b l → is_parting_in b c f g ≡ true
        → (has_marked_next b marks 1 f || has_marked_next b marks 2 g) ≡ true
    seen m l f g am hm al hl e uf vf ug vg p =
        let before : is_parting_in b former f g ≡ false =
        chain-false (is_parting_in b former f) (first_on b l) (end_on b l - first_on b l)
        (chain-false (λ f. is_parting_any b former f (first_on b l) (end_on b l)) (first_on b m) (end_on b m - first_on b m)
        (unparted-before b x k former h m l am hm al hl (sym (h'.at m hm) ∙ e ∙ h'.at l hl)) f uf (omega arith)) g ug (omega arith) in
        grind (arith, nat_tests, K.one (field b f 7) (field b g 7), next-inside m f am hm uf vf, next-inside l g al hl ug vg)

    pub next-marks : (touched : List ℕ) → length touched ≡ 256 → Noted b marks (last_label b + 1) touched → Marks b c marks touched
    next-marks touched room T = record { long = K.long; room = room; seen = seen; noted = T }
