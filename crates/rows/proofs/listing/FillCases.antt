-- The listing of a table, one label after the other into two buffers, and 16 before it.
use Rattle.std.proofs.Common.{ℕ, ◌+◌, ◌≤◌, ◌<◌, Bool, true, false, ◌≡◌, sym, ◌∙◌, ap, subst, List, zero-add, arith, length, set, nat_lt}
use Rattle.std.proofs.Common.{lt-ltb, le-ltb, Ok, Err}
use Rattle.std.proofs.lemmas.Grind.{common_steps}
use Rattle.words.specs.lists.Numbers.{tabulate}
use Rattle.words.specs.lists.Sequences.{over}
use Rattle.words.proofs.lists.Tests.{or-true-l, or-true-r, or-none}
use Rattle.words.proofs.lists.Written.{written-front}
use Rattle.words.proofs.lists.Fills.{ValuesFrom, values-none, values-turn, values-all}
use Rattle.text.specs.frames.Verdict.{when}
use Rattle.text.specs.frames.Answer.{success}
use Rattle.text.specs.declared.frames.refusals.Refusal.TheVariants.{NoRoom}
use Rattle.image.specs.Image.{Image}
use Rattle.image.specs.Decode.{last_label}
use Rattle.tables.specs.Table.{table_image}
use Rattle.tables.proofs.TableReads.{labels-count}
use Rattle.rows.specs.listing.Listing.{row_count_of, first_of, first_rows, row_counts, ListingOutcome, listing_on, has_no_room_for}
use Rattle.rows.specs.listing.Listing.{GivesListing}
use Rattle.rows.specs.inner.ListingContracts.{RowsOf, list_table}
use Rattle.rows.specs.declared.listing.Rows.{Rows}

-- the first l of n labels stand in both buffers
pub record FillingRows (i : Image) (n : ℕ) (xs₀ ys₀ xs ys : List ℕ) (l : ℕ) : Type 0 where
  pub first : ValuesFrom (first_of i) xs₀ xs 0 n l
  pub number : ValuesFrom (row_count_of i) ys₀ ys 0 n l

module _ (b xs₀ ys₀ : List ℕ) where
  abbrev i : Image
  i = table_image b

  abbrev n : ℕ
  n = last_label b + 1

  pub filling-start : FillingRows i n xs₀ ys₀ xs₀ ys₀ 0
  filling-start = record { first = values-none (first_of i) xs₀ 0 n; number = values-none (row_count_of i) ys₀ 0 n }

  pub filling-on : n ≤ length xs₀ → n ≤ length ys₀ → (xs ys : List ℕ) (l : ℕ)
      → FillingRows i n xs₀ ys₀ xs ys l → l < n → (r : Rows) → RowsOf i l r
      → FillingRows i n xs₀ ys₀ (set xs l r.first) (set ys l r.count) (l + 1)
  filling-on p q xs ys l t h r w = record {
    first = subst (λ (k : ℕ). ValuesFrom (first_of i) xs₀ (set xs k r.first) 0 n (l + 1)) (zero-add l)
        (values-turn (first_of i) xs₀ 0 n xs l r.first (omega arith) t.first h w.first);
    number = subst (λ (k : ℕ). ValuesFrom (row_count_of i) ys₀ (set ys k r.count) 0 n (l + 1)) (zero-add l)
        (values-turn (row_count_of i) ys₀ 0 n ys l r.count (omega arith) t.number h w.count);
  }

  pub filling-all : (xs ys : List ℕ) (l : ℕ) → FillingRows i n xs₀ ys₀ xs ys l → n ≤ l
      → (xs ≡ over (first_rows i) xs₀) × (ys ≡ over (row_counts i) ys₀)
  unfolding first_rows row_counts tabulate
  filling-all xs ys l t h = grind (arith, common_steps, values-all, labels-count, written-front)

-- ---- 16
module _ (b xs ys : List ℕ) (n : ℕ) (is : n ≡ last_label b + 1) where
  abbrev image : Image
  image = table_image b

  count : n ≡ length image.labels
  count = is ∙ sym (labels-count b)

  by-room : (t : Bool) → has_no_room_for n xs ys ≡ t → list_table b xs ys ≡ listing_on (when 16 t) (λ _. image) xs ys
  unfolding list_table
  by-room t e = grind (arith, common_steps, count)

  full : has_no_room_for n xs ys ≡ true → GivesListing (list_table b xs ys) (Err NoRoom) xs ys
  full e = let g = by-room true e in record {
    answered = sym (ap (λ (x : ListingOutcome). x.reply) g);
    firsts = sym (ap (λ (x : ListingOutcome). x.firsts) g);
    counts = sym (ap (λ (x : ListingOutcome). x.counts) g);
  }

  pub firsts-short : length xs < n → GivesListing (list_table b xs ys) (Err NoRoom) xs ys
  firsts-short h = full (or-true-l (nat_lt (length xs) n) (nat_lt (length ys) n) (lt-ltb (length xs) n h))

  pub counts-short : length ys < n → GivesListing (list_table b xs ys) (Err NoRoom) xs ys
  counts-short h = full (or-true-r (nat_lt (length xs) n) (nat_lt (length ys) n) (lt-ltb (length ys) n h))

  pub listed : n ≤ length xs → n ≤ length ys → (xs' ys' : List ℕ) → (xs' ≡ over (first_rows image) xs) × (ys' ≡ over (row_counts image) ys)
      → GivesListing (list_table b xs ys) (Ok n) xs' ys'
  listed p q xs' ys' (x, y) =
      let g = by-room false (or-none (nat_lt (length xs) n) (nat_lt (length ys) n) (le-ltb (length xs) n p) (le-ltb (length ys) n q)) in
      record {
        answered = ap success count ∙ sym (ap (λ (x : ListingOutcome). x.reply) g);
        firsts = x ∙ sym (ap (λ (x : ListingOutcome). x.firsts) g);
        counts = y ∙ sym (ap (λ (x : ListingOutcome). x.counts) g);
      }
