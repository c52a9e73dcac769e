-- What success of the entry point says: the image is accepted, all its labels are counted, and the buffers hold the rows of each.
use Rattle.std.proofs.Common.{ℕ, ◌+◌, ◌≤◌, ◌<◌, Bool, true, false, ◌≡◌, sym, subst, ◌↔◌, List, arith, slice_index, length}
use Rattle.std.proofs.lemmas.Grind.{common_steps}
use Rattle.std.proofs.Math.ListN.{get_or-append}
use Rattle.words.specs.lists.Numbers.{tabulate}
use Rattle.words.specs.lists.Sequences.{over}
use Rattle.words.proofs.lists.Tabulated.{length-tabulate, get_d-tabulate}
use Rattle.text.specs.frames.Frame.{contents}
use Rattle.text.specs.frames.Verdict.{Verdict, fine, refused, next, when}
use Rattle.text.specs.frames.Answer.{success}
use Rattle.text.proofs.frames.Chains.{no-success}
use Rattle.image.specs.Image.{Image}
use Rattle.image.specs.Decode.{last_label, decoded_image}
use Rattle.image.specs.Check.{image_verdict}
use Rattle.rows.specs.listing.Listing.{row_count_of, first_of, first_rows, row_counts, ListingOutcome, listing_on, has_no_room_for, list}
use Rattle.rows.specs.listing.Exact.{Own, Exactly, Held, HeldOnSuccess}
use Rattle.rows.proofs.listing.Laws.{exactly}

front : (f : ℕ → ℕ) (n : ℕ) (old : List ℕ) (l : ℕ) → l < n → slice_index (over (tabulate f n) old) l ≡ f l
front f n old l h = grind (arith, common_steps, length-tabulate, get_d-tabulate, get_or-append)

-- the image check's verdict, and whether a buffer has too little room
abbrev answer : Image → List ℕ → List ℕ → Verdict → Bool → ListingOutcome
answer i xs ys v u = listing_on (next v λ _. when 16 u) (λ _. i) xs ys

record Succeeded (i : Image) (v : Verdict) (x : ListingOutcome) (n : ℕ) : Type 0 where
  passes : v ≡ fine
  labels : n ≡ length i.labels
  first : (l : ℕ) → l < n → slice_index x.firsts l ≡ first_of i l
  number : (l : ℕ) → l < n → slice_index x.counts l ≡ row_count_of i l

succeeded : (i : Image) (xs ys : List ℕ) (v : Verdict) (u : Bool) (n : ℕ) → (answer i xs ys v u).reply ≡ success n
    → Succeeded i v (answer i xs ys v u) n
unfolding first_rows row_counts
succeeded i xs ys (refused k j) u n e = grind (arith, common_steps, no-success)
succeeded i xs ys fine true n e = grind (arith, common_steps, no-success)
succeeded i xs ys fine false n e = grind (arith, common_steps, front)

module _ (t xs ys : List ℕ) (n : ℕ) where
  abbrev i : Image
  i = decoded_image (contents t)

  succeeds : (list t xs ys).reply ≡ success n → Succeeded i (image_verdict t) (list t xs ys) n
  unfolding list
  succeeds e = succeeded i xs ys (image_verdict t) (has_no_room_for (last_label (contents t) + 1) xs ys) n e

  own : image_verdict t ≡ fine → (l k : ℕ) → Own i l k ↔ ((first_of i l ≤ k) × (k < first_of i l + row_count_of i l))
  unfolding Exactly
  own = exactly t

  pub held : (list t xs ys).reply ≡ success n → Held t (list t xs ys).firsts (list t xs ys).counts n
  held e =
      let x = succeeds e in
      record {
        accepted = x.passes;
        labels = x.labels;
        first = x.first;
        number = x.number;
        exactly = λ l k h. subst (λ (f : ℕ). Own i l k ↔ ((f ≤ k) × (k < f + slice_index (list t xs ys).counts l))) (sym (x.first l h))
            (subst (λ (m : ℕ). Own i l k ↔ ((first_of i l ≤ k) × (k < first_of i l + m))) (sym (x.number l h)) (own x.passes l k));
      }

pub held-on-success : HeldOnSuccess
unfolding HeldOnSuccess
held-on-success = held
