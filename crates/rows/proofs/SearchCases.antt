-- One frame of a table as the code compares it, the better of two, the search from one frame up to another, and where the rows of a label
-- stand.
use Rattle.std.proofs.Common.{if◌then◌else◌, ℕ, zero, suc, ◌+◌, ◌-◌, ◌≤◌, ◌<◌, Bool, true, false, ◌||◌, ◌≡◌, sym, ◌∙◌, ap, ap₂, nat_lt, ◌==◌, slice_index}
use Rattle.std.proofs.Common.{◌⊎◌, inl, inr, List, ◌∷◌, map, add-one, arith, lt-ltb, le-ltb}
use lib.Count.{ones}
use Rattle.std.proofs.lemmas.Grind.{common_steps}
use Rattle.words.specs.lists.Numbers.{range}
use Rattle.std.proofs.lemmas.Bool.{cond-true, cond-false}
use Rattle.words.proofs.lists.Tests.{split}
use Rattle.text.specs.frames.Frame.{size, field}
use Rattle.image.specs.Decode.{last_label}
use Rattle.tables.specs.Table.{first_on, end_on, row_on, rows_on, table_image}
use Rattle.tables.specs.inner.Asked.{Whole}
use Rattle.tables.proofs.Front.{end-inside}
use Rattle.rows.specs.Rows.{is_candidate, Choice, row, no_choice, better_choice, best_row, lead_of, next_of}
use Rattle.rows.specs.declared.TheConstants.{NO_FRAME}
use Rattle.rows.specs.declared.Best.{Best}
use Rattle.rows.specs.inner.Search.{is_matching_frame, found_at, BetterOf, IsCounted, chosen_frame, Chosen}
use Rattle.rows.specs.inner.Search.{Deciding}
use Rattle.rows.proofs.ChoiceLaws.{best-nothing, best-own, best-other, better-none, better-three}
use Rattle.rows.proofs.TableRows.{next-found, next-none}

-- the row in it as one of label l's, by a bit that decides
module _ (b : List ℕ) (l bit : ℕ) (d : Deciding b l bit) (f : ℕ) where
  pub own-bit : ((row_on b l f).bit == 2 || (row_on b l f).bit == bit) ≡ (bit == 2 || (field b f 6 == 2 || field b f 6 == bit))
  own-bit = grind (arith, common_steps)

  own-test : (w : ℕ) → is_candidate l w bit (row_on b l f) ≡ is_matching_frame b w bit f
  own-test w = grind (arith, common_steps)

-- ---- frames as choices, and the better of two
module _ (b : List ℕ) (f : ℕ) where
  pub at-frame : (l : ℕ) → f < size b → found_at b l f ≡ row f (row_on b l f)
  at-frame l h = cond-true (nat_lt f (size b)) (row f (row_on b l f)) no_choice (lt-ltb f (size b) h)

  pub past-table : (l : ℕ) → size b ≤ f → found_at b l f ≡ no_choice
  past-table l h = cond-false (nat_lt f (size b)) (row f (row_on b l f)) no_choice (le-ltb f (size b) h)

  pub frame-named : (l : ℕ) → f < size b → chosen_frame (found_at b l f) ≡ f
  frame-named l h = ap chosen_frame (at-frame l h)

module _ (b : List ℕ) (best f : ℕ) (inside : f < size b) where
  pub better-only : size b ≤ best → BetterOf b best f f
  better-only h l = at-frame b f l inside ∙ sym (ap (λ (x : Choice). better_choice x (row f (row_on b l f))) (past-table b best l h))

-- ---- the search: the best row before frame f, with those from f on, is the best of all
module _ (b : List ℕ) (l w bit first end : ℕ) where
  -- the choice among the frames of label l from f up to the end
  abbrev best_from : ℕ → Choice
  best_from f = best_row l w bit f (map (row_on b l) (range f (end - f)))

  -- the row in frame best, with those from frame f on, gives that choice
  abbrev pub Reached : Choice → ℕ → ℕ → Type 0
  Reached x f best = better_choice (found_at b l best) (best_from f) ≡ x

  abbrev pub Searched : ℕ → ℕ → Type 0
  Searched f best = Reached (best_from first) f best

  pub all-searched : (x : Choice) → x ≡ best_from first → first ≡ first_on b l → end ≡ end_on b l
      → x ≡ best_row l w bit (first_on b l) (rows_on b l)
  all-searched x e p q = e ∙ ap₂ (λ (i j : ℕ). best_row l w bit i (map (row_on b l) (range i (j - i)))) p q

  pub reached-over : {x : Choice} (f best : ℕ) → Reached x f best → end ≤ f → found_at b l best ≡ x
  reached-over f best s h = grind (arith, common_steps, best-nothing, better-none)

  module _ {x : Choice} (f best : ℕ) (s : Reached x f best) where
    -- by the test that was made of frame f
    module _ (d : Deciding b l bit) (h : f < end) (t : Bool) (q : t ≡ is_matching_frame b w bit f) where
      own : t ≡ is_candidate l w bit (row_on b l f)
      own = q ∙ sym (own-test b l bit d f w)

      more : best_from f ≡ best_row l w bit f (row_on b l f ∷ map (row_on b l) (range (suc f) (end - suc f)))
      more = ap (λ (n : ℕ). best_row l w bit f (map (row_on b l) (range f n))) (let z : end - f ≡ suc (end - suc f) = omega arith in z)

      on : best_from (suc f) ≡ best_from (f + 1)
      on = ap best_from (sym (add-one f))

      pub search-other : t ≡ false → Reached x (f + 1) best
      search-other n = grind (arith, common_steps, best-other, own, more, on)

      pub search-own : t ≡ true → (r : ℕ) → BetterOf b best f r → Reached x (f + 1) r
      search-own y r z =
          ap (λ (x : Choice). better_choice x (best_from (f + 1))) (z l)
          ∙ sym (better-three (found_at b l best) (row f (row_on b l f)) (best_from (f + 1)))
          ∙ ap (better_choice (found_at b l best))
          (sym (more ∙ best-own l w bit f (row_on b l f) (map (row_on b l) (range (suc f) (end - suc f))) (sym own ∙ y)
          ∙ ap (better_choice (row f (row_on b l f))) on))
          ∙ s

-- several rows compared: the best so far, with those from frame f on, is the best of the one in frame found and those from first on
pub record Comparing (b : List ℕ) (w bit found first end f : ℕ) (best : Best) : Type 0 where
  pub counted : IsCounted b best
  pub reached : (l : ℕ) → Deciding b l bit
      → Reached b l w bit first end (better_choice (found_at b l found) (best_row l w bit first (map (row_on b l) (range first (end - first))))) f best.frame

module _ (b : List ℕ) (w bit found first end f : ℕ) (best : Best) (s : Comparing b w bit found first end f best)
    (h : f < end) (t : Bool) (q : t ≡ is_matching_frame b w bit f) where
  pub comparing-other : t ≡ false → Comparing b w bit found first end (f + 1) best
  comparing-other n = record {
    counted = s.counted;
    reached = λ l d. search-other b l w bit first end f best.frame (s.reached l d) d h t q n;
  }

  pub comparing-own : t ≡ true → (r : Best) → BetterOf b best.frame f r.frame → IsCounted b r → Comparing b w bit found first end (f + 1) r
  comparing-own y r z counted = record {
    counted = counted;
    reached = λ l d. search-own b l w bit first end f best.frame (s.reached l d) d h t q y r.frame z;
  }

-- a table has fewer frames
pub few-frames : (b : List ℕ) → Whole b → ((k : ℕ) → slice_index b k < 256) → size b < NO_FRAME
few-frames b x bytes = omega (arith, x.alone, bytes 1, bytes 2, bytes 3, bytes 4)

module _ (b : List ℕ) (l w bit first end : ℕ) (d : Deciding b l bit) (p : first ≡ first_on b l) (q : end ≡ end_on b l)
    (one : end ≡ first + 1)
  where
    alone : best_row l w bit first (map (row_on b l) (range first 1)) ≡ best_row l w bit (first_on b l) (rows_on b l)
    alone =
        ap (λ (n : ℕ). best_row l w bit first (map (row_on b l) (range first n))) (let z : 1 ≡ end - first = omega arith in z)
        ∙ ap₂ (λ (i j : ℕ). best_row l w bit i (map (row_on b l) (range i (j - i)))) p q

    pub one-found : (r : ℕ) → r ≡ (if is_matching_frame b w bit first then first else NO_FRAME) → Chosen b l w bit r
    one-found r z = grind (arith, common_steps, best-other, best-nothing, best-own, cond-false, cond-true, own-test, alone)

-- ---- a choice among frames of the table is what stands in the frame that it names
module _ (b : List ℕ) (l w bit : ℕ) (few : size b < NO_FRAME) where
  abbrev Held : Choice → Type 0
  Held x = found_at b l (chosen_frame x) ≡ x

  held-none : Held no_choice
  held-none = past-table b NO_FRAME l (omega arith)

  held-if : (t : Bool) (x y : Choice) → Held x → Held y → Held (if t then x else y)
  held-if true x y p q = p
  held-if false x y p q = q

  held-better : (x y : Choice) → Held x → Held y → Held (better_choice x y)
  held-better no_choice y p q = q
  held-better (row k r) no_choice p q = p
  held-better (row k r) (row j s) p q = held-if (nat_lt (ones s.care) (ones r.care)) (row k r) (row j s) p q

  held-best : (f n : ℕ) → (0 < n → f + n ≤ size b) → Held (best_row l w bit f (map (row_on b l) (range f n)))
  unfolding best_row
  held-best f zero h = grind (arith, common_steps, held-none)
  held-best f (suc n) h = grind (arith, common_steps, held-best (suc f) n (λ _. omega (arith, h (omega arith))), at-frame, held-none, held-if, held-better)

-- ---- where the rows of label l stand
pub end-within : (b : List ℕ) (l end : ℕ) → Whole b → end ≡ end_on b l → end ≤ size b
end-within b l end x e = omega (arith, end-inside b l, x.alone)

-- ---- the frame chosen holds the row that label l takes, and where it leads
module _ (b : List ℕ) (l w bit : ℕ) (x : Whole b) (bytes : (k : ℕ) → slice_index b k < 256) (f : ℕ) (e : Chosen b l w bit f) where
  few : size b < NO_FRAME
  few = few-frames b x bytes

  pub chosen-found : found_at b l f ≡ best_row l w bit (first_on b l) (rows_on b l)
  chosen-found = grind (arith, common_steps, held-best, end-within, few)

  pub chosen-inside : f < NO_FRAME → f < size b
  chosen-inside h = go (split f (size b))
    where
      go : (f < size b) ⊎ (size b ≤ f) → f < size b
      go (inl k) = k
      go (inr k) = absurd (omega (arith, e ∙ ap chosen_frame (sym chosen-found ∙ past-table b f l k)))

  pub next-taken : 2 ≤ l → l ≤ last_label b → (n : ℕ) → n ≡ (if nat_lt f NO_FRAME then field b f 7 else 256)
      → n ≡ next_of (lead_of (best_row l w bit 0 (table_image b).rows))
  next-taken low high n q = go (split f NO_FRAME)
    where
      go : (f < NO_FRAME) ⊎ (NO_FRAME ≤ f) → n ≡ next_of (lead_of (best_row l w bit 0 (table_image b).rows))
      go (inl h) =
          next-found b l w bit low high f chosen-found n (q ∙ cond-true (nat_lt f NO_FRAME) (field b f 7) 256 (lt-ltb f NO_FRAME h)) (chosen-inside h)
      go (inr h) =
          q ∙ cond-false (nat_lt f NO_FRAME) (field b f 7) 256 (le-ltb f NO_FRAME h)
          ∙ next-none b l w bit low high f chosen-found (omega (arith, few))

pub ruleset leading = next-taken
