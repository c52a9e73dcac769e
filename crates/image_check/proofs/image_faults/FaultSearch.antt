-- The search for a frame that 12 or 13 refuses: part by part, and the verdict by it.
use Rattle.std.proofs.Common.{◌≡◌, refl, sym, ◌∙◌, ap, Bool, true, false, ◌||◌, List, ℕ, zero, suc, ◌+◌, ◌-◌, ◌≤◌, ◌<◌, zero-add, arith}
use Rattle.words.specs.lists.Numbers.{lowest}
use Rattle.words.proofs.lists.Searches.{Searching, searching-first, searching-found, searching-next, searching-over}
use Rattle.text.specs.frames.Frame.{size}
use Rattle.image.specs.Decode.{labels_from, rows_from, label_in, row_in}
use Rattle.image.specs.Check.{Position, entry_position, label_position, row_position, position_of, is_stray_frame, is_stray, is_bad_entry}
use Rattle.image.specs.Check.{is_bad_label, is_bad_row, is_bad_frame, has_bad_content}
use Rattle.image_check.specs.inner.FaultyFrames.{is_faulty}
use Rattle.image.proofs.Accepted.{position-of-entry, position-of-label, position-of-row}

-- two tests in turn, where the first does not hold
pub second-tells : {x s y t u a : Bool} → x ≡ s → x ≡ false → y ≡ t → y ≡ a → (s || t) ≡ u → u ≡ a
second-tells {t = t} e f g h both = sym both ∙ ap (λ (b : Bool). b || t) (sym e ∙ f) ∙ sym g ∙ h

-- ---- the two tests of a frame
at-place : (b : List ℕ) (f : ℕ) (p : Position) → position_of b f ≡ p → (is_stray_frame b f p || is_bad_frame b f p) ≡ is_faulty b f
unfolding is_stray has_bad_content
at-place b f p e = sym (ap (λ (p : Position). is_stray_frame b f p || is_bad_frame b f p) e)

module _ (b : List ℕ) (f : ℕ) where
  pub entry-tests : 1 ≤ f → f < labels_from b → (is_stray_frame b f (entry_position f) || is_bad_entry b f) ≡ is_faulty b f
  entry-tests l m = at-place b f (entry_position f) (position-of-entry b f l (omega arith))

  pub label-tests : (y : ℕ) → y ≡ labels_from b → y ≤ f → f < rows_from b
      → (is_stray_frame b (labels_from b + (f - y)) (label_position (f - y)) || is_bad_label b (f - y) (label_in b (f - y))) ≡ is_faulty b f
  label-tests y q l m =
      at-place b (labels_from b + (f - y)) (label_position (f - y)) (position-of-label b (f - y) (omega arith))
      ∙ ap (is_faulty b) (omega arith)

  pub row-tests : (y : ℕ) → y ≡ rows_from b → y ≤ f
      → (is_stray_frame b (rows_from b + (f - y)) (row_position (f - y)) || is_bad_row b (rows_from b + (f - y)) (row_in b (f - y)))
      ≡ is_faulty b f
  row-tests y q l = at-place b (rows_from b + (f - y)) (row_position (f - y)) (position-of-row b (f - y)) ∙ ap (is_faulty b) (omega arith)

pub ruleset search_alone = (searching-found, searching-next, searching-over)

pub ruleset entry_search = (entry-tests, searching-found, searching-next, searching-over)

pub ruleset label_search = (label-tests, searching-found, searching-over)

pub ruleset row_search = (row-tests, searching-found, searching-over)

-- ---- the parts together
next-sum : (k m : ℕ) → suc k + m ≡ suc (k + m)
next-sum k m = omega arith

more-found : (p : ℕ → Bool) (i k m : ℕ) → lowest p i k < i + k → lowest p i (k + m) ≡ lowest p i k
unfolding lowest
more-found p i zero m h = absurd (omega arith)
more-found p i (suc k) m h = ap (λ (j : ℕ). lowest p i j) (next-sum k m) ∙ go (p i) refl h (more-found p (suc i) k m)
  where
    go : (t : Bool) → p i ≡ t → lowest p i (suc k) < i + suc k
        → (lowest p (suc i) k < suc i + k → lowest p (suc i) (k + m) ≡ lowest p (suc i) k)
        → lowest p i (suc (k + m)) ≡ lowest p i (suc k)
    go true e h ih = rw (lowest, e)
    go false e h ih = rw (lowest, e) (ih (omega (arith, rw (lowest, e) at h)))

more-past : (p : ℕ → Bool) (i k m : ℕ) → i + k ≤ lowest p i k → lowest p i (k + m) ≡ lowest p (i + k) m
unfolding lowest
more-past p i zero m h = ap (λ (j : ℕ). lowest p i j) (zero-add m) ∙ ap (λ (j : ℕ). lowest p j m) (let e : i ≡ i + 0 = omega arith in e)
more-past p i (suc k) m h = ap (λ (j : ℕ). lowest p i j) (next-sum k m) ∙ go (p i) refl h (more-past p (suc i) k m)
  where
    go : (t : Bool) → p i ≡ t → i + suc k ≤ lowest p i (suc k)
        → (suc i + k ≤ lowest p (suc i) k → lowest p (suc i) (k + m) ≡ lowest p (suc i + k) m)
        → lowest p i (suc (k + m)) ≡ lowest p (i + suc k) m
    go true e h ih = absurd (omega (arith, rw (lowest, e) at h))
    go false e h ih = rw (lowest, e) (ih (omega (arith, rw (lowest, e) at h))
        ∙ ap (λ (j : ℕ). lowest p j m) (let e : suc i + k ≡ i + suc k = omega arith in e))

-- a search that has come to i goes on over the part up to m
module _ {p : ℕ → Bool} {n i found : ℕ} (s : Searching p n i found) {m r : ℕ} (low : i ≤ m) (high : m ≤ n)
    (e : r ≡ lowest p i (m - i)) where
  longer : lowest p i (n - i) ≡ lowest p i ((m - i) + (n - m))
  longer = ap (λ (k : ℕ). lowest p i k) (omega arith)

  pub part-found : r < m → r ≡ found
  part-found h = e ∙ sym (longer ∙ more-found p i (m - i) (n - m) (omega arith)) ∙ s.left

  pub part-past : m ≤ r → Searching p n m found
  part-past h = record {
    inside = high;
    left = sym (longer ∙ more-past p i (m - i) (n - m) (omega arith) ∙ ap (λ (k : ℕ). lowest p k (n - m)) (omega arith)) ∙ s.left;
  }

-- the header is never at fault
pub all-entries : (b : List ℕ) → 0 < size b → Searching (is_faulty b) (size b) 1 (lowest (is_faulty b) 0 (size b))
unfolding is_stray has_bad_content position_of
all-entries b some = searching-next (is_faulty b) (size b) 0 _ (searching-first (is_faulty b) (size b)) some refl
