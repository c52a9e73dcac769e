-- The parts of the smaller image and of a renumbered state are those of the given ones, with each label's group in its place.
use Rattle.std.proofs.Common.{ℕ, zero, suc, ◌-◌, ◌≤◌, ◌<◌, Bool, ◌≡◌, refl, sym, ◌∙◌, ap, ap₂, List, [], ◌∷◌, map, arith, ◌==◌, slice_index_or}
use Rattle.std.proofs.Common.{length, set, replicate, ne_eqb}
use Rattle.std.proofs.Math.ListN.{get_or-map}
use Rattle.std.proofs.lemmas.Grind.{common_steps}
use Rattle.results.specs.Results.{Results, result_of}
use Rattle.image.specs.Image.{Image}
use Rattle.image.specs.inner.Sound.{SoundImage}
use Rattle.rows.specs.Rows.{Found, found, missing}
use Rattle.state.specs.State.{State, no_places, bottom_alone, label_at, entry_at, place_at}
use Rattle.ticks.specs.Tick.{row_leads}
use Rattle.covering.proofs.Hits.{OneRow}
use Rattle.grouping.specs.Classes.{class_of}
use Rattle.grouping.proofs.Onward.{onward_label, best-found}
use Rattle.grouping.proofs.Rounds.{ClassRound}
use Rattle.minimising.specs.group_numbers.Smaller.{renumbered_label, joined_labels}
use Rattle.minimising.proofs.group_numbers.Numbering.{new-zero, new-one, new-high, new-inside, label-new, joined-sound}
use Rattle.minimising.proofs.group_numbers.Led.{one-new, onward-new}
use Rattle.minimised.specs.Renamed.{renumbered_state}

pub map-set : (f : ℕ → ℕ) (xs : List ℕ) (k u : ℕ) → set (map f xs) k (f u) ≡ map f (set xs k u)
map-set f [] k u = refl
map-set f (x ∷ xs) zero u = refl
map-set f (x ∷ xs) (suc k) u = ap (λ (ys : List ℕ). f x ∷ ys) (map-set f xs k u)

map-zeros : (f : ℕ → ℕ) → f 0 ≡ 0 → (k : ℕ) → map f (replicate k 0) ≡ replicate k 0
map-zeros f e zero = refl
map-zeros f e (suc k) = ap₂ (λ (x : ℕ) (xs : List ℕ). x ∷ xs) e (map-zeros f e k)

module _ (i : Image) (S : SoundImage i) (c : List ℕ) (R : ClassRound i c) where
  abbrev n : ℕ
  n = length i.labels

  abbrev new : ℕ → ℕ
  new = renumbered_label c

  pub same-handler : (joined_labels i c).handler ≡ i.handler
  unfolding joined_labels
  same-handler = refl

  -- a number that has no scheme has label 0 for its entry in both
  pub entry-at : (h : ℕ) → entry_at (joined_labels i c) h ≡ new (entry_at i h)
  unfolding joined_labels
  entry-at h = ap (λ (d : ℕ). slice_index_or (map new i.entries) (h - 1) d) (sym (new-zero i S c R)) ∙ get_or-map new i.entries (h - 1) 0

  pub place-new : (s : State) (k : ℕ) → place_at (renumbered_state c s) k ≡ new (place_at s k)
  place-new s k = ap (λ (d : ℕ). slice_index_or (map new s.places) k d) (sym (new-zero i S c R)) ∙ get_or-map new s.places k 0

  pub nothing-new : map new no_places ≡ no_places
  nothing-new = map-zeros new (new-zero i S c R) 32

  pub only-new : (l : ℕ) → bottom_alone (new l) ≡ map new (bottom_alone l)
  only-new l = ap (λ (ps : List ℕ). set ps 0 (new l)) (sym nothing-new) ∙ map-set new no_places 0 l

  -- label 1 alone has number 1
  pub one-same : (l : ℕ) → l < n → (new l == 1) ≡ (l == 1)
  one-same zero h = grind (arith, common_steps, new-zero)
  one-same (suc zero) h = grind (arith, common_steps, new-one)
  one-same (suc (suc l)) h = grind (arith, common_steps, new-high, ne_eqb)

-- ---- where a label leads
abbrev pub renamed_found : List ℕ → Found → Found
renamed_found c (found u) = found (renumbered_label c u)
renamed_found c missing = missing

-- labels of one group lead to one group
abbrev pub GroupLeads : Image → List ℕ → Type 0
GroupLeads i c = (l m : ℕ) → l < length i.labels → m < length i.labels → class_of c l ≡ class_of c m
    → (w : ℕ) (b : Bool) → class_of c (onward_label i l w b) ≡ class_of c (onward_label i m w b)

module _ (i : Image) (S : SoundImage i) (one : OneRow i) (d : Results) (l w : ℕ) (low : 2 ≤ l) (h : l < length i.labels) where
  pub row-some : row_leads i d l w ≡ found (onward_label i l w (result_of (label_at i l).called d))
  row-some = best-found i S one l w (result_of (label_at i l).called d) low h 0

  pub row-new : (c : List ℕ) → ClassRound i c → GroupLeads i c
      → row_leads (joined_labels i c) d (renumbered_label c l) w ≡ renamed_found c (row_leads i d l w)
  row-new c R g = grind (arith, common_steps, best-found, joined-sound, new-inside, label-new, onward-new, new-high, one-new, row-some)
