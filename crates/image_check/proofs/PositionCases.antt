-- The cases of refusal 12, as the code meets them.
use Rattle.std.proofs.Common.{if◌then◌else◌, ◌≡◌, refl, sym, ◌∙◌, ap, Bool, true, false, List, ℕ, ◌+◌, ◌-◌, ◌≤◌, ◌<◌, arith, nat_lt, ◌==◌}
use Rattle.std.proofs.Common.{eq-eqb, ne_eqb, lt-ltb, le-ltb, ltb-false}
use Rattle.image.specs.Decode.{labels_from, rows_from}
use Rattle.image.specs.Check.{Position, header_position, entry_position, label_position, row_position, position_of, is_stray_frame}
use Rattle.image.specs.Check.{is_stray}
use Rattle.image_check.specs.inner.CheckedFrames.{position_kind}

-- ---- a frame by its position
abbrev placed : Bool → Bool → Bool → List ℕ → ℕ → Position
placed x y z b f = if x then header_position
    else if y then entry_position f else if z then label_position (f - labels_from b) else row_position (f - rows_from b)

module _ (b : List ℕ) (f : ℕ) where
  pub kind-header : f ≡ 0 → 15 ≡ position_kind (position_of b f)
  unfolding position_of
  kind-header h = simp (eq-eqb f 0 h)

  pub kind-entry : (f ≡ 0 → ⊥) → f < labels_from b → 16 ≡ position_kind (position_of b f)
  unfolding position_of
  kind-entry n h = simp (ne_eqb f 0 n, lt-ltb f (labels_from b) h)

  pub kind-label : (f ≡ 0 → ⊥) → labels_from b ≤ f → f < rows_from b → 17 ≡ position_kind (position_of b f)
  unfolding position_of
  kind-label n h l = simp (ne_eqb f 0 n, le-ltb f (labels_from b) h, lt-ltb f (rows_from b) l)

  pub kind-row : (f ≡ 0 → ⊥) → rows_from b ≤ f → 18 ≡ position_kind (position_of b f)
  unfolding position_of
  kind-row n h = simp (ne_eqb f 0 n, le-ltb f (labels_from b) (omega arith), le-ltb f (rows_from b) h)

  placed-entry : (x y z : Bool) → position_kind (placed x y z b f) ≡ 16 → placed x y z b f ≡ entry_position f
  placed-entry true y z e = absurd (omega arith)
  placed-entry false true z e = refl
  placed-entry false false true e = absurd (omega arith)
  placed-entry false false false e = absurd (omega arith)

  placed-label : (x y z : Bool) → position_kind (placed x y z b f) ≡ 17 → (placed x y z b f ≡ label_position (f - labels_from b)) ×
      (y ≡ false)
  placed-label true y z e = absurd (omega arith)
  placed-label false true z e = absurd (omega arith)
  placed-label false false true e = (refl, refl)
  placed-label false false false e = absurd (omega arith)

  placed-row : (x y z : Bool) → position_kind (placed x y z b f) ≡ 18 → (placed x y z b f ≡ row_position (f - rows_from b)) × (z ≡ false)
  placed-row true y z e = absurd (omega arith)
  placed-row false true z e = absurd (omega arith)
  placed-row false false true e = absurd (omega arith)
  placed-row false false false e = (refl, refl)

  placed-header : (x y z : Bool) → (position_kind (placed x y z b f) ≡ 16 → ⊥) → (position_kind (placed x y z b f) ≡ 17 → ⊥)
      → (position_kind (placed x y z b f) ≡ 18 → ⊥) → placed x y z b f ≡ header_position
  placed-header true y z p q r = refl
  placed-header false true z p q r = absurd (p refl)
  placed-header false false true p q r = absurd (q refl)
  placed-header false false false p q r = absurd (r refl)

  pub position-entry : position_kind (position_of b f) ≡ 16 → position_of b f ≡ entry_position f
  unfolding position_of
  position-entry = placed-entry (f == 0) (nat_lt f (labels_from b)) (nat_lt f (rows_from b))

  pub position-label : position_kind (position_of b f) ≡ 17 → position_of b f ≡ label_position (f - labels_from b)
  unfolding position_of
  position-label e = (placed-label (f == 0) (nat_lt f (labels_from b)) (nat_lt f (rows_from b)) e).0

  pub label-above : position_kind (position_of b f) ≡ 17 → labels_from b ≤ f
  unfolding position_of
  label-above e = ltb-false f (labels_from b) (placed-label (f == 0) (nat_lt f (labels_from b)) (nat_lt f (rows_from b)) e).1

  pub position-row : position_kind (position_of b f) ≡ 18 → position_of b f ≡ row_position (f - rows_from b)
  unfolding position_of
  position-row e = (placed-row (f == 0) (nat_lt f (labels_from b)) (nat_lt f (rows_from b)) e).0

  pub row-above : position_kind (position_of b f) ≡ 18 → rows_from b ≤ f
  unfolding position_of
  row-above e = ltb-false f (rows_from b) (placed-row (f == 0) (nat_lt f (labels_from b)) (nat_lt f (rows_from b)) e).1

  pub position-header : (position_kind (position_of b f) ≡ 16 → ⊥) → (position_kind (position_of b f) ≡ 17 → ⊥)
      → (position_kind (position_of b f) ≡ 18 → ⊥) → position_of b f ≡ header_position
  unfolding position_of
  position-header = placed-header (f == 0) (nat_lt f (labels_from b)) (nat_lt f (rows_from b))

pub ruleset kinds = (kind-header, kind-entry, kind-label, kind-row)

-- ---- 12
module _ (b : List ℕ) (f : ℕ) where
  pub stray-entry : (x : Bool) → position_kind (position_of b f) ≡ 16 → x ≡ is_stray_frame b f (entry_position f) → x ≡ is_stray b f
  unfolding is_stray
  stray-entry x e q = q ∙ sym (ap (is_stray_frame b f) (position-entry b f e))

  pub stray-label : (x : Bool) (y : ℕ) → position_kind (position_of b f) ≡ 17 → labels_from b ≤ f → y ≡ labels_from b
      → x ≡ is_stray_frame b (labels_from b + (f - y)) (label_position (f - y)) → x ≡ is_stray b f
  unfolding is_stray
  stray-label x y e l q r =
      r ∙ ap (λ (n : ℕ). is_stray_frame b (labels_from b + (f - n)) (label_position (f - n))) q
      ∙ ap (λ (n : ℕ). is_stray_frame b n (label_position (f - labels_from b))) (omega arith)
      ∙ sym (ap (is_stray_frame b f) (position-label b f e))

  pub stray-row : (x : Bool) (y : ℕ) → position_kind (position_of b f) ≡ 18 → rows_from b ≤ f → y ≡ rows_from b
      → x ≡ is_stray_frame b (rows_from b + (f - y)) (row_position (f - y)) → x ≡ is_stray b f
  unfolding is_stray
  stray-row x y e l q r =
      r ∙ ap (λ (n : ℕ). is_stray_frame b (rows_from b + (f - n)) (row_position (f - n))) q
      ∙ ap (λ (n : ℕ). is_stray_frame b n (row_position (f - rows_from b))) (omega arith)
      ∙ sym (ap (is_stray_frame b f) (position-row b f e))

  pub stray-header : (position_kind (position_of b f) ≡ 16 → ⊥) → (position_kind (position_of b f) ≡ 17 → ⊥)
      → (position_kind (position_of b f) ≡ 18 → ⊥) → false ≡ is_stray b f
  unfolding is_stray
  stray-header p q r = sym (ap (is_stray_frame b f) (position-header b f p q r))

pub ruleset strays = (stray-entry, stray-label, stray-row, stray-header, label-above, row-above)
