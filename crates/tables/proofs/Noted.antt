-- A noted table: what stands at each byte of it. It has the length, the header, the fields of labels and the rows of the table itself.
use Rattle.std.proofs.Common.{ℕ, zero, suc, ◌+◌, ◌*◌, ◌/◌, ◌%◌, ◌≤◌, ◌<◌, ◌≡◌, refl, sym, ◌∙◌, ap, ap₂, List, arith, length, set, slice_index}
use Rattle.std.proofs.Common.{length-set, get_or-set_same, get_or-set_other}
use Rattle.std.proofs.Math.Decide.{ℕ_discrete}
use Rattle.std.proofs.lemmas.Grind.{common_steps}
use Rattle.text.specs.frames.Frame.{size, field, pair_at, quad_at}
use Rattle.text.specs.frames.Verdict.{fine}
use Rattle.image.specs.Image.{Label}
use Rattle.image.specs.Decode.{scheme_count, last_label, row_count, handler_in, labels_from, rows_from, label_in}
use Rattle.image.specs.Check.{table_verdict}
use Rattle.image.proofs.Accepted.{counted}
use Rattle.tables.specs.Prepare.{first_frame, noted_to, noted_table}
use Rattle.tables.specs.Table.{table_end, noted_in}

-- every label of an accepted table has its frame within it
pub rows-inside : (b : List ℕ) → table_verdict b ≡ fine → rows_from b ≤ size b
rows-inside b ok = omega (arith, (counted b ok).all)

-- the place of label l's frame
abbrev pub place : List ℕ → ℕ → ℕ
place b l = 10 * (labels_from b + l)

-- byte p is none of the two that are written for a label below n
abbrev pub Away : List ℕ → ℕ → ℕ → Type 0
Away b n p = (l : ℕ) → l < n → (p ≡ place b l → ⊥) × (p ≡ place b l + 1 → ⊥)

-- ---- with n labels noted
module _ (b : List ℕ) where
  pub noted-to-length : (n : ℕ) → length (noted_to b n) ≡ length b
  unfolding noted_to
  noted-to-length zero = grind (arith, common_steps)
  noted-to-length (suc n) = grind (arith, common_steps, noted-to-length n, length-set)

  pub noted-to-other : (n p : ℕ) → Away b n p → slice_index (noted_to b n) p ≡ slice_index b p
  unfolding noted_to
  noted-to-other zero p a = refl
  noted-to-other (suc n) p a =
      get_or-set_other (set (noted_to b n) (place b n) (first_frame b (n + 1) % 256)) (place b n + 1)
      p (first_frame b (n + 1) / 256) 0 (a n (omega arith)).1
      ∙ get_or-set_other (noted_to b n) (place b n) p (first_frame b (n + 1) % 256) 0 (a n (omega arith)).0
      ∙ noted-to-other n p (λ l h. a l (omega arith))

  noted-to-low : (n l : ℕ) → l < n → place b l < length b → slice_index (noted_to b n) (place b l) ≡ first_frame b (l + 1) % 256
  unfolding noted_to
  noted-to-low zero l h g = absurd (omega arith)
  noted-to-low (suc n) l h g = go (ℕ_discrete l n) (noted-to-low n l)
    where
      go : Dec (l ≡ n) → (l < n → place b l < length b → slice_index (noted_to b n) (place b l) ≡ first_frame b (l + 1) % 256)
          → slice_index (noted_to b (suc n)) (place b l) ≡ first_frame b (l + 1) % 256
      go (yes e) ih =
          get_or-set_other (set (noted_to b n) (place b n) (first_frame b (n + 1) % 256)) (place b n + 1)
          (place b l) (first_frame b (n + 1) / 256) 0 (λ z. omega arith)
          ∙ ap (λ (p : ℕ). slice_index (set (noted_to b n) (place b n) (first_frame b (n + 1) % 256)) p) (ap (place b) e)
          ∙ get_or-set_same (noted_to b n) (place b n) (first_frame b (n + 1) % 256) 0 (omega (arith, noted-to-length n))
          ∙ ap (λ (m : ℕ). first_frame b (m + 1) % 256) (sym e)
      go (no e) ih =
          get_or-set_other (set (noted_to b n) (place b n) (first_frame b (n + 1) % 256)) (place b n + 1)
          (place b l) (first_frame b (n + 1) / 256) 0 (λ z. omega arith)
          ∙ get_or-set_other (noted_to b n) (place b n) (place b l) (first_frame b (n + 1) % 256) 0 (λ z. e (omega arith))
          ∙ ih (omega arith) g

  noted-to-high : (n l : ℕ) → l < n → place b l + 1 < length b → slice_index (noted_to b n) (place b l + 1) ≡ first_frame b (l + 1) / 256
  unfolding noted_to
  noted-to-high zero l h g = absurd (omega arith)
  noted-to-high (suc n) l h g = go (ℕ_discrete l n) (noted-to-high n l)
    where
      go : Dec (l ≡ n) → (l < n → place b l + 1 < length b → slice_index (noted_to b n) (place b l + 1) ≡ first_frame b (l + 1) / 256)
          → slice_index (noted_to b (suc n)) (place b l + 1) ≡ first_frame b (l + 1) / 256
      go (yes e) ih =
          ap (λ (p : ℕ). slice_index (set (set (noted_to b n) (place b n) (first_frame b (n + 1) % 256))
          (place b n + 1) (first_frame b (n + 1) / 256)) p)
          (ap (λ (m : ℕ). place b m + 1) e)
          ∙ get_or-set_same (set (noted_to b n) (place b n) (first_frame b (n + 1) % 256)) (place b n + 1) (first_frame b (n + 1) / 256) 0
          (omega (arith, noted-to-length n, length-set (noted_to b n) (place b n) (first_frame b (n + 1) % 256)))
          ∙ ap (λ (m : ℕ). first_frame b (m + 1) / 256) (sym e)
      go (no e) ih =
          get_or-set_other (set (noted_to b n) (place b n) (first_frame b (n + 1) % 256))
          (place b n + 1) (place b l + 1) (first_frame b (n + 1) / 256) 0
          (λ z. e (omega arith))
          ∙ get_or-set_other (noted_to b n) (place b n) (place b l + 1) (first_frame b (n + 1) % 256) 0 (λ z. omega arith)
          ∙ ih (omega arith) g

  -- a byte of a row
  pub noted-to-row : (n f k : ℕ) → n ≤ last_label b + 1 → rows_from b ≤ f → k < 10 → field (noted_to b n) f k ≡ field b f k
  noted-to-row n f k m h g = noted-to-other n (10 * f + k) (λ l q. ((λ z. omega arith), (λ z. omega arith)))

-- ---- with all labels noted
module _ (b : List ℕ) where
  pub noted-length : length (noted_table b) ≡ length b
  noted-length = noted-to-length b (last_label b + 1)

  pub noted-size : size (noted_table b) ≡ size b
  noted-size = ap (λ (n : ℕ). n / 10) noted-length

  -- a byte that is none of the first two of a label's frame
  pub noted-other : (p : ℕ) → Away b (last_label b + 1) p → slice_index (noted_table b) p ≡ slice_index b p
  noted-other = noted-to-other b (last_label b + 1)

  -- a field of the header or of an entry, a byte from 2 on of any frame, a field of a row
  pub noted-front : (f k : ℕ) → f < labels_from b → k < 10 → field (noted_table b) f k ≡ field b f k
  noted-front f k h g = noted-other (10 * f + k) (λ l m. ((λ z. omega arith), (λ z. omega arith)))

  pub noted-late : (f k : ℕ) → 2 ≤ k → k < 10 → field (noted_table b) f k ≡ field b f k
  noted-late f k h g = noted-other (10 * f + k) (λ l m. ((λ z. omega arith), (λ z. omega arith)))

  pub noted-row : (f k : ℕ) → rows_from b ≤ f → k < 10 → field (noted_table b) f k ≡ field b f k
  noted-row f k = noted-to-row b (last_label b + 1) f k (omega arith)

  -- ---- the header
  pub noted-schemes : scheme_count (noted_table b) ≡ scheme_count b
  noted-schemes = noted-front 0 1 (omega arith) (omega arith)

  pub noted-last : last_label (noted_table b) ≡ last_label b
  noted-last = noted-late 0 2 (omega arith) (omega arith)

  pub noted-rows : row_count (noted_table b) ≡ row_count b
  noted-rows = ap₂ (λ (x y : ℕ). x * 256 + y) (noted-late 0 3 (omega arith) (omega arith)) (noted-late 0 4 (omega arith) (omega arith))

  pub noted-handler : handler_in (noted_table b) ≡ handler_in b
  noted-handler = noted-late 0 5 (omega arith) (omega arith)

  pub noted-labels-from : labels_from (noted_table b) ≡ labels_from b
  noted-labels-from = ap (λ (n : ℕ). 1 + n) noted-schemes

  pub noted-rows-from : rows_from (noted_table b) ≡ rows_from b
  noted-rows-from = ap₂ (λ (x y : ℕ). 2 + x + y) noted-schemes noted-last

  pub noted-end : table_end (noted_table b) ≡ table_end b
  noted-end = ap₂ ◌+◌ noted-rows-from noted-rows

  -- ---- two and four bytes from 2 on, and the fields of a label
  pub noted-pair : (f k : ℕ) → 2 ≤ k → k + 1 < 10 → pair_at (noted_table b) f k ≡ pair_at b f k
  noted-pair f k h g = ap₂ (λ (x y : ℕ). x * 256 + y) (noted-late f k h (omega arith)) (noted-late f (k + 1) (omega arith) g)

  pub noted-quad : (f k : ℕ) → 2 ≤ k → k + 3 < 10 → quad_at (noted_table b) f k ≡ quad_at b f k
  noted-quad f k h g = ap₂ (λ (x y : ℕ). x * 65536 + y) (noted-pair f k h (omega arith)) (noted-pair f (k + 2) (omega arith) (omega arith))

  pub noted-label : (l : ℕ) → label_in (noted_table b) l ≡ label_in b l
  noted-label l =
      let n : ℕ = labels_from b + l in
      let f : labels_from (noted_table b) + l ≡ n = ap (λ (m : ℕ). m + l) noted-labels-from in
      let e₂ : field (noted_table b) n 2 ≡ field b n 2 = noted-late n 2 (omega arith) (omega arith) in
      let e₃ : field (noted_table b) n 3 ≡ field b n 3 = noted-late n 3 (omega arith) (omega arith) in
      let e₄ : field (noted_table b) n 4 ≡ field b n 4 = noted-late n 4 (omega arith) (omega arith) in
      let e₅ : field (noted_table b) n 5 ≡ field b n 5 = noted-late n 5 (omega arith) (omega arith) in
      let e₆ : quad_at (noted_table b) n 6 ≡ quad_at b n 6 = noted-quad n 6 (omega arith) (omega arith) in
      let at : ℕ → Label = λ m. record {
        kind = field (noted_table b) m 2;
        called = field (noted_table b) m 3;
        owner = field (noted_table b) m 4;
        result = field (noted_table b) m 5;
        mask = quad_at (noted_table b) m 6;
      } in
      ap at f ∙ (λ j. record { kind = e₂ j; called = e₃ j; owner = e₄ j; result = e₅ j; mask = e₆ j })

  -- ---- where the rows of label l end
  module _ (ok : table_verdict b ≡ fine) (l : ℕ) (h : l ≤ last_label b) where
    pub noted-low : field (noted_table b) (labels_from b + l) 0 ≡ first_frame b (l + 1) % 256
    noted-low =
        ap (λ (p : ℕ). slice_index (noted_table b) p) (let e : place b l + 0 ≡ place b l = omega arith in e)
        ∙ noted-to-low b (last_label b + 1) l (omega arith) (omega (arith, rows-inside b ok))

    pub noted-high : field (noted_table b) (labels_from b + l) 1 ≡ first_frame b (l + 1) / 256
    noted-high = noted-to-high b (last_label b + 1) l (omega arith) (omega (arith, rows-inside b ok))

    pub noted-in : noted_in (noted_table b) l ≡ first_frame b (l + 1)
    noted-in = grind (arith, common_steps, noted-labels-from, noted-low, noted-high)
