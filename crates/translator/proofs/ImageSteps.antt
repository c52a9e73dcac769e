-- The bytes of a chart's table in the parts that the functions write, and how long each part is.
use Rattle.std.proofs.Common.{◌≡◌, refl, sym, ◌∙◌, ap, ap₂, Bool, true, false, List, [], ◌∷◌, ◌++◌, map, append_assoc, ℕ, zero, suc}
use Rattle.std.proofs.Common.{nat_lt, flat_map, filter}
use Rattle.std.proofs.Common.{◌+◌, ◌*◌, ◌/◌, ◌-◌, ◌≤◌, ◌<◌, zero-add, mul-suc, add-one, arith, length, length-append, lt-ltb, le-ltb}
use Rattle.std.proofs.Common.{⊎_elim, Option, None, Some, Ok, Err, if◌then◌else◌, cond}
use Rattle.std.proofs.Math.Decide.{dec_lt}
use Rattle.std.proofs.lemmas.Option.{none-some}
use Rattle.std.proofs.lemmas.Grind.{common_steps}
use Rattle.words.specs.lists.Numbers.{range, count}
use Rattle.words.specs.lists.Sequences.{map_from, written}
use Rattle.std.proofs.lemmas.Bool.{cond-true, cond-false}
use Rattle.words.proofs.lists.Counts.{count-suc, count-snoc}
use Rattle.words.proofs.lists.Tests.{cases}
use Rattle.words.proofs.lists.Ranges.{map_from-cons, filter-yes, filter-no}
use Rattle.words.proofs.lists.Joins.{concat-cons, concat-map, concat-append, length-concat-range}
use Rattle.words.proofs.lists.Written.{written-front}
use Rattle.text.specs.frames.Frame.{size}
use Rattle.text.specs.frames.Verdict.{fine, when}
use Rattle.text.specs.frames.Answer.{GivesBuffer}
use Rattle.text.specs.declared.frames.refusals.Refusal.{Refusal}
use Rattle.text.specs.declared.frames.refusals.Refusal.TheVariants.{ManyRows, NoRoom}
use Rattle.text.proofs.frames.Chains.{when-holds, when-fails}
use Rattle.text.proofs.frames.Lent.{lent-err, lent-short, lent-done}
use Rattle.charts.specs.Chart.{Chart, handler, schemes}
use Rattle.image.specs.Image.{Row, entry_frame, label_frame, image_frames, image_text}
use Rattle.chart_rows.specs.Labels.{is_numbered, entry, home_label, return_label, stop_label, numbered_nodes}
use Rattle.chart_rows.specs.Rows.{rows}
use Rattle.translator.specs.Table.{table}
use Rattle.translator.specs.inner.RowBytes.{rows_bytes}
use Rattle.translator.specs.inner.NodeBytes.{node_rows_bytes}
use Rattle.translator.specs.inner.ImageBytes.{frames_bytes, table_bytes, size_refusal, image_outcome}
use Rattle.chart_rows.specs.inner.NodeRows.{node_rows}
use Rattle.translator.specs.inner.LabelBytes.{header_bytes, entry_bytes, fixed_bytes, node_label_bytes, up_to, Put}
use Rattle.translator.specs.inner.TranslatorContracts.{Sizes, ImageRoom}
use Rattle.translator.proofs.label_text.Puts.{put-after, put-before, done-as}
use Rattle.translator.proofs.LabelLaws.{length-labels, length-entries}
use Rattle.translator.proofs.ImageBytes.{bytes-length, image-length}
use Rattle.chart_rows.proofs.chart_labels.LabelSteps.{label-own}
use Rattle.chart_rows.proofs.RowSteps.{below-all}
use Rattle.translator.proofs.path_text.RowPuts.{rows-append}
use Rattle.std.proofs.lemmas.Bool.Decides.{nat_tests}

-- what a refusal gives
ruleset refusing = (when-holds, lent-err, lent-short, lt-ltb, dec_lt, none-some)

-- lists of frames, joined
ruleset joins = (concat-map, concat-append, concat-cons, append_assoc)

-- ---- entries
entries-from : (c : Chart) (i n : ℕ)
    → frames_bytes (map_from entry_frame (suc i) (map (entry c) (range (suc i) n))) ≡ flat_map (entry_bytes c) (range i n)
entries-from c i zero = unfold map_from in refl
entries-from c i (suc n) =
    ap frames_bytes (map_from-cons entry_frame (suc i) (entry c (suc i)) (map (entry c) (range (suc (suc i)) n)))
    ∙ concat-cons (λ f. f) (entry_frame (suc i) (entry c (suc i)))
    (map_from entry_frame (suc (suc i)) (map (entry c) (range (suc (suc i)) n)))
    ∙ ap₂ (λ (x y : List ℕ). x ++ y) (ap (λ (k : ℕ). entry_frame k (entry c k)) (sym (add-one i))) (entries-from c (suc i) n)
    ∙ sym (concat-cons (entry_bytes c) i (range (suc i) n))

-- ---- labels
module _ (c : Chart) where
  -- the frames of the labels of nodes i on, where i of those before have a label
  abbrev frames : ℕ → List ℕ → List ℕ
  frames i vs = frames_bytes (map_from label_frame (2 + count (is_numbered c) 0 i) (map (stop_label c) vs))

  next-label : (i : ℕ) → 2 + count (is_numbered c) 0 (suc i) ≡ 2 + count (is_numbered c) 0 i + cond {A = ℕ} (is_numbered c i) 1 0
  next-label i = omega (arith, count-snoc (is_numbered c) 0 i, ap (λ (j : ℕ). cond {A = ℕ} (is_numbered c j) 1 0) (zero-add i))

  label-in-front : (i : ℕ) (vs : List ℕ) → is_numbered c i ≡ true → frames i (i ∷ vs) ≡ node_label_bytes c i ++ frames (suc i) vs
  label-in-front i vs e = grind (arith, common_steps, map_from-cons, concat-cons, next-label, label-own, cond-true)

  no-label : (i : ℕ) (vs : List ℕ) → is_numbered c i ≡ false → frames i vs ≡ node_label_bytes c i ++ frames (suc i) vs
  no-label i vs e = grind (arith, common_steps, next-label, cond-false)

  labels-more : (i n : ℕ) → frames (suc i) (filter (is_numbered c) (range (suc i) n)) ≡ flat_map (node_label_bytes c) (range (suc i) n)
      → frames i (filter (is_numbered c) (range i (suc n))) ≡ flat_map (node_label_bytes c) (range i (suc n))
  labels-more i n ih =
      let vs : List ℕ = filter (is_numbered c) (range (suc i) n) in
      ⊎_elim
      (λ (e : is_numbered c i ≡ true). ap (frames i) (filter-yes (is_numbered c) i (range (suc i) n) e) ∙ label-in-front i vs e)
      (λ (e : is_numbered c i ≡ false). ap (frames i) (filter-no (is_numbered c) i (range (suc i) n) e) ∙ no-label i vs e)
      (cases (is_numbered c i))
      ∙ ap (λ (x : List ℕ). node_label_bytes c i ++ x) ih ∙ sym (concat-cons (node_label_bytes c) i (range (suc i) n))

  labels-from : (i n : ℕ) → frames i (filter (is_numbered c) (range i n)) ≡ flat_map (node_label_bytes c) (range i n)
  labels-from i zero = unfold map_from in refl
  labels-from i (suc n) = labels-more i n (labels-from (suc i) n)

  none-before : 2 + count (is_numbered c) 0 0 ≡ 2
  unfolding count
  none-before = refl

  labels-joined : frames_bytes (map_from label_frame 0 (home_label ∷ return_label ∷ map (stop_label c) (numbered_nodes c)))
      ≡ fixed_bytes ++ up_to (node_label_bytes c) (size c)
  labels-joined = grind (arith, common_steps, concat-cons, append_assoc, map_from-cons, labels-from, none-before)

  -- ---- rows
  rows-each : (xs : List ℕ) → rows_bytes (flat_map (node_rows c) xs) ≡ flat_map (node_rows_bytes c) xs
  rows-each [] = grind (arith, common_steps, nat_tests)
  rows-each (x ∷ xs) = grind (arith, common_steps, nat_tests, rows-each xs, rows-append, concat-cons)

  rows-parted : rows_bytes (rows c) ≡ up_to (node_rows_bytes c) (size c)
  rows-parted = ap rows_bytes (sym (below-all c (size c) refl)) ∙ rows-each (range 0 (size c))

  -- ---- the whole
  abbrev pub image_parts : ℕ → ℕ → ℕ → List ℕ
  image_parts highest last n =
      header_bytes highest last n (handler c)
      ++ (up_to (entry_bytes c) highest ++ (fixed_bytes ++ (up_to (node_label_bytes c) (size c) ++ up_to (node_rows_bytes c) (size c))))

  pub image-parts : (highest own n : ℕ) → highest ≡ schemes c → own ≡ count (is_numbered c) 0 (size c) → n ≡ length (rows c)
      → table_bytes c ≡ image_parts highest (own + 1) n
  unfolding image_frames table
  image-parts highest own n eh eo en =
      grind (arith, common_steps, nat_tests, joins, length-entries, length-labels, entries-from, labels-joined, rows-parted)

  -- ---- lengths
  pub entries-long : (n : ℕ) → length (up_to (entry_bytes c) n) ≡ 10 * n
  entries-long n = length-concat-range (entry_bytes c) 10 0 n (λ k. refl)

  label-length : (v : ℕ) → length (node_label_bytes c v) ≡ 10 * cond {A = ℕ} (is_numbered c v) 1 0
  label-length v = grind (arith, common_steps, nat_tests, cases)

  labels-length : (i n : ℕ) → length (flat_map (node_label_bytes c) (range i n)) ≡ 10 * count (is_numbered c) i n
  labels-length i zero = unfold count in refl
  labels-length i (suc n) =
      ap (λ (x : List ℕ). length x) (concat-cons (node_label_bytes c) i (range (suc i) n))
      ∙ length-append (node_label_bytes c i) (flat_map (node_label_bytes c) (range (suc i) n))
      ∙ omega (arith, label-length i, labels-length (suc i) n, count-suc (is_numbered c) i n)

  pub labels-long : length (up_to (node_label_bytes c) (size c)) ≡ 10 * count (is_numbered c) 0 (size c)
  labels-long = labels-length 0 (size c)

  rows-length : (rs : List Row) → length (rows_bytes rs) ≡ 10 * length rs
  rows-length [] = grind (arith, common_steps, nat_tests)
  rows-length (r ∷ rs) = grind (arith, common_steps, nat_tests, rows-length rs, mul-suc, length-append, concat-cons)

  pub rows-long : length (up_to (node_rows_bytes c) (size c)) ≡ 10 * length (rows c)
  rows-long = ap (λ (x : List ℕ). length x) (sym rows-parted) ∙ rows-length (rows c)

fixed-long : length fixed_bytes ≡ 20
fixed-long = refl

module _ (c : Chart) (highest own n : ℕ) (s : Sizes c highest own n) where
  pub bytes-long : length (table_bytes c) ≡ 10 * (3 + highest + own + n)
  bytes-long =
      ap (λ (x : List ℕ). length x) (image-parts c highest own n s.schemed s.owned s.rowed)
      ∙ omega (arith, length-append {A = ℕ}, fixed-long, entries-long c highest, labels-long c, rows-long c, s.owned, s.rowed)

  pub image-long : length (image_text (table c)) ≡ 23 * (3 + highest + own + n)
  image-long = image-length (table c) ∙ omega (arith, bytes-length (table c), bytes-long)

  -- the parts, the header last; so many rows as their bytes are frames
  pub rows-put : (row end : ℕ) → end ≡ row + length (up_to (node_rows_bytes c) (size c)) → (end - row) / 10 ≡ n
  rows-put row end e = omega (arith, rows-long c, s.rowed)

  module _ {out o₁ o₂ o₃ o₄ o₅ : List ℕ} {end m h : ℕ} (room : 23 * (3 + highest + own + n) ≤ length out) (em : m ≡ n)
      (eh : h ≡ handler c) where
    pub table-put : o₁ ≡ written out 10 (up_to (entry_bytes c) highest) → o₂ ≡ written o₁ (10 + 10 * highest) fixed_bytes
        → o₃ ≡ written o₂ (10 + 10 * highest + 20) (up_to (node_label_bytes c) (size c))
        → Put o₃ (10 + 10 * highest + 20 + 10 * own) (up_to (node_rows_bytes c) (size c)) end o₄
        → o₅ ≡ written o₄ 0 (header_bytes highest (own + 1) m h) → Put out 0 (table_bytes c) end o₅
    table-put e₁ e₂ e₃ rows e₅ =
        let entries : Put out 10 (up_to (entry_bytes c) highest) (10 + 10 * highest) o₁ =
        record { ends = omega (arith, entries-long c highest); holds = e₁ } in
        let fixed : Put o₁ (10 + 10 * highest) fixed_bytes (10 + 10 * highest + 20) o₂ =
        record { ends = omega (arith, fixed-long); holds = e₂ } in
        let labels : Put o₂ (10 + 10 * highest + 20) (up_to (node_label_bytes c) (size c)) (10 + 10 * highest + 20 + 10 * own) o₃ =
        record { ends = omega (arith, labels-long c, s.owned); holds = e₃ } in
        let header : Put o₄ 0 (header_bytes highest (own + 1) n (handler c)) 10 o₅ =
        record { ends = refl; holds = e₅ ∙ ap₂ (λ (k x : ℕ). written o₄ 0 (header_bytes highest (own + 1) k x)) em eh } in
        done-as _ _ _ _ _ _ (image-parts c highest own n s.schemed s.owned s.rowed ∙ sym (simp append_assoc))
        (put-before (omega arith) (put-after (omega arith) (put-after (omega arith) (put-after (omega arith) entries fixed) labels) rows)
        header)

pub text-room : {c : Chart} {notes : List ℕ} {highest own : ℕ} {out o₁ : List ℕ} {end : ℕ} → ImageRoom c notes highest own out
    → Put out 0 (table_bytes c) end o₁ → 23 * (end / 10) ≤ length out
text-room asked put = omega (arith, bytes-long _ _ _ _ asked.sizes, put.ends, asked.room)

-- ---- 10 and 16
module _ (c : Chart) (before room : ℕ) where
  abbrev many : Bool
  many = nat_lt 1024 (length (rows c))

  abbrev short : Bool
  short = nat_lt room (23 * (before + length (rows c)))

  pub refusal-rows : 1024 < length (rows c) → Some ManyRows ≡ size_refusal c before room
  refusal-rows h = sym (cond-true many (Some ManyRows) (if short then Some NoRoom else None) (lt-ltb 1024 (length (rows c)) h))

  module _ (few : length (rows c) ≤ 1024) where
    rest : size_refusal c before room ≡ (if short then Some NoRoom else None)
    rest = cond-false many (Some ManyRows) (if short then Some NoRoom else None) (le-ltb 1024 (length (rows c)) few)

    pub refusal-room : room < 23 * (before + length (rows c)) → Some NoRoom ≡ size_refusal c before room
    refusal-room h = sym (rest ∙ cond-true short (Some NoRoom) None (lt-ltb room (23 * (before + length (rows c))) h))

    pub refusal-none : 23 * (before + length (rows c)) ≤ room → None ≡ size_refusal c before room
    refusal-none h = sym (rest ∙ cond-false short (Some NoRoom) None (le-ltb room (23 * (before + length (rows c))) h))

module _ (c : Chart) (old : List ℕ) (highest own : ℕ) (found : Option Refusal) (eh : highest ≡ schemes c)
    (eo : own ≡ count (is_numbered c) 0 (size c)) (e : found ≡ size_refusal c (3 + highest + own) (length old)) where
  sizes : Sizes c highest own (length (rows c))
  sizes = record { schemed = eh; owned = eo; rowed = refl }

  allowed : length (rows c) ≤ 1024 → when 10 (nat_lt 1024 (length (rows c))) ≡ fine
  allowed few = when-fails 10 (nat_lt 1024 (length (rows c))) (le-ltb 1024 (length (rows c)) few)

  pub image-refused : (r : Refusal) → found ≡ Some r → GivesBuffer (image_outcome c old) (Err r) old
  image-refused r is =
      grind (arith, common_steps, nat_tests, refusing, image-long, refusal-rows, refusal-room, refusal-none, sizes, allowed)

  module _ (none : found ≡ None) where
    pub image-few : length (rows c) ≤ 1024
    image-few = grind (arith, common_steps, dec_lt, none-some, refusal-rows)

    pub image-room : 23 * (3 + highest + own + length (rows c)) ≤ length old
    image-room = grind (arith, common_steps, dec_lt, none-some, refusal-room, image-few)

    pub image-fits : (out : List ℕ) (n : ℕ) → Put old 0 (image_text (table c)) n out → GivesBuffer (image_outcome c old) (Ok n) out
    image-fits out n put = grind (arith, common_steps, written-front, lent-done, image-long, sizes, allowed, image-few, image-room)
