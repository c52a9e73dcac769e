-- The table of an accepted chart of at most 1,024 rows is sound, so its text passes the image check and reads back as the table.
use Rattle.std.proofs.Common.{if◌then◌else◌, ℕ, suc, ◌+◌, ◌*◌, ◌-◌, ◌≤◌, ◌<◌, Bool, true, false, ◌≡◌, sym, ◌∙◌, ap, subst, arith}
use Rattle.std.proofs.Common.{◌==◌, slice_index}
use Rattle.std.proofs.Common.{length, eqb-true}
use Rattle.std.proofs.Math.ListN.{length-map}
use borrow.Author.Tests.{eqb-false}
use Rattle.std.proofs.lemmas.Grind.{common_steps}
use Rattle.words.proofs.lists.Ranges.{get_d-map}
use Rattle.words.proofs.lists.Joins.{all-at}
use Rattle.text.specs.frames.Frame.{contents, size}
use Rattle.text.specs.frames.Verdict.{fine}
use Rattle.charts.specs.Layout.{Function}
use Rattle.charts.specs.Chart.{Chart, kind, scheme, argument, result, mask, schemes}
use Rattle.walk.proofs.Facts.{Facts}
use Rattle.image.specs.Image.{image_text}
use Rattle.image.specs.Decode.{decoded_image}
use Rattle.image.specs.Check.{image_verdict}
use Rattle.image.specs.inner.Sound.{no_label, nth_label, SoundLabel, SoundImage}
use Rattle.image.proofs.Decoded.{image-decoded}
use Rattle.image.proofs.Passes.{image-fine}
use Rattle.chart_rows.specs.Labels.{is_numbered, numbered_nodes, bare_label, label_as, stop_label}
use Rattle.chart_rows.specs.Rows.{rows}
use Rattle.translator.specs.Table.{table}
use Rattle.translator.proofs.LabelLaws.{label-home, label-return, labels-two, labels-few, length-entries, entry-holds, rows-are}
use Rattle.translator.proofs.SoundRows.{label-reaches, numbered-nodes, rows-sound, rows-rising}
use Rattle.std.proofs.lemmas.Bool.Decides.{nat_tests}

-- the labels and the entries of a table
ruleset labels_told = (label-home, label-return, label-reaches, labels-two, labels-few, length-entries, entry-holds)

module _ (c : Chart) (F : Facts c) where
  -- ---- labels from 2 up
  mask-small : (v : ℕ) → mask c v < 4294967296
  mask-small v = omega (arith, F.bytes (10 * v + 6), F.bytes (10 * v + 7), F.bytes (10 * v + 8), F.bytes (10 * v + 9))

  module _ (v : ℕ) (l : v < size c) where
    bare-sound : SoundLabel (schemes c) (bare_label (scheme c v))
    bare-sound = grind (arith, common_steps)

    operation-sound : kind c v ≡ 2 → (z : Bool) → (argument c v == 0) ≡ z
        → SoundLabel (schemes c)
        (record { kind = if z then 0 else 1; called = argument c v; owner = scheme c v; result = result c v; mask = mask c v })
    operation-sound e true g = grind (arith, common_steps, eqb-true, mask-small)
    operation-sound e false g = grind (arith, common_steps, eqb-false, mask-small)

    function-sound : kind c v ≡ 4 → SoundLabel (schemes c) (label_as c v Function)
    function-sound e = record {
      kinds = omega arith;
      some = (F.owned v l).0;
      most = (F.owned v l).1;
      results = omega arith;
      masks = omega arith;
      plain = λ o. absurd (omega arith);
      calls = λ o. F.functions v l e;
    }

    pub label-sound : SoundLabel (schemes c) (stop_label c v)
    label-sound = grind (arith, common_steps, bare-sound, operation-sound, function-sound)

  label-at : (k : ℕ) → k < length (numbered_nodes c) → nth_label (table c) (suc (suc k)) ≡ stop_label c (slice_index (numbered_nodes c) k)
  unfolding table
  label-at k l = get_d-map (stop_label c) (numbered_nodes c) k 0 no_label l

  labels-count : length (table c).labels ≡ suc (suc (length (numbered_nodes c)))
  unfolding table
  labels-count = ap (λ (n : ℕ). suc (suc n)) (length-map (numbered_nodes c) (stop_label c))

  others-sound : (l : ℕ) → 2 ≤ l → l < length (table c).labels → SoundLabel (schemes c) (nth_label (table c) l)
  others-sound l h k =
      let m : l - 2 < length (numbered_nodes c) = omega (arith, labels-count) in
      let v : ℕ = slice_index (numbered_nodes c) (l - 2) in
      let e : nth_label (table c) l ≡ stop_label c v = ap (nth_label (table c)) (omega arith) ∙ label-at (l - 2) m in
      let g : (v < size c) × (is_numbered c v ≡ true) =
      all-at (λ v. (v < size c) × (is_numbered c v ≡ true)) 0 (numbered_nodes c) (numbered-nodes c) (l - 2) m in
      subst (SoundLabel (schemes c)) (sym e) (label-sound v g.0)

  -- ---- the whole table
  table-handled : ((table c).handler ≡ 0 → ⊥) → (2 ≤ (table c).handler) × ((table c).handler ≤ length (table c).entries)
  unfolding table
  table-handled n = let r = F.handled n in (r.0, omega (arith, length-entries c))

  module _ (few : length (rows c) ≤ 1024) where
    pub table-sound : SoundImage (table c)
    table-sound =
        grind (arith, common_steps, nat_tests, labels_told, rows-are, rows-sound, rows-rising, all-at, others-sound, table-handled)

    pub table-fine : image_verdict (image_text (table c)) ≡ fine
    table-fine = image-fine (table c) table-sound

    pub table-decoded : decoded_image (contents (image_text (table c))) ≡ table c
    table-decoded = image-decoded (table c) table-sound
