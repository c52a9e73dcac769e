-- The image of a translated chart: 23 never applies, and runs and rebindings on its smaller image agree with the walk.
use Rattle.std.proofs.Common.{if◌then◌else◌, ℕ, zero, suc, ◌≤◌, ◌<◌, true, false, ◌≡◌, sym, ◌∙◌, ap, subst, List, arith, length, take, filter}
use Rattle.std.proofs.Common.{length-take}
use Rattle.std.proofs.Math.ListN.{length-map}
use Rattle.std.proofs.lemmas.Grind.{common_steps}
use Rattle.text.specs.frames.Frame.{contents, size}
use Rattle.text.specs.frames.Verdict.{fine}
use Rattle.text.specs.frames.Answer.{success}
use Rattle.text.proofs.frames.Lent.{Success, lent-told, front}
use Rattle.charts.specs.Chart.{Chart}
use Rattle.charts.proofs.Accepted.{SoundChart, accepted}
use Rattle.walk.proofs.Facts.{Facts}
use Rattle.walk.proofs.FactsHold.{facts}
use Rattle.image.specs.Image.{Image, Row, image_text}
use Rattle.image.specs.Decode.{decoded_image}
use Rattle.chart_rows.specs.Labels.{label}
use Rattle.chart_rows.specs.Rows.{rows}
use Rattle.translator.specs.Table.{table}
use Rattle.translator.specs.Entry.{translate_verdict, translate}
use Rattle.translator.proofs.LabelLaws.{Bearer, bearer, rows-are}
use Rattle.translator.proofs.Matching.{targets, is_matching_row}
use Rattle.translator.proofs.RowLaws.{one-row}
use Rattle.translator.proofs.SoundTable.{table-sound}
use Rattle.translator.proofs.Translated.{translated-read, translated-few, translated-fine, translated-image}
use Rattle.rows.specs.Rows.{is_candidate}
use Rattle.state.specs.State.{fresh_state}
use Rattle.runs.specs.Run.{run}
use Rattle.rebinding.specs.Rebind.{rebind}
use Rattle.agreement.specs.Agreement.{call_outputs, Agreement}
use Rattle.agreement.proofs.Images.{translated-passes, translated-decoded}
use Rattle.agreement.proofs.Demand.{theorem}
use Rattle.covering.specs.Matched.{hits, is_uneven}
use Rattle.covering.proofs.Hits.{OneRow, even-of}
use Rattle.minimising.specs.group_numbers.Smaller.{smaller_image}
use Rattle.minimising.specs.Entry.{minimise_verdict, minimise}
use Rattle.joined_again.proofs.Shorter.{never-longer, room-enough}
use Rattle.minimised.specs.Demand.{Shrunk, SmallerMade, SmallerAgreement}
use Rattle.minimised.proofs.Runs.{calls-new}

-- ---- the table of an accepted chart
module _ (c : Chart) (a : SoundChart c) where
  table-one-row : OneRow (table c)
  unfolding targets
  table-one-row l w b low high =
      let x : Bearer c (size c) l = bearer c l low high in
      ap (λ (rs : List Row). length (filter (is_candidate l w (if b then 1 else 0)) rs)) (rows-are c)
      ∙ ap (λ (k : ℕ). length (filter (is_candidate k w (if b then 1 else 0)) (rows c))) (sym x.is)
      ∙ sym (length-map (filter (is_matching_row (label c x.node) w (if b then 1 else 0)) (rows c)) (λ (r : Row). r.next))
      ∙ ap (λ (us : List ℕ). length us) (one-row c a x.node w b x.inside x.own)

  pub table-even : is_uneven (table c) ≡ false
  table-even = even-of (table c) bits
    where
      bits : (l w b : ℕ) → 2 ≤ l → l < length (table c).labels → w < 65536 → b < 2 → hits (table c) l w b ≡ 1
      bits l w zero low high hw hb = table-one-row l w false low high
      bits l w (suc zero) low high hw hb = table-one-row l w true low high
      bits l w (suc (suc b)) low high hw hb = absurd (omega arith)

-- ---- by the text
module _ (t : List ℕ) (ok : translate_verdict t ≡ fine) where
  abbrev made : Image
  made = table (contents t)

  chart-facts : Facts (contents t)
  chart-facts = facts t (translated-read t ok)

  chart-sound : SoundChart (contents t)
  chart-sound = (accepted t (translated-read t ok)).sound

  -- nothing but 16 can refuse it
  pub minimise-fine : minimise_verdict (image_text made) ≡ fine
  unfolding minimise_verdict
  minimise-fine = grind (arith, common_steps, translated-decoded, translated-passes, table-even, chart-facts, chart-sound)

-- what is written where an image is made smaller
module _ (t room : List ℕ) (m : ℕ) (done : (minimise t room).reply ≡ success m) where
  minimise-told : Success (minimise_verdict t) 1 (image_text (smaller_image (decoded_image (contents t)))) room m (minimise t room)
  unfolding minimise
  minimise-told = lent-told (minimise_verdict t) 1 (λ _. image_text (smaller_image (decoded_image (contents t)))) room m done

  pub minimised-image : take m (minimise t room).buffer ≡ image_text (smaller_image (decoded_image (contents t)))
  minimised-image = grind (arith, common_steps, front, minimise-told)

-- ---- the image that was written
module _ (text out : List ℕ) (n : ℕ) (done : (translate text out).reply ≡ success n) where
  abbrev written : List ℕ
  written = take n (translate text out).buffer

  written-fine : minimise_verdict written ≡ fine
  written-fine = grind (arith, common_steps, translated-fine, translated-image, minimise-fine)

  pub written-made : (room : List ℕ) → n ≤ length room → Shrunk (minimise written room) n
  written-made room h = grind (arith, common_steps, length-take, never-longer, room-enough, written-fine)

pub smaller-made : SmallerMade translate minimise
unfolding SmallerMade
smaller-made text out n done room h = written-made text out n done room h

pub smaller-theorem : SmallerAgreement translate minimise fresh_state run rebind
unfolding SmallerAgreement Agreement
smaller-theorem text out n done room m shrunk size some most given =
    let c : Chart = contents text in
    let ok : translate_verdict text ≡ fine = translated-fine text out n done in
    let im : List ℕ = image_text (table c) in
    let is : take n (translate text out).buffer ≡ im = translated-image text out n done in
    let f : Facts c = chart-facts text ok in
    let d : decoded_image (contents im) ≡ table c = translated-decoded text ok f in
    let small : take m (minimise im room).buffer ≡ image_text (smaller_image (table c)) =
    minimised-image im room m (subst (λ (x : List ℕ). (minimise x room).reply ≡ success m) is shrunk)
    ∙ ap (λ (i : Image). image_text (smaller_image i)) d in
    ap (λ (x : List ℕ). call_outputs run rebind (take m (minimise x room).buffer) (fresh_state size).state given) is
    ∙ ap (λ (x : List ℕ). call_outputs run rebind x (fresh_state size).state given) small
    ∙ calls-new (table c) (table-sound c f (translated-few text ok)) (table-even c (chart-sound text ok)) im (translated-passes text ok f) d
    size some most given
    ∙ sym (ap (λ (x : List ℕ). call_outputs run rebind x (fresh_state size).state given) is)
    ∙ theorem text out n done size some most given

pub ruleset chart_images_are_joined = (minimise-fine, smaller-made)
