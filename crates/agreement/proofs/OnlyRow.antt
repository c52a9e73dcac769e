-- On the image of a chart just one row matches for each label from 2 up, word and bit, and it is the row taken.
use Rattle.std.proofs.Common.{if◌then◌else◌, ◌≡◌, refl, sym, ◌∙◌, ap, subst, Bool, true, List, ℕ, ◌≤◌, ◌<◌, arith, length}
use Rattle.text.specs.frames.Frame.{size, contents}
use Rattle.text.specs.frames.Verdict.{fine}
use Rattle.text.specs.frames.Answer.{success}
use Rattle.charts.specs.Chart.{Chart}
use Rattle.charts.specs.Entry.{read_verdict}
use Rattle.charts.proofs.Accepted.{SoundChart, accepted}
use Rattle.walk.proofs.FactsHold.{facts}
use Rattle.image.specs.Image.{Image}
use Rattle.chart_rows.specs.Labels.{is_numbered, label}
use Rattle.chart_rows.specs.Rows.{rows}
use Rattle.translator.specs.Table.{table}
use Rattle.translator.specs.Entry.{translate}
use Rattle.translator.proofs.LabelLaws.{Bearer, bearer, rows-are}
use Rattle.translator.proofs.RowLaws.{onward_stop, one-row, same-row}
use Rattle.translator.proofs.Translated.{translated-read, translated-fine, translated-image}
use Rattle.rows.specs.Rows.{is_candidate, Choice, row, no_choice, best_row, found, missing, lead_of}
use Rattle.rows.specs.Choices.{Best}
use Rattle.rows.proofs.BestRows.{best-is}
use Rattle.agreement.specs.OneRow.{translated_image, Only, OneRowMatches}
use Rattle.agreement.proofs.TableFactsHold.{best-only}
use Rattle.agreement.proofs.Images.{translated-decoded}

pub only-row : (c : Chart) → SoundChart c → (v w : ℕ) (b : Bool) → v < size c
    → is_numbered c v ≡ true → Only (label c v) w (if b then 1 else 0) (rows c)
only-row c a v w b l e = go (best_row (label c v) w (if b then 1 else 0) 0 (rows c)) refl
  where
    leading : lead_of (best_row (label c v) w (if b then 1 else 0) 0 (rows c)) ≡ found (label c (onward_stop c w b v))
    leading = best-only (label c v) w (if b then 1 else 0) 0 (label c (onward_stop c w b v)) (rows c) (one-row c a v w b l e)

    go : (x : Choice) → best_row (label c v) w (if b then 1 else 0) 0 (rows c) ≡ x → Only (label c v) w (if b then 1 else 0) (rows c)
    go no_choice q =
        absurd (let p : missing ≡ found (label c (onward_stop c w b v)) = sym (ap lead_of q)
        ∙ leading in let z : ◌≡◌ {A = ℕ} 0 1 = cc in omega arith)
    go (row k r) q =
        let best : Best (label c v) w (if b then 1 else 0) (rows c) k r = best-is (label c v) w (if b then 1 else 0) (rows c) k r q in
        record {
          number = k;
          one = r;
          taken = q;
          only = λ j h o. same-row c a v w b l e j k h best.inside o
              (ap (is_candidate (label c v) w (if b then 1 else 0)) best.is ∙ best.matches);
        }

-- ---- the image that the translator wrote
module _ (text out : List ℕ) (n : ℕ) (done : (translate text out).reply ≡ success n) where
  abbrev pub image : Image
  image = translated_image text out n

  pub read : read_verdict text ≡ fine
  read = translated-read text (translated-fine text out n done)

  pub image-is : image ≡ table (contents text)
  image-is = grind (arith, facts, translated-decoded, translated-fine, translated-image, read)

  -- each of its labels from 2 up
  pub only-translated : (l : ℕ) → 2 ≤ l → l < length image.labels → (w : ℕ) (b : Bool) → Only l w (if b then 1 else 0) image.rows
  only-translated l low high w b =
      let c : Chart = contents text in
      let x : Bearer c (size c) l = bearer c l low (subst (λ (i : Image). l < length i.labels) image-is high) in
      subst (λ (m : ℕ). Only m w (if b then 1 else 0) image.rows) x.is
      (subst (Only (label c x.node) w (if b then 1 else 0)) (sym (ap (λ (i : Image). i.rows) image-is ∙ rows-are c))
      (only-row c (accepted text read).sound x.node w b x.inside x.own))

pub one-row-matches : OneRowMatches
unfolding OneRowMatches
one-row-matches = only-translated
