-- Slips of the rule by which a row is taken, each shown to run a patched image otherwise than the definition, which a run's contract
-- rules out. On the image of a chart they are no slips: just one row matches there. So it is with the rule that takes the first row that
-- matches.
use Rattle.std.proofs.lemmas.Bool.{eqb-false}
use Rattle.std.proofs.Common.{◌≡◌, refl, sym, ◌∙◌, ap, true, false, List, [], ◌∷◌, ℕ, zero, suc, ◌+◌, ◌<◌, arith, slice_index, slice_index_or}
use Rattle.std.proofs.Common.{length}
use lib.Count.{ones, ones_in}
use Rattle.image.specs.Image.{Image, Row, no_row}
use Rattle.rows.specs.Rows.{is_candidate, Choice, row, no_choice}
use Rattle.state.specs.State.{fresh}
use Rattle.runs.specs.Run.{RunOutcome}
use Rattle.agreement.proofs.Images.{run_image, run-image}
use Rattle.agreement.specs.OneRow.{TakesMatching, tick_with}
use Rattle.agreement.proofs.AnyRule.{any-tick}
use Rattle.bench.specs.Patched.{answer_words}
use Rattle.bench.proofs.Computing.{running}
use Rattle.bench.proofs.Tables.{Holds, table_special, of-special, table_equal, of-equal}
use Rattle.bench.proofs.Rounds.{blank}
use Rattle.bench.specs.Variants.{StepRule, ticks_by_rule, run_by}
use Rattle.bench.specs.RowSlips.{kept_choice, earlier, RunsAs, first_match, last_match, first_of_equals, ones_of_values, counts_bit}
use Rattle.bench.specs.RowSlips.{FirstMatchFails, LastMatchFails, FirstOfEqualsFails, OnesOfValuesFails, CountsBitFails, FormerTick}
use Rattle.bench.proofs.Variants.{decoded_run_by, by-image}
use Rattle.std.proofs.lemmas.Grind.{common_steps}
use Rattle.std.proofs.lemmas.Bool.{cases_Bool}

-- ---- the runs that they make of a patched image, by its table
runs-made : {image : List ℕ} {i : Image} → Holds image i → (step : StepRule) → RunsAs (run_by step) → (ws : List ℕ)
    → decoded_run_by i step image (fresh 2) ws (blank ws) (blank ws) ≡ run_image i (fresh 2) ws (blank ws) (blank ws)
runs-made {image} {i} known step claim ws =
    sym (by-image known step (fresh 2) ws (blank ws) (blank ws)) ∙ claim image (fresh 2) ws (blank ws) (blank ws)
    ∙ run-image image i known.passes known.decodes (fresh 2) ws (blank ws) (blank ws)

abbrev code_at : ℕ → RunOutcome → ℕ
code_at k r = slice_index r.codes k

abbrev mask_at : ℕ → RunOutcome → ℕ
mask_at k r = slice_index r.masks k

pub first-match-fails : FirstMatchFails
unfolding running ticks_by_rule kept_choice ones ones_in table_special
first-match-fails claim = eqb-false 0 4 refl (ap (code_at 2) (runs-made of-special (tick_with first_match) claim (0 ∷ 0 ∷ 0 ∷ [])))

pub last-match-fails : LastMatchFails
unfolding running ticks_by_rule kept_choice ones ones_in table_special
last-match-fails claim = eqb-false 66 4 refl (ap (code_at 2) (runs-made of-special (tick_with last_match) claim (0 ∷ 1 ∷ 0 ∷ [])))

pub first-of-equals-fails : FirstOfEqualsFails
unfolding running ticks_by_rule kept_choice ones ones_in table_equal
first-of-equals-fails claim = eqb-false 4 0 refl (ap (code_at 2) (runs-made of-equal (tick_with first_of_equals) claim (0 ∷ 1 ∷ 0 ∷ [])))

pub ones-of-values-fails : OnesOfValuesFails
unfolding running ticks_by_rule kept_choice ones ones_in table_special
ones-of-values-fails claim = eqb-false 66 4 refl (ap (code_at 2) (runs-made of-special (tick_with ones_of_values) claim (0 ∷ 1 ∷ 0 ∷ [])))

pub counts-bit-fails : CountsBitFails
unfolding running ticks_by_rule kept_choice ones ones_in table_equal answer_words
counts-bit-fails claim = eqb-false 2 1 refl (ap (mask_at 5) (runs-made of-equal (tick_with counts_bit) claim answer_words))

-- ---- the first row that matches is as good on the image of a chart
module _ (l w b : ℕ) where
  -- among rows whose first has number k
  abbrev From : ℕ → List Row → Choice → Type 0
  From k rs no_choice = (j : ℕ) → j < length rs → is_candidate l w b (slice_index_or rs j no_row) ≡ false
  From k rs (row n r) = (p : ℕ) × (n ≡ k + p) × (p < length rs) × (slice_index_or rs p no_row ≡ r) × (is_candidate l w b r ≡ true)

  behind : (k : ℕ) (r : Row) (rs : List Row) → is_candidate l w b r ≡ false → (x : Choice) → From (suc k) rs x → From k (r ∷ rs) x
  behind k r rs o no_choice h = go
    where
      go : (j : ℕ) → j < length (r ∷ rs) → is_candidate l w b (slice_index_or (r ∷ rs) j no_row) ≡ false
      go zero m = o
      go (suc j) m = h j (omega arith)
  behind k r rs o (row n q) h = (suc h.0, omega (arith, h.1), omega (arith, h.2), h.3, h.4)

  first-from : (k : ℕ) (rs : List Row) → From k rs (kept_choice earlier l w b k rs)
  unfolding kept_choice
  first-from k [] = grind (arith, common_steps)
  first-from k (r ∷ rs) = grind (arith, common_steps, first-from (suc k) rs, cases_Bool (is_candidate l w b r), behind)

pub first-matches : TakesMatching first_match
first-matches l w b rs = grind (arith, common_steps, first-from)

-- the first row that matches makes the machine's ticks on the image that the translator wrote
pub former-tick : FormerTick
former-tick text out n done = any-tick text out n done first_match first-matches

pub ruleset row_slips = (first-match-fails, last-match-fails, first-of-equals-fails, ones-of-values-fails, counts-bit-fails)
