-- Slips of the rule by which a row is taken: each runs a patched image otherwise than the definition, which a run's contract rules out.
-- On the image of a chart they are no slips, since just one row matches there: so it is with the rule that takes the first that matches.
use Rattle.std.specs.Prelude.{ℕ, suc, ◌+◌, ◌≡◌, false, List, [], ◌∷◌, if◌then◌else◌, nat_lt, nat_le, ◌==◌}
use Rattle.std.specs.Int.Count.{ones}
use Rattle.text.specs.frames.Answer.{success}
use Rattle.image.specs.Image.{Row}
use Rattle.translator.specs.Entry.{translate}
use Rattle.rows.specs.Rows.{is_candidate, Choice, row, no_choice}
use Rattle.state.specs.State.{State, Sized}
use Rattle.fitness.specs.Fitness.{is_unfit}
use Rattle.ticks.specs.Tick.{tick}
use Rattle.runs.specs.Run.{run}
use Rattle.agreement.specs.Agreement.{Runner}
use Rattle.agreement.specs.OneRow.{translated_image, Rule, tick_with}
use Rattle.bench.specs.Variants.{run_by}

-- ---- rules that go through the rows and keep one of two
unfoldable pub kept_choice : (Choice → Choice → Choice) → ℕ → ℕ → ℕ → ℕ → List Row → Choice
kept_choice f l w b k [] = no_choice
kept_choice f l w b k (r ∷ rs) = f (if is_candidate l w b r then row k r else no_choice) (kept_choice f l w b (suc k) rs)

-- the earlier, if there is one
abbrev pub earlier : Choice → Choice → Choice
earlier no_choice y = y
earlier (row k r) y = row k r

-- the one that weighs more, of equals the later or the earlier
abbrev pub heavier_choice : (Row → ℕ) → Choice → Choice → Choice
heavier_choice weight no_choice y = y
heavier_choice weight (row k r) no_choice = row k r
heavier_choice weight (row k r) (row j q) = if nat_lt (weight q) (weight r) then row k r else row j q

abbrev pub firmer_choice : (Row → ℕ) → Choice → Choice → Choice
firmer_choice weight no_choice y = y
firmer_choice weight (row k r) no_choice = row k r
firmer_choice weight (row k r) (row j q) = if nat_le (weight q) (weight r) then row k r else row j q

-- ---- a run that hands back what the definition's does, on any image
abbrev pub RunsAs : Runner → Type 0
RunsAs f = (image : List ℕ) (s : State) (ws ms ks : List ℕ) → f image s ws ms ks ≡ run image s ws ms ks

-- ---- the first row that matches
abbrev pub first_match : Rule
first_match l w b rs = kept_choice earlier l w b 0 rs

abbrev pub FirstMatchFails : Type 0
FirstMatchFails = RunsAs (run_by (tick_with first_match)) → ⊥

-- ---- the last row that matches
abbrev pub last_match : Rule
last_match l w b rs = kept_choice (heavier_choice (λ r. 0)) l w b 0 rs

abbrev pub LastMatchFails : Type 0
LastMatchFails = RunsAs (run_by (tick_with last_match)) → ⊥

-- ---- with equal counts the earlier one
abbrev pub first_of_equals : Rule
first_of_equals l w b rs = kept_choice (firmer_choice (λ r. ones r.care)) l w b 0 rs

abbrev pub FirstOfEqualsFails : Type 0
FirstOfEqualsFails = RunsAs (run_by (tick_with first_of_equals)) → ⊥

-- ---- ones of the values counted in place of those of the care mask
abbrev pub ones_of_values : Rule
ones_of_values l w b rs = kept_choice (heavier_choice (λ r. ones r.values)) l w b 0 rs

abbrev pub OnesOfValuesFails : Type 0
OnesOfValuesFails = RunsAs (run_by (tick_with ones_of_values)) → ⊥

-- ---- the function bit counted as a condition
abbrev pub counts_bit : Rule
counts_bit l w b rs = kept_choice (heavier_choice (λ r. ones r.care + (if r.bit == 2 then 0 else 1))) l w b 0 rs

abbrev pub CountsBitFails : Type 0
CountsBitFails = RunsAs (run_by (tick_with counts_bit)) → ⊥

-- ---- the first row that matches makes the machine's ticks on the image that the translator wrote
abbrev pub FormerTick : Type 0
FormerTick =
    (text out : List ℕ) (n : ℕ) (done : (translate text out).reply ≡ success n) (s : State) → Sized s
    → is_unfit (translated_image text out n) s ≡ false → (w : ℕ) → tick_with first_match (translated_image text out n) s w
    ≡ tick (translated_image text out n) s w
