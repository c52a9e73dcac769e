-- Slips of a drop, each a tick in the place of the machine's. Most are shown not to meet the agreement.
-- The result bits that a drop leaves never show in a tick, because a function's own call clears the bit that its return reads; a slip in
-- them is shown to hand back another state than the definition, which the tick's contract rules out.
use Rattle.std.proofs.lemmas.Bool.{eqb-false}
use Rattle.std.proofs.Common.{if◌then◌else◌, ◌≡◌, refl, ◌∙◌, ap, sym, List, [], ◌∷◌, ℕ, take}
use Rattle.results.specs.Results.{result_of}
use Rattle.text.specs.frames.Answer.{reply_number}
use Rattle.state.specs.State.{State, fresh}
use Rattle.runs.specs.Run.{RunOutcome}
use Rattle.agreement.specs.Agreement.{CallInput, CallOutput, call_outputs}
use Rattle.agreement.proofs.Images.{run_image, run-image}
use Rattle.bench.specs.Handler.{image_handler, drop_words, bottom_words, ordinary_words}
use Rattle.bench.specs.HandlerSlips.{never_drops, drops_early, drops_again, counts_zero, heeds_called, keeps_beneath, returns_to_caller}
use Rattle.bench.specs.HandlerSlips.{takes_row, leaves_places, HandsBack, clears_called, keeps_handler_bit, forgets_result, clears_first}
use Rattle.bench.specs.HandlerSlips.{NeverDropsFails, DropsEarlyFails, DropsAgainFails, CountsZeroFails, HeedsCalledFails}
use Rattle.bench.specs.HandlerSlips.{KeepsBeneathFails, ReturnsToCallerFails, TakesRowFails, LeavesPlacesFails, ClearsCalledFails}
use Rattle.bench.specs.HandlerSlips.{KeepsHandlerBitFails, ForgetsResultFails, ClearsFirstFails}
use Rattle.bench.proofs.Computing.{running}
use Rattle.bench.proofs.Tables.{table_handler, of-handler}
use Rattle.bench.proofs.Instances.{alone_input, run_alone, second_output, at-drop, at-bottom, at-ordinary, at-parted}
use Rattle.bench.specs.Variants.{StepRule, ticks_by_rule, run_by}
use Rattle.bench.proofs.Variants.{decoded_run_by, by-table, made, chain-made, code_at}

pub never-drops-fails : NeverDropsFails
unfolding running ticks_by_rule table_handler drop_words
never-drops-fails g claim = eqb-false 7 96 refl (ap (code_at 3) (made of-handler never_drops 2 drop_words (at-drop (run_by never_drops) g claim)))

pub drops-early-fails : DropsEarlyFails
unfolding running ticks_by_rule table_handler drop_words
drops-early-fails g claim = eqb-false 96 66 refl (ap (code_at 1) (made of-handler drops_early 2 drop_words (at-drop (run_by drops_early) g claim)))

pub drops-again-fails : DropsAgainFails
unfolding running ticks_by_rule table_handler bottom_words
drops-again-fails g claim = eqb-false 96 7 refl (ap (code_at 7) (made of-handler drops_again 2 bottom_words (at-bottom (run_by drops_again) g claim)))

pub counts-zero-fails : CountsZeroFails
unfolding running ticks_by_rule table_handler bottom_words
counts-zero-fails g claim = eqb-false 18 7 refl (ap (code_at 7) (made of-handler counts_zero 2 bottom_words (at-bottom (run_by counts_zero) g claim)))

pub heeds-called-fails : HeedsCalledFails
unfolding running ticks_by_rule table_handler ordinary_words
heeds-called-fails g claim =
    eqb-false 7 96 refl (ap (code_at 6) (made of-handler heeds_called 2 ordinary_words (at-ordinary (run_by heeds_called) g claim)))

pub keeps-beneath-fails : KeepsBeneathFails
unfolding running ticks_by_rule table_handler drop_words
keeps-beneath-fails g claim =
    eqb-false 19 4 refl (ap (code_at 6) (made of-handler keeps_beneath 2 drop_words (at-drop (run_by keeps_beneath) g claim)))

pub returns-to-caller-fails : ReturnsToCallerFails
unfolding running ticks_by_rule table_handler drop_words
returns-to-caller-fails g claim =
    eqb-false 3 4 refl (ap (code_at 6) (made of-handler returns_to_caller 2 drop_words (at-drop (run_by returns_to_caller) g claim)))

pub takes-row-fails : TakesRowFails
unfolding running ticks_by_rule table_handler drop_words
takes-row-fails g claim = eqb-false 7 3 refl (ap (code_at 5) (made of-handler takes_row 2 drop_words (at-drop (run_by takes_row) g claim)))

pub leaves-places-fails : LeavesPlacesFails
unfolding running ticks_by_rule table_handler call_outputs
leaves-places-fails g claim =
    let given : List CallInput = run_alone (0 ∷ 0 ∷ 1 ∷ 0 ∷ []) ∷ run_alone (0 ∷ []) ∷ [] in
    let handed = sym (chain-made of-handler leaves_places g (fresh 2) given) ∙ at-parted (run_by leaves_places) g claim in
    eqb-false 15 0 refl (ap (λ (ds : List CallOutput). reply_number (second_output ds).reply) handed)

-- the two states after these words, from a fresh one with two places, by the chart's table
states-made : (step : StepRule) → HandsBack (run_by step) → (ws : List ℕ) → let a = alone_input ws in
    (decoded_run_by table_handler step image_handler (fresh 2) ws a.masks a.codes).state ≡ (run_image
    table_handler (fresh 2) ws a.masks a.codes).state
states-made step claim ws =
    let a = alone_input ws in
    sym (ap (λ (r : RunOutcome). r.state) (by-table of-handler step (fresh 2) ws a.masks a.codes))
    ∙ claim image_handler (fresh 2) ws a.masks a.codes
    ∙ ap (λ (r : RunOutcome). r.state)
    (run-image image_handler table_handler of-handler.passes of-handler.decodes (fresh 2) ws a.masks a.codes)

abbrev bit_of : ℕ → State → ℕ
bit_of h s = if result_of h s.bits then 1 else 0

pub clears-called-fails : ClearsCalledFails
unfolding running ticks_by_rule table_handler drop_words
clears-called-fails claim = eqb-false 0 1 refl (ap (bit_of 2) (states-made clears_called claim drop_words))

pub keeps-handler-bit-fails : KeepsHandlerBitFails
unfolding running ticks_by_rule table_handler drop_words
keeps-handler-bit-fails claim = eqb-false 1 0 refl (ap (bit_of 3) (states-made keeps_handler_bit claim drop_words))

pub forgets-result-fails : ForgetsResultFails
unfolding running ticks_by_rule table_handler drop_words
forgets-result-fails claim = eqb-false 0 1 refl (ap (bit_of 2) (states-made forgets_result claim drop_words))

pub clears-first-fails : ClearsFirstFails
unfolding running ticks_by_rule table_handler ordinary_words
clears-first-fails claim = eqb-false 1 0 refl (ap (bit_of 3) (states-made clears_first claim (take 7 ordinary_words)))

pub ruleset handler_slips = (
  never-drops-fails,
  drops-early-fails,
  drops-again-fails,
  counts-zero-fails,
  heeds-called-fails,
  keeps-beneath-fails,
  returns-to-caller-fails,
  takes-row-fails,
  leaves-places-fails,
  clears-called-fails,
  keeps-handler-bit-fails,
  forgets-result-fails,
  clears-first-fails,
)
