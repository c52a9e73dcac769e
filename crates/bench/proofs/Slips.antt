-- The six slips of the bench sheet, and a call that clears no bit: the machine, or the table, with one of them is shown not to meet its
-- statement.
use Rattle.std.proofs.lemmas.Bool.{eqb-false}
use Rattle.std.proofs.Common.{refl, ap, List, [], ◌∷◌, ℕ, replicate}
use Rattle.text.specs.frames.Answer.{BufferOutcome, reply_count}
use Rattle.bench.specs.Bench.{lines, bench_words, bore_words}
use Rattle.bench.specs.Slips.{calls_again, reads_at_call, chooses_by_call, keeps_bit, returns_home, refuses_early, joined_rows}
use Rattle.bench.specs.Slips.{CallsAgainFails, ReadsAtCallFails, ChoosesByCallFails, KeepsBitFails, ReturnsHomeFails, RefusesEarlyFails}
use Rattle.bench.specs.Slips.{JoinsRowsFails}
use Rattle.bench.proofs.Computing.{translating, running}
use Rattle.bench.proofs.Tables.{table_p, of-P, table_home, of-home, table_function, of-function, table_choice, of-choice, table_bore}
use Rattle.bench.proofs.Tables.{of-bore}
use Rattle.bench.proofs.Instances.{at-home, at-deep, at-shallow, at-function, at-choice, at-bore}
use Rattle.bench.specs.Variants.{ticks_by_rule, run_by}
use Rattle.bench.proofs.Variants.{made, code_at, mask_at}

pub calls-again-fails : CallsAgainFails
unfolding running ticks_by_rule table_p bench_words
calls-again-fails g claim = eqb-false 18 3 refl (ap (code_at 6) (made of-P calls_again 3 bench_words (at-deep (run_by calls_again) g claim)))

pub reads-at-call-fails : ReadsAtCallFails
unfolding running ticks_by_rule table_function
reads-at-call-fails g claim =
    eqb-false 4 0 refl (ap (code_at 4) (made of-function reads_at_call 2 (replicate 6 0) (at-function (run_by reads_at_call) g claim)))

pub chooses-by-call-fails : ChoosesByCallFails
unfolding running ticks_by_rule table_choice
chooses-by-call-fails g claim =
    eqb-false 4 0 refl (ap (code_at 4) (made of-choice chooses_by_call 2 (0 ∷ 0 ∷ 0 ∷ 1 ∷ 0 ∷ []) (at-choice (run_by chooses_by_call) g claim)))

pub keeps-bit-fails : KeepsBitFails
unfolding running ticks_by_rule table_bore bore_words
keeps-bit-fails g claim = eqb-false 1 2 refl (ap (mask_at 10) (made of-bore keeps_bit 2 bore_words (at-bore (run_by keeps_bit) g claim)))

pub returns-home-fails : ReturnsHomeFails
unfolding running ticks_by_rule table_home
returns-home-fails g claim = eqb-false 3 4 refl (ap (code_at 0) (made of-home returns_home 1 (0 ∷ []) (at-home (run_by returns_home) g claim)))

pub refuses-early-fails : RefusesEarlyFails
unfolding running ticks_by_rule table_p bench_words
refuses-early-fails g claim = eqb-false 7 18 refl (ap (code_at 1) (made of-P refuses_early 2 bench_words (at-shallow (run_by refuses_early) g claim)))

-- an operation, then a condition with both arcs to the End
unfoldable chart_both : List ℕ
chart_both = lines ("00010001000000000000FE" ∷ "02010002000000000000FB" ∷ "03010003030000000000F6" ∷ "01010000000000000000FE" ∷ [])

pub joins-rows-fails : JoinsRowsFails
unfolding translating joined_rows chart_both
joins-rows-fails claim = eqb-false 138 161 refl (ap (λ (l : BufferOutcome). reply_count l.reply) (claim chart_both (replicate 161 0)))

pub ruleset slips = (
  calls-again-fails,
  reads-at-call-fails,
  chooses-by-call-fails,
  keeps-bit-fails,
  returns-home-fails,
  refuses-early-fails,
  joins-rows-fails,
)
