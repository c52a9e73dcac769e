-- A dry run of a chart that translates is the agreement's one run.
use Rattle.std.proofs.Common.{ℕ, ◌≤◌, ◌≡◌, refl, ◌∙◌, ap, List, [], ◌∷◌, take, arith}
use Rattle.std.proofs.lemmas.Grind.{common_steps}
use Rattle.text.specs.frames.Frame.{contents}
use Rattle.text.specs.frames.Answer.{success}
use Rattle.translator.specs.Entry.{translate}
use Rattle.state.specs.declared.layout.TheConstants.{PLACES}
use Rattle.state.specs.State.{fresh_state}
use Rattle.state.proofs.Sizes.{size-good}
use Rattle.runs.specs.Run.{run}
use Rattle.dry_runs.specs.DryRun.{DryRunOutcome, run_once, dry_run}
use Rattle.agreement.specs.Agreement.{RunInput, to_run, CallOutput, by_run, call_outputs, walk_outputs, Agreement}
use Rattle.agreement.specs.DryRuns.{RunsByWalk, DryRunByWalk, DryRunByWalkC}
use Rattle.agreement.proofs.Demand.{theorem}

abbrev handed : DryRunOutcome → CallOutput
handed x = by_run (record { reply = x.reply; masks = x.masks; codes = x.codes })

made : (size : ℕ) → 1 ≤ size → size ≤ PLACES → (fresh_state size).reply ≡ success 0
unfolding fresh_state
made size low high = rw (size-good size low high) refl

module _ (text before : List ℕ) (size : ℕ) (a : RunInput) (n : ℕ) (done : (translate text before).reply ≡ success n)
    (low : 1 ≤ size) (high : size ≤ PLACES) where
  ran : dry_run text size before a.words a.masks a.codes
      ≡ run_once (translate text before).buffer (run (take n (translate text before).buffer) (fresh_state size).state a.words a.masks a.codes)
  unfolding dry_run
  ran = rw (done, made size low high) refl

  pub by-walk : handed (dry_run text size before a.words a.masks a.codes) ∷ [] ≡ walk_outputs size (contents text) (to_run a ∷ [])
  unfolding call_outputs Agreement
  by-walk = ap (λ (x : DryRunOutcome). handed x ∷ []) ran ∙ theorem text before n done size low high (to_run a ∷ [])

pub dry-run-by-walk : DryRunByWalk
unfolding DryRunByWalk RunsByWalk
dry-run-by-walk text before after size a answer masks codes g n done low high = grind (arith, common_steps, by-walk)

pub dry-run-by-walk-c : DryRunByWalkC
unfolding DryRunByWalkC
dry-run-by-walk-c text before after size a t g n done low high = grind (arith, common_steps, by-walk)
