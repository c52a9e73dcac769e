-- A dry run by the walk: of the function and from C, each known by its contract alone.
use Rattle.std.specs.Prelude.{ℕ, ◌≤◌, ◌≡◌, List, [], ◌∷◌, map}
use Rattle.text.specs.frames.Frame.{contents}
use Rattle.text.specs.frames.Answer.{Answer, success, reply}
use Rattle.translator.specs.Entry.{translate}
use Rattle.state.specs.declared.layout.TheConstants.{PLACES}
use Rattle.dry_runs.specs.DryRun.{dry_run, GivesDryRun}
use Rattle.fairleadow.specs.DryRunsForC.{GivesDryRunC}
use Rattle.agreement.specs.Agreement.{RunInput, to_run, by_run, walk_outputs}
use Rattle.agreement.specs.ForC.{RunOutputC, by_run_c, call_output_c}

-- where the chart translates and there are 1 to 32 places, answer, masks and codes are what the chart's walk over the words gives
unfoldable pub RunsByWalk : List ℕ → ℕ → List ℕ → RunInput → Answer → List ℕ → List ℕ → Type 0
RunsByWalk text size image a answer masks codes =
    (n : ℕ) → (translate text image).reply ≡ success n → 1 ≤ size → size ≤ PLACES
    → by_run (record { reply = reply answer; masks = masks; codes = codes }) ∷ [] ≡ walk_outputs size (contents text) (to_run a ∷ [])

-- what the function promises is by the walk
unfoldable pub DryRunByWalk : Type 0
DryRunByWalk =
    (text before after : List ℕ) (size : ℕ) (a : RunInput) (answer : Answer) (masks codes : List ℕ)
    → GivesDryRun (dry_run text size before a.words a.masks a.codes) answer after masks codes
    → RunsByWalk text size before a answer masks codes

-- and so is what the call from C promises
unfoldable pub DryRunByWalkC : Type 0
DryRunByWalkC =
    (text before after : List ℕ) (size : ℕ) (a : RunInput) (t : RunOutputC)
    → GivesDryRunC (dry_run text size before a.words a.masks a.codes) t.number t.index t.count after t.masks t.codes
    → (n : ℕ) → (translate text before).reply ≡ success n → 1 ≤ size → size ≤ PLACES
    → by_run_c t ∷ [] ≡ map call_output_c (walk_outputs size (contents text) (to_run a ∷ []))
