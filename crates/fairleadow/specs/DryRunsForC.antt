-- What a call from C that makes a dry run hands back.
use Rattle.std.specs.Prelude.{ℕ, ◌≡◌, List}
use Rattle.dry_runs.specs.DryRun.{DryRunOutcome}
use Rattle.fairleadow.specs.AnswersForC.{GivesReplyC}

-- a call that makes a dry run in three lent buffers
pub record GivesDryRunC (x : DryRunOutcome) (returned at made : ℕ) (after ms ks : List ℕ) : Type 0 where
  pub told : GivesReplyC x.reply returned at made
  pub image : after ≡ x.image
  pub masks : ms ≡ x.masks
  pub codes : ks ≡ x.codes
