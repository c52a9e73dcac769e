-- A dry run: a chart's text is translated and run once from a fresh state. What it answers, and what the three buffers then hold.
use Rattle.std.specs.Prelude.{ℕ, ◌≡◌, List, take}
use Rattle.text.specs.frames.Answer.{Answer, Reply, success, refusal, reply, BufferOutcome}
use Rattle.translator.specs.Entry.{translate}
use Rattle.state.specs.State.{StateOutcome, fresh_state}
use Rattle.runs.specs.Run.{RunOutcome, run}

-- the three buffers are those of the image's characters, the masks and the codes
pub record DryRunOutcome : Type 0 where
  pub reply : Reply
  pub image : List ℕ
  pub masks : List ℕ
  pub codes : List ℕ

-- with that image: what refuses image or state is the answer, and leaves masks and codes; else the run is made
abbrev pub not_run : List ℕ → Reply → List ℕ → List ℕ → DryRunOutcome
not_run image refused masks codes = record { reply = refused; image = image; masks = masks; codes = codes }

abbrev pub run_once : List ℕ → RunOutcome → DryRunOutcome
run_once image r = record { reply = r.reply; image = image; masks = r.masks; codes = r.codes }

-- the run is made on the image's n characters
abbrev pub dry_outcome : BufferOutcome → StateOutcome → List ℕ → List ℕ → List ℕ → DryRunOutcome
dry_outcome written made words masks codes = elim written.reply [
  | refusal k i n ↦ not_run written.buffer written.reply masks codes
  | success n ↦ elim made.reply [
    | refusal k i m ↦ not_run written.buffer made.reply masks codes
    | success m ↦ run_once written.buffer (run (take n written.buffer) made.state words masks codes)
  ]
]

unfoldable pub dry_run : List ℕ → ℕ → List ℕ → List ℕ → List ℕ → List ℕ → DryRunOutcome
dry_run text size image words masks codes = dry_outcome (translate text image) (fresh_state size) words masks codes

-- what a function that makes one promises: its answer, and what image, masks and codes then hold
pub record GivesDryRun (x : DryRunOutcome) (answer : Answer) (after ms ks : List ℕ) : Type 0 where
  pub answered : reply answer ≡ x.reply
  pub image : after ≡ x.image
  pub masks : ms ≡ x.masks
  pub codes : ks ≡ x.codes
