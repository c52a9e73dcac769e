-- A run: ticks over a list of words; what it answers, the state it hands back and what the two buffers then hold.
use Rattle.std.specs.Prelude.{ℕ, Bool, ◌||◌, List, [], ◌∷◌, length, nat_lt}
use Rattle.words.specs.lists.Sequences.{over}
use Rattle.text.specs.declared.frames.refusals.TheConstants.{UNFIT, NO_ROOM}
use Rattle.text.specs.frames.Frame.{contents}
use Rattle.text.specs.frames.Verdict.{Verdict, fine, refused, next, when}
use Rattle.text.specs.frames.Answer.{Reply, refusal, counted_reply}
use Rattle.image.specs.Image.{Image}
use Rattle.image.specs.Decode.{decoded_image}
use Rattle.image.specs.Check.{image_verdict}
use Rattle.state.specs.State.{State}
use Rattle.fitness.specs.Fitness.{is_unfit}
use Rattle.ticks.specs.Tick.{MachineTick, finished, stopped, tick}

-- the finished ticks, the state after them, and 17 or 18 where that ended the run
pub record MachineRun : Type 0 where
  pub masks : List ℕ
  pub codes : List ℕ
  pub state : State
  pub verdict : Verdict

abbrev pub run_after : State → (State → MachineRun) → MachineTick → MachineRun
run_after s go (finished m k t) = let r = go t in record { masks = m ∷ r.masks; codes = k ∷ r.codes; state = r.state; verdict = r.verdict }
run_after s go (stopped n) = record { masks = []; codes = []; state = s; verdict = refused n 0 }

unfoldable pub ticks : Image → State → List ℕ → MachineRun
ticks i s [] = record { masks = []; codes = []; state = s; verdict = fine }
ticks i s (w ∷ ws) = run_after s (λ t. ticks i t ws) (tick i s w)

pub record RunOutcome : Type 0 where
  pub reply : Reply
  pub state : State
  pub masks : List ℕ
  pub codes : List ℕ

-- less room in a buffer than words
abbrev pub has_no_room : List ℕ → List ℕ → List ℕ → Bool
has_no_room words masks codes = nat_lt (length masks) (length words) || nat_lt (length codes) (length words)

-- what the image check tries, then 15 and 16
unfoldable pub run_verdict : List ℕ → State → List ℕ → List ℕ → List ℕ → Verdict
run_verdict t s words masks codes =
    next (image_verdict t) λ _.
    next (when UNFIT (is_unfit (decoded_image (contents t)) s)) λ _.
    when NO_ROOM (has_no_room words masks codes)

abbrev pub run_on : Verdict → (Unit {0} → MachineRun) → State → List ℕ → List ℕ → RunOutcome
run_on (refused k i) go s masks codes = record { reply = refusal k i 0; state = s; masks = masks; codes = codes }
run_on fine go s masks codes = let r = go tt in record {
  reply = counted_reply r.verdict (length r.codes);
  state = r.state;
  masks = over r.masks masks;
  codes = over r.codes codes;
}

unfoldable pub run : List ℕ → State → List ℕ → List ℕ → List ℕ → RunOutcome
run t s words masks codes = run_on (run_verdict t s words masks codes) (λ _. ticks (decoded_image (contents t)) s words) s masks codes
