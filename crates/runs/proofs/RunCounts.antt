-- A run has as many masks as codes, makes at most one tick a word, and counts the ticks it made.
use Rattle.std.proofs.Common.{ℕ, ◌≤◌, ◌≡◌, refl, List, [], ◌∷◌, arith, length, length-append}
use Rattle.std.proofs.lemmas.Grind.{common_steps}
use Rattle.text.specs.frames.Answer.{reply_count}
use Rattle.text.proofs.frames.Chains.{replied-count}
use Rattle.image.specs.Image.{Image}
use Rattle.state.specs.State.{State}
use Rattle.runs.specs.Run.{ticks, run}

-- as many masks as codes
pub same-count : (i : Image) (ws : List ℕ) (s : State) → length (ticks i s ws).masks ≡ length (ticks i s ws).codes
unfolding ticks
same-count i [] s = refl
same-count i (w ∷ ws) s = grind (arith, common_steps, same-count i ws)

-- at most one tick a word
ticks-most : (i : Image) (ws : List ℕ) (s : State) → length (ticks i s ws).codes ≤ length ws
unfolding ticks
ticks-most i [] s = omega arith
ticks-most i (w ∷ ws) s = grind (arith, common_steps, ticks-most i ws)

-- what is counted is in the buffer, and no more than the words
pub run-count : (t : List ℕ) (s : State) (ws ms ks : List ℕ)
    → let r = run t s ws ms ks in (reply_count r.reply ≤ length r.masks) × (reply_count r.reply ≤ length ws)
unfolding run
run-count t s ws ms ks = grind (arith, common_steps, replied-count, length-append, same-count, ticks-most)
