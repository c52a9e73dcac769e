-- On texts that are read alike the cause of a tick is the same.
use Rattle.std.proofs.Common.{ℕ, ◌≡◌, ap₂, List}
use Rattle.text.specs.frames.Verdict.{Verdict, next, when}
use Rattle.text.specs.frames.Alike.{ReadAlike}
use Rattle.image.specs.Decode.{decoded_image}
use Rattle.image.proofs.Alike.{image-verdict}
use Rattle.state.specs.State.{State}
use Rattle.fitness.specs.Fitness.{is_unfit}
use Rattle.cause.specs.Cause.{cause_on, cause_of, explain}

pub explains : (t u : List ℕ) → ReadAlike t u → (s : State) (word : ℕ) → explain t s word ≡ explain u s word
unfolding explain
explains t u A s word =
    ap₂ (λ (v : Verdict) (c : List ℕ). cause_on (next v λ _. when 15 (is_unfit (decoded_image c) s))
    (λ _. cause_of (decoded_image c) s word))
    (image-verdict t u A) A.contents
