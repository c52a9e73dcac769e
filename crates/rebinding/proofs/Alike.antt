-- On texts that are read alike a rebinding is the same.
use Rattle.std.proofs.Common.{ℕ, ◌≡◌, ap₂, List}
use Rattle.text.specs.frames.Verdict.{Verdict, next}
use Rattle.text.specs.frames.Alike.{ReadAlike}
use Rattle.image.specs.Decode.{decoded_image}
use Rattle.image.proofs.Alike.{image-verdict}
use Rattle.state.specs.State.{State}
use Rattle.rebinding.specs.Rebind.{rebind_verdict, rebind_on, rebind}

pub rebinds : (t u : List ℕ) → ReadAlike t u → (s : State) (number scheme : ℕ) → rebind t s number scheme ≡ rebind u s number scheme
unfolding rebind
rebinds t u A s number scheme =
    ap₂ (λ (v : Verdict) (c : List ℕ). rebind_on (next v λ _. rebind_verdict (decoded_image c) s number scheme) s number scheme)
    (image-verdict t u A) A.contents
