-- Laws of a state and the struct that it is kept in.
use Rattle.std.proofs.Common.{ℕ, ◌≡◌, refl, ap, Bool, true, false, List, [], ◌∷◌, map}
use mir.Val.{bool_byte}
use Rattle.state.specs.State.{State, Sized, fresh}
use Rattle.state.specs.Changes.{with_bits}
use Rattle.state.specs.Kept.{is_set, result_byte, view, stored}

-- a cast of a result is its byte
pub byte-is : (b : Bool) → bool_byte b ≡ result_byte b
byte-is true = refl
byte-is false = refl

-- and is read back as it was
pub byte-back : (b : Bool) → is_set (bool_byte b) ≡ b
byte-back true = refl
byte-back false = refl

pub bits-back : (bs : List Bool) → map is_set (map result_byte bs) ≡ bs
bits-back [] = refl
bits-back (true ∷ bs) = ap (λ (r : List Bool). true ∷ r) (bits-back bs)
bits-back (false ∷ bs) = ap (λ (r : List Bool). false ∷ r) (bits-back bs)

-- a state that was stored is viewed as itself
pub state-back : (s : State) → view (stored s) ≡ s
state-back s = ap (with_bits s) (bits-back s.bits)

pub fresh-sized : (n : ℕ) → Sized (fresh n)
fresh-sized n = record { places = refl; serving = refl; numbers = refl; servers = refl }
