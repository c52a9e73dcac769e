-- What a program printed of the front of its input that it read, where what it prints is the same for all inputs with that front.
use Rattle.std.proofs.Common.{ℕ, ◌≡◌, List, length, take, Option, IfSome, arith}
use Rattle.std.specs.Io.KnownBytes.{Appends}
use Rattle.std.specs.declared.io.Error.{Error}
use Rattle.std.proofs.lemmas.Grind.{common_steps}
use Rattle.console.specs.Input.{IsFrontOf, AppendsFront, LosesFirst, AppendsOver}
use Rattle.output.specs.Prints.{Prints}

module _ (output : List ℕ → List ℕ) (m : ℕ) (front : (xs : List ℕ) → output (take m xs) ≡ output xs) (input : Option (List ℕ))
    (buffer : List ℕ) (n : ℕ) {before after : List ℕ} {count : ℕ} (full : length buffer ≡ m) (is : IsFrontOf input (length buffer) (take n buffer))
    (printed : Prints (output (take n buffer)) count before after) where
  -- whatever holds of what is handed on holds of the output
  handed : (P : List ℕ → Type 0) → P (take count after) → IfSome input (λ xs. P (output xs))
  handed P p = grind (arith, common_steps)

  pub all-printed : (old new : Option (List ℕ)) → Appends old new (take count after) → IfSome input (λ xs. Appends old new (output xs))
  all-printed old new = handed (Appends old new)

  pub front-printed : (old new : Option (List ℕ)) → AppendsFront old new (take count after)
      → IfSome input (λ xs. AppendsFront old new (output xs))
  front-printed old new = handed (AppendsFront old new)

  -- and as much was written over
  pub all-over : (old new : Option (List ℕ)) → LosesFirst old new (length (take count after))
      → IfSome input (λ xs. LosesFirst old new (length (output xs)))
  all-over old new = handed (λ ys. LosesFirst old new (length ys))

  pub front-over : (old new from to : Option (List ℕ)) → AppendsOver old new from to (take count after)
      → IfSome input (λ xs. AppendsOver old new from to (output xs))
  front-over old new from to = handed (AppendsOver old new from to)

  -- the error came before so many bytes were written
  pub error-told : (writing : ℕ → Error → Type 0) (e : Error) → writing (length (take count after)) e
      → (k : ℕ) × IfSome input (λ xs. k ≡ length (output xs)) × writing k e
  error-told writing e told = grind (arith, common_steps)
