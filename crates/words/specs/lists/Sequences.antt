-- Functions on lists, and what a lent buffer holds after a write.
use Rattle.std.specs.Prelude.{ℕ, suc, ◌+◌, List, [], ◌∷◌, ◌++◌, length, take, drop}

-- each element with its number, the first one's being i
unfoldable pub map_from : {A B : Type 0} → (ℕ → A → B) → ℕ → List A → List B
map_from f i [] = []
map_from f i (x ∷ xs) = f i x ∷ map_from f (suc i) xs

-- a buffer after xs was written to its front
abbrev pub over : {A : Type 0} → List A → List A → List A
over xs old = xs ++ drop (length xs) old

-- a buffer after xs was written from offset i on
unfoldable pub written : {A : Type 0} → List A → ℕ → List A → List A
written old i xs = take i old ++ (xs ++ drop (i + length xs) old)
