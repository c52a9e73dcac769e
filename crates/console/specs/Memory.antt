-- A buffer that is written from its front on, where so many bytes of it are.
use Rattle.std.specs.Prelude.{ℕ, ◌-◌, ◌<◌, List, length, take, drop, Option, None, Some, if◌then◌else◌, nat_le}

-- what stands in front of the position, which lies within the buffer
abbrev pub written_front : ℕ → List ℕ → Option (List ℕ)
written_front position buffer = if nat_le position (length buffer) then Some (take position buffer) else None

-- what stands from the position on
abbrev pub unwritten_rest : ℕ → List ℕ → Option (List ℕ)
unwritten_rest position buffer = if nat_le position (length buffer) then Some (drop position buffer) else None

-- what is left of the buffer is less than so many bytes
abbrev pub HasNoRoom : ℕ → List ℕ → ℕ → Type 0
HasNoRoom position buffer n = length buffer - position < n
