-- What a lent buffer holds after a text was read into it, refused or not.
use Rattle.std.specs.Prelude.{ℕ, ◌%◌, List, map, length, if◌then◌else◌}
use Rattle.words.specs.lists.Sequences.{over}
use Rattle.text.specs.declared.frames.sizes.TheConstants.{LINE}
use Rattle.text.specs.frames.Frame.{contents}
use Rattle.text.specs.frames.Check.{is_bad_length}

-- the contents, modulo 256, at the front of the buffer; where 1 refuses, nothing is stored. The buffer is scratch space, which a
-- later refusal leaves changed: a function that promises this is no entry point
unfoldable pub read_buffer : ℕ → List ℕ → List ℕ → List ℕ
read_buffer most t old = if is_bad_length LINE most (length t) then old else over (map (λ x. x % 256) (contents t)) old
