-- Parts of the image check that a function of the code tries by itself.
use Rattle.std.specs.Prelude.{ℕ, Bool, ◌||◌, not, List, nat_lt, ◌==◌}
use Rattle.std.specs.Int.Bits.{bit_and}
use Rattle.image.specs.declared.layout.TheConstants.{FUNCTION_CALL}
use Rattle.image.specs.Image.{Label, Row}
use Rattle.image.specs.Decode.{last_label}
use Rattle.image.specs.Check.{has_bad_called}

-- 13, of a label from 2 up: its tick kind and the scheme that it calls
abbrev pub has_bad_kind : List ℕ → Label → Bool
has_bad_kind b x = nat_lt FUNCTION_CALL x.kind || has_bad_called b x

-- 13, of a row: the label that it leaves, and its values
abbrev pub has_bad_test : List ℕ → Row → Bool
has_bad_test b r = nat_lt r.from 2 || nat_lt (last_label b) r.from || not (bit_and r.values r.care == r.values)
