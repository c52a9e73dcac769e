-- Tick codes: which code a tick has, and what a code stands for. Tick kinds are numbered as an image has them; a drop is none of them and
-- has 5.
use Rattle.std.specs.Prelude.{ℕ, ◌+◌, ◌-◌, Bool, ◌&&◌, if◌then◌else◌, nat_le, ◌==◌}
use Rattle.text.specs.declared.frames.sizes.TheConstants.{SCHEMES}
use Rattle.text.specs.declared.frames.codes.TheConstants.{PLAIN_CODE, RETURN_CODE, HOME_CODE, OPERATION_CALL_CODE, FUNCTION_CALL_CODE}
use Rattle.text.specs.declared.frames.codes.TheConstants.{DROP_CODE}
use Rattle.image.specs.declared.layout.TheConstants.{PLAIN, OPERATION_CALL, FUNCTION_CALL, RETURN, HOME}
use Rattle.image.specs.Layout.{TickKind, plain, operation_call, function_call, return, home}
use Rattle.ticks.specs.declared.codes.TheConstants.{DROP, UNKNOWN}
use Rattle.ticks.specs.declared.codes.Meaning.{Meaning}
use Rattle.ticks.specs.declared.codes.Meaning.TheVariants.{Plain, OperationCall, FunctionCall, Return, Home, Drop, Unknown}

-- ---- a tick by its kind and the number called: its code, and what it is
abbrev pub code_of : TickKind → ℕ → ℕ
code_of plain h = PLAIN_CODE
code_of operation_call h = OPERATION_CALL_CODE + h
code_of function_call h = FUNCTION_CALL_CODE + h
code_of return h = RETURN_CODE
code_of home h = HOME_CODE

abbrev pub meaning_by : TickKind → ℕ → Meaning
meaning_by plain h = Plain
meaning_by operation_call h = OperationCall h
meaning_by function_call h = FunctionCall h
meaning_by return h = Return
meaning_by home h = Home

-- ---- what a code stands for
-- base + h for a scheme h that can be called
abbrev pub is_call_above : ℕ → ℕ → Bool
is_call_above base code = nat_le (base + 2) code && nat_le code (base + SCHEMES)

unfoldable pub meaning_of : ℕ → Meaning
meaning_of code =
    if code == PLAIN_CODE then Plain
    else if code == RETURN_CODE then Return
    else if code == HOME_CODE then Home
    else if is_call_above OPERATION_CALL_CODE code then OperationCall (code - OPERATION_CALL_CODE)
    else if is_call_above FUNCTION_CALL_CODE code then FunctionCall (code - FUNCTION_CALL_CODE)
    else if code == DROP_CODE then Drop
    else Unknown

-- its tick kind, 5 for a call that dropped all open schemes, 255 for a code that no tick has, and the number called, 0 for none
abbrev pub tick_kind_of : Meaning → ℕ
tick_kind_of Plain = PLAIN
tick_kind_of (OperationCall h) = OPERATION_CALL
tick_kind_of (FunctionCall h) = FUNCTION_CALL
tick_kind_of Return = RETURN
tick_kind_of Home = HOME
tick_kind_of Drop = DROP
tick_kind_of Unknown = UNKNOWN

abbrev pub called_of : Meaning → ℕ
called_of Plain = 0
called_of (OperationCall h) = h
called_of (FunctionCall h) = h
called_of Return = 0
called_of Home = 0
called_of Drop = 0
called_of Unknown = 0
