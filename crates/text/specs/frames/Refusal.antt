-- What a refusal stands for: its number, the index that goes with it and the ticks finished before it.
use Rattle.std.specs.Prelude.{ℕ}
use Rattle.text.specs.declared.frames.refusals.TheConstants as constant
use Rattle.text.specs.declared.frames.refusals.Refusal.{Refusal}
use Rattle.text.specs.declared.frames.refusals.Refusal.TheVariants.{BadLength, BadCharacter, BadSum, BadField, BadScheme, BadArc, BadCall}
use Rattle.text.specs.declared.frames.refusals.Refusal.TheVariants.{Circle, CutOff, ManyRows, BadHeader, StrayFrame, BadContent, BadSize}
use Rattle.text.specs.declared.frames.refusals.Refusal.TheVariants.{Unfit, NoRoom, Full, NoRow, BadMarks, CallsItself, Rowless}
use Rattle.text.specs.declared.frames.refusals.Refusal.TheVariants.{BadRebinding, Uneven, NoLittleChart, NoSpindle, NoPlace}
use Rattle.text.specs.declared.frames.refusals.Refusal.TheVariants.{ManyWords, ManyLists}

-- its number, 1 to 28
abbrev pub number_of : Refusal → ℕ
number_of BadLength = constant.BAD_LENGTH
number_of (BadCharacter f) = constant.BAD_CHARACTER
number_of (BadSum f) = constant.BAD_SUM
number_of (BadField v) = constant.BAD_FIELD
number_of BadScheme = constant.BAD_SCHEME
number_of (BadArc v) = constant.BAD_ARC
number_of (BadCall v) = constant.BAD_CALL
number_of (Circle v) = constant.CIRCLE
number_of (CutOff v) = constant.CUT_OFF
number_of ManyRows = constant.MANY_ROWS
number_of BadHeader = constant.BAD_HEADER
number_of (StrayFrame f) = constant.STRAY_FRAME
number_of (BadContent f) = constant.BAD_CONTENT
number_of BadSize = constant.BAD_SIZE
number_of Unfit = constant.UNFIT
number_of NoRoom = constant.NO_ROOM
number_of (Full n) = constant.FULL
number_of (NoRow n) = constant.NO_ROW
number_of BadMarks = constant.BAD_MARKS
number_of CallsItself = constant.CALLS_ITSELF
number_of Rowless = constant.ROWLESS
number_of BadRebinding = constant.BAD_REBINDING
number_of Uneven = constant.UNEVEN
number_of NoLittleChart = constant.NO_LITTLE_CHART
number_of NoSpindle = constant.NO_SPINDLE
number_of NoPlace = constant.NO_PLACE
number_of ManyWords = constant.MANY_WORDS
number_of ManyLists = constant.MANY_LISTS

-- the frame or node that it names, 0 where it names none
abbrev pub index_of : Refusal → ℕ
index_of (BadCharacter f) = f
index_of (BadSum f) = f
index_of (BadField v) = v
index_of (BadArc v) = v
index_of (BadCall v) = v
index_of (Circle v) = v
index_of (CutOff v) = v
index_of (StrayFrame f) = f
index_of (BadContent f) = f
index_of _ = 0

-- only 17 and 18 come after ticks
abbrev pub ticks_of : Refusal → ℕ
ticks_of (Full n) = n
ticks_of (NoRow n) = n
ticks_of _ = 0
