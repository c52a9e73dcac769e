-- The numbers of the paper, each written out once beside the constant of the code that has it: a constant with another value fails here.
use Rattle.std.specs.Prelude.{◌≡◌}
use Rattle.text.specs.frames.Sizes.{CONDITIONS, WORDS}
use Rattle.text.specs.declared.frames.refusals.TheConstants as refusal
use Rattle.text.specs.declared.frames.codes.TheConstants as code
use Rattle.ticks.specs.declared.codes.TheConstants as meaning
use Rattle.text.specs.declared.frames.sizes.TheConstants as sizes
use Rattle.charts.specs.declared.layout.TheConstants as node
use Rattle.image.specs.declared.layout.TheConstants as image
use Rattle.state.specs.declared.layout.TheConstants as state
use Rattle.spindles.specs.declared.layout.TheConstants as head

-- the numbers of the refusals
pub record RefusalNumbers : Type 0 where
  pub bad_length : refusal.BAD_LENGTH ≡ 1
  pub bad_character : refusal.BAD_CHARACTER ≡ 2
  pub bad_sum : refusal.BAD_SUM ≡ 3
  pub bad_field : refusal.BAD_FIELD ≡ 4
  pub bad_scheme : refusal.BAD_SCHEME ≡ 5
  pub bad_arc : refusal.BAD_ARC ≡ 6
  pub bad_call : refusal.BAD_CALL ≡ 7
  pub circle : refusal.CIRCLE ≡ 8
  pub cut_off : refusal.CUT_OFF ≡ 9
  pub many_rows : refusal.MANY_ROWS ≡ 10
  pub bad_header : refusal.BAD_HEADER ≡ 11
  pub stray_frame : refusal.STRAY_FRAME ≡ 12
  pub bad_content : refusal.BAD_CONTENT ≡ 13
  pub bad_size : refusal.BAD_SIZE ≡ 14
  pub unfit : refusal.UNFIT ≡ 15
  pub no_room : refusal.NO_ROOM ≡ 16
  pub full : refusal.FULL ≡ 17
  pub no_row : refusal.NO_ROW ≡ 18
  pub bad_marks : refusal.BAD_MARKS ≡ 19
  pub calls_itself : refusal.CALLS_ITSELF ≡ 20
  pub rowless : refusal.ROWLESS ≡ 21
  pub bad_rebinding : refusal.BAD_REBINDING ≡ 22
  pub uneven : refusal.UNEVEN ≡ 23
  pub no_little_chart : refusal.NO_LITTLE_CHART ≡ 24
  pub no_spindle : refusal.NO_SPINDLE ≡ 25
  pub no_place : refusal.NO_PLACE ≡ 26
  pub many_words : refusal.MANY_WORDS ≡ 27
  pub many_lists : refusal.MANY_LISTS ≡ 28

-- tick codes; to those of a call the number called is added
pub record TickCodes : Type 0 where
  pub plain_code : code.PLAIN_CODE ≡ 0
  pub return_code : code.RETURN_CODE ≡ 3
  pub home_code : code.HOME_CODE ≡ 4
  pub operation_call_code : code.OPERATION_CALL_CODE ≡ 16
  pub function_call_code : code.FUNCTION_CALL_CODE ≡ 64
  pub drop_code : code.DROP_CODE ≡ 96

-- what is told of a code in the place of a tick kind: a drop, and a code that no tick has
pub record Meanings : Type 0 where
  pub drop : meaning.DROP ≡ 5
  pub unknown : meaning.UNKNOWN ≡ 255

-- lines, frames, and the most nodes, schemes, labels, rows and frames; texts in characters, records and tables in bytes
pub record Sizes : Type 0 where
  pub digits : sizes.DIGITS ≡ 22
  pub bytes : sizes.BYTES ≡ 11
  pub line : sizes.LINE ≡ 23
  pub line_feed : sizes.LINE_FEED ≡ 10
  pub frame : sizes.FRAME ≡ 10
  pub record_bytes : sizes.RECORD ≡ 10
  pub nodes : sizes.NODES ≡ 256
  pub schemes : sizes.SCHEMES ≡ 16
  pub labels : sizes.LABELS ≡ 256
  pub rows : sizes.ROWS ≡ 1024
  pub frames : sizes.FRAMES ≡ 1297
  pub chart_text : sizes.CHART_TEXT ≡ 5888
  pub records : sizes.RECORDS ≡ 2560
  pub image_text : sizes.IMAGE_TEXT ≡ 29831
  pub table : sizes.TABLE ≡ 12970
  pub conditions : CONDITIONS ≡ 16
  pub words : WORDS ≡ 65536

-- a node record: its kinds, and which byte holds what
pub record NodeLayout : Type 0 where
  pub begin : node.BEGIN ≡ 0
  pub end : node.END ≡ 1
  pub operation : node.OPERATION ≡ 2
  pub condition : node.CONDITION ≡ 3
  pub function : node.FUNCTION ≡ 4
  pub kind : node.KIND ≡ 0
  pub scheme : node.SCHEME ≡ 1
  pub argument : node.ARGUMENT ≡ 2
  pub next0 : node.NEXT0 ≡ 3
  pub next1 : node.NEXT1 ≡ 4
  pub result : node.RESULT ≡ 5
  pub mask : node.MASK ≡ 6

-- an image frame: its kinds, which byte holds what, and the tick kinds
pub record ImageLayout : Type 0 where
  pub frame_kind : image.FRAME_KIND ≡ 0
  pub header : image.HEADER ≡ 15
  pub entry : image.ENTRY ≡ 16
  pub label : image.LABEL ≡ 17
  pub row : image.ROW ≡ 18
  pub number : image.NUMBER ≡ 1
  pub scheme_count : image.SCHEME_COUNT ≡ 1
  pub last_label : image.LAST_LABEL ≡ 2
  pub row_count : image.ROW_COUNT ≡ 3
  pub handler : image.HANDLER ≡ 5
  pub entry_label : image.ENTRY_LABEL ≡ 2
  pub tick_kind : image.TICK_KIND ≡ 2
  pub called : image.CALLED ≡ 3
  pub owner : image.OWNER ≡ 4
  pub label_result : image.LABEL_RESULT ≡ 5
  pub label_mask : image.LABEL_MASK ≡ 6
  pub label_mask1 : image.LABEL_MASK1 ≡ 7
  pub label_mask2 : image.LABEL_MASK2 ≡ 8
  pub label_mask3 : image.LABEL_MASK3 ≡ 9
  pub from : image.FROM ≡ 1
  pub care : image.CARE ≡ 2
  pub care1 : image.CARE1 ≡ 3
  pub values : image.VALUES ≡ 4
  pub values1 : image.VALUES1 ≡ 5
  pub function_bit : image.FUNCTION_BIT ≡ 6
  pub next : image.NEXT ≡ 7
  pub plain : image.PLAIN ≡ 0
  pub operation_call : image.OPERATION_CALL ≡ 1
  pub function_call : image.FUNCTION_CALL ≡ 2
  pub return : image.RETURN ≡ 3
  pub home : image.HOME ≡ 4
  pub no_bit : image.NO_BIT ≡ 2
  pub no_label : image.NO_LABEL ≡ 256

-- the places of a state, the spindles of a head, and their places together
pub record StackSizes : Type 0 where
  pub places : state.PLACES ≡ 32
  pub spindles : head.SPINDLES ≡ 4
  pub store : head.STORE ≡ 64
