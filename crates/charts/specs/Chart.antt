-- A chart (the paper's word for a hierarchical graph scheme) as its node records, ten bytes a node.
use Rattle.std.specs.Prelude.{ℕ, Bool, ◌&&◌, List, if◌then◌else◌, ◌==◌}
use Rattle.words.specs.lists.Numbers.{lowest, highest}
use Rattle.std.specs.Int.{bit_at}
use Rattle.text.specs.frames.Frame.{size, field, quad_at}
use Rattle.charts.specs.declared.layout.TheConstants.{BEGIN, END, KIND, SCHEME, ARGUMENT, NEXT0, NEXT1, RESULT, MASK}

-- its records, one after the other
abbrev pub Chart : Type 0
Chart = List ℕ

-- the kind of node v
abbrev pub kind : Chart → ℕ → ℕ
kind c v = field c v KIND

-- the scheme that node v is of
abbrev pub scheme : Chart → ℕ → ℕ
scheme c v = field c v SCHEME

-- the scheme that an operation or a function calls, the number of a condition, the mark of a Begin
abbrev pub argument : Chart → ℕ → ℕ
argument c v = field c v ARGUMENT

-- the next node, or the next on a 0
abbrev pub next0 : Chart → ℕ → ℕ
next0 c v = field c v NEXT0

-- the next node on a 1
abbrev pub next1 : Chart → ℕ → ℕ
next1 c v = field c v NEXT1

-- the arc of a condition that a word takes: bit i of the word is condition i
abbrev pub arc_taken : Chart → ℕ → ℕ → ℕ
arc_taken c w v = if bit_at w (argument c v) == 0 then next0 c v else next1 c v

-- the result of an operation: 0 keeps, 1 writes 0, 2 writes 1
abbrev pub result : Chart → ℕ → ℕ
result c v = field c v RESULT

-- the outputs that an operation writes, 32 bits
abbrev pub mask : Chart → ℕ → ℕ
mask c v = quad_at c v MASK

-- node v is of kind k
abbrev pub is : Chart → ℕ → ℕ → Bool
is c k v = kind c v == k

-- H, the number of schemes: the largest scheme of a node
abbrev pub schemes : Chart → ℕ
schemes c = highest (scheme c) 0 (size c)

-- node v is of kind k in scheme h
abbrev pub is_of : Chart → ℕ → ℕ → ℕ → Bool
is_of c k h v = is c k v && scheme c v == h

-- a Begin whose byte 2 is 1 makes its scheme the handler, to which a call that finds the stack full drops
abbrev pub is_handler_mark : Chart → ℕ → Bool
is_handler_mark c v = is c BEGIN v && argument c v == 1

-- the scheme that node v marks, or 0
abbrev pub handler_at : Chart → ℕ → ℕ
handler_at c v = if is_handler_mark c v then scheme c v else 0

-- the handler, 0 where no scheme is marked
unfoldable pub handler : Chart → ℕ
handler c = highest (handler_at c) 0 (size c)

-- the lowest node of kind k in scheme h: a scheme's Begin and its End
unfoldable pub node_of : Chart → ℕ → ℕ → ℕ
node_of c k h = lowest (is_of c k h) 0 (size c)

-- the Begin of scheme h
abbrev pub begin : Chart → ℕ → ℕ
begin c h = node_of c BEGIN h

-- the End of scheme h
abbrev pub end : Chart → ℕ → ℕ
end c h = node_of c END h
