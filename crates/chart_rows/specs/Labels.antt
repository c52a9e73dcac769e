-- The labels of a chart's stops.
use Rattle.std.specs.Prelude.{ℕ, ◌+◌, Bool, ◌&&◌, not, List, if◌then◌else◌, ◌==◌, filter}
use Rattle.words.specs.lists.Numbers.{range, count}
use Rattle.text.specs.frames.Frame.{size}
use Rattle.charts.specs.declared.layout.TheConstants.{END}
use Rattle.charts.specs.Layout.{Kind, Begin, End, Operation, Condition, Function, Unknown, kind_of}
use Rattle.charts.specs.Chart.{Chart, kind, scheme, argument, result, mask, is}
use Rattle.walk.specs.Stops.{is_stop, start}
use Rattle.image.specs.declared.layout.TheConstants.{PLAIN, OPERATION_CALL, FUNCTION_CALL}
use Rattle.image.specs.Image.{Label}
pub use Rattle.image.specs.Image.{home_label, return_label}

-- the stops that get a label of their own, in frame order
abbrev pub is_numbered : Chart → ℕ → Bool
is_numbered c v = is_stop c v && not (is c END v)

abbrev pub numbered_nodes : Chart → List ℕ
numbered_nodes c = filter (is_numbered c) (range 0 (size c))

-- the numbered stops have 2, 3, .., all other nodes 0 in scheme 1 and 1 elsewhere; of these only Begin and End are read as labels
unfoldable pub label : Chart → ℕ → ℕ
label c v = if is_numbered c v then 2 + count (is_numbered c) 0 v else if scheme c v == 1 then 0 else 1

-- the label where performing scheme h starts
abbrev pub entry : Chart → ℕ → ℕ
entry c h = label c (start c h)

-- a label that calls nothing and puts nothing out, of scheme h
abbrev pub bare_label : ℕ → Label
bare_label h = record { kind = PLAIN; called = 0; owner = h; result = 0; mask = 0 }

-- what the label of a numbered stop holds, by the kind of its node
abbrev pub label_as : Chart → ℕ → Kind → Label
label_as c v Begin = bare_label (scheme c v)
label_as c v End = bare_label (scheme c v)
label_as c v Operation = record {
  kind = if argument c v == 0 then PLAIN else OPERATION_CALL;
  called = argument c v;
  owner = scheme c v;
  result = result c v;
  mask = mask c v;
}
label_as c v Condition = bare_label (scheme c v)
label_as c v Function = record { kind = FUNCTION_CALL; called = argument c v; owner = scheme c v; result = 0; mask = 0 }
label_as c v Unknown = bare_label (scheme c v)

abbrev pub stop_label : Chart → ℕ → Label
stop_label c v = label_as c v (kind_of (kind c v))
