-- Why a chart is refused: refusals 4 to 9 and 19.
use Rattle.std.specs.Prelude.{ℕ, ◌-◌, Bool, true, false, ◌&&◌, ◌||◌, not, List, [], ◌∷◌, if◌then◌else◌, nat_lt, nat_le, ◌==◌}
use Rattle.words.specs.lists.Numbers.{any, count}
use Rattle.std.specs.List.{list_any}
use Rattle.words.specs.graph.Reach.{is_marked, nodes_joined_from}
use Rattle.text.specs.declared.frames.sizes.TheConstants.{RECORD, SCHEMES}
use Rattle.text.specs.declared.frames.refusals.TheConstants.{BAD_FIELD, BAD_SCHEME, BAD_ARC, BAD_CALL, CIRCLE, CUT_OFF, BAD_MARKS}
use Rattle.text.specs.frames.Frame.{size, field}
use Rattle.text.specs.frames.Verdict.{Verdict, next, when, at_lowest}
use Rattle.charts.specs.declared.layout.TheConstants.{BEGIN, END, CONDITION, ARGUMENT, NEXT1, RESULT}
use Rattle.charts.specs.Layout.{Kind, Begin, End, Operation, Condition, Function, Unknown, kind_of}
use Rattle.charts.specs.Chart.{Chart, kind, scheme, argument, next0, next1, result, is, is_of, is_handler_mark, handler_at, schemes, begin}

-- 4. A byte of i to 9 is not 0.
abbrev pub is_filled_from : Chart → ℕ → ℕ → Bool
is_filled_from c v i = any (λ k. not (field c v k == 0)) i (RECORD - i)

-- By the kind: a byte that it has no use for is not 0, or a Begin's mark, a condition's number or an operation's result is too large.
abbrev pub has_bad_use : Chart → ℕ → Kind → Bool
has_bad_use c v Begin = nat_lt 1 (argument c v) || is_filled_from c v NEXT1
has_bad_use c v End = is_filled_from c v ARGUMENT
has_bad_use c v Operation = not (next1 c v == 0) || nat_lt 2 (result c v)
has_bad_use c v Condition = nat_lt 15 (argument c v) || is_filled_from c v RESULT
has_bad_use c v Function = is_filled_from c v RESULT
has_bad_use c v Unknown = true

-- a scheme outside 1 to 16, or a byte that the kind does not allow
unfoldable pub has_bad_field : Chart → ℕ → Bool
has_bad_field c v = scheme c v == 0 || nat_lt SCHEMES (scheme c v) || has_bad_use c v (kind_of (kind c v))

-- 5. Scheme h has not exactly one Begin and one End.
abbrev pub is_bad_scheme : Chart → ℕ → Bool
is_bad_scheme c h = not (count (is_of c BEGIN h) 0 (size c) == 1 && count (is_of c END h) 0 (size c) == 1)

-- 19. Scheme 1 is marked, or a scheme beside one marked before.
abbrev pub has_bad_marks : Chart → Bool
has_bad_marks c = any (λ v. handler_at c v == 1) 0 (size c) || nat_lt 1 (count (is_handler_mark c) 0 (size c))

-- 6. The nodes that the arcs of a node lead to, by its kind; one that is no node, of another scheme or a Begin.
abbrev pub arcs_as : Chart → ℕ → Kind → List ℕ
arcs_as c v Begin = next0 c v ∷ []
arcs_as c v End = []
arcs_as c v Operation = next0 c v ∷ []
arcs_as c v Condition = next0 c v ∷ next1 c v ∷ []
arcs_as c v Function = next0 c v ∷ next1 c v ∷ []
arcs_as c v Unknown = next0 c v ∷ []

-- the nodes that the arcs of node v lead to
abbrev pub arcs : Chart → ℕ → List ℕ
arcs c v = arcs_as c v (kind_of (kind c v))

-- node u is none, of another scheme than v, or a Begin
abbrev pub is_bad_target : Chart → ℕ → ℕ → Bool
is_bad_target c v u = nat_le (size c) u || not (scheme c u == scheme c v) || is c BEGIN u

-- one of them is none to lead to
abbrev pub has_bad_arc : Chart → ℕ → Bool
has_bad_arc c v = list_any (is_bad_target c v) (arcs c v)

-- 7. By the kind: a call of scheme 1 or of one above H, or of 0 by a function.
abbrev pub has_bad_call_as : Chart → ℕ → Kind → Bool
has_bad_call_as c v Begin = false
has_bad_call_as c v End = false
has_bad_call_as c v Operation = argument c v == 1 || nat_lt (schemes c) (argument c v)
has_bad_call_as c v Condition = false
has_bad_call_as c v Function = nat_le (argument c v) 1 || nat_lt (schemes c) (argument c v)
has_bad_call_as c v Unknown = false

-- what node v calls is none to call
abbrev pub has_bad_call : Chart → ℕ → Bool
has_bad_call c v = has_bad_call_as c v (kind_of (kind c v))

-- 8. A condition that arcs of conditions lead back to.
abbrev pub condition_arcs : Chart → ℕ → List ℕ
condition_arcs c v = if is c CONDITION v then arcs c v else []

-- condition v, where marks spread along conditions come back
abbrev pub is_on_circle : Chart → ℕ → Bool
is_on_circle c v = is c CONDITION v && is_marked (nodes_joined_from (size c) (condition_arcs c) (arcs c v)) v

-- 9. A node to which no arcs lead from its scheme's Begin.
abbrev pub is_cut_off : Chart → ℕ → Bool
is_cut_off c v = not (is_marked (nodes_joined_from (size c) (arcs c) (begin c (scheme c v) ∷ [])) v)

-- in the order in which they are tried
unfoldable pub chart_verdict : Chart → Verdict
chart_verdict c =
    next (at_lowest BAD_FIELD (has_bad_field c) (size c)) λ _.
    next (when BAD_SCHEME (any (is_bad_scheme c) 1 (schemes c))) λ _.
    next (when BAD_MARKS (has_bad_marks c)) λ _.
    next (at_lowest BAD_ARC (has_bad_arc c) (size c)) λ _.
    next (at_lowest BAD_CALL (has_bad_call c) (size c)) λ _.
    next (at_lowest CIRCLE (is_on_circle c) (size c)) λ _.
    at_lowest CUT_OFF (is_cut_off c) (size c)
