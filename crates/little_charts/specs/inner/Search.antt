-- A search for little charts, record by record: where no accepted chart begins with the records so far, it goes no further.
use Rattle.std.specs.Prelude.{ℕ, zero, suc, ◌+◌, ◌*◌, ◌-◌, ◌/◌, ◌%◌, Bool, true, false, ◌&&◌, ◌||◌, not, List, [], ◌∷◌, ◌++◌, nat_lt, nat_le, ◌==◌, flat_map}
use Rattle.std.specs.Prelude.{if◌then◌else◌}
use Rattle.words.specs.lists.Numbers.{range, any}
use Rattle.text.specs.frames.Frame.{size}
use Rattle.charts.specs.declared.layout.TheConstants.{BEGIN, END, CONDITION}
use Rattle.charts.specs.Chart.{Chart, next0, next1, is}
use Rattle.charts.specs.Check.{chart_verdict}
use Rattle.little_charts.specs.Little.{begin_node, end_node, operation_node, condition_node, is_fine}

-- ---- the records by number: Begins, the End, operations, conditions
abbrev pub node_count : ℕ → ℕ
node_count n = n * n + 3 * n + 1

abbrev pub operation_at : ℕ → List ℕ
operation_at i = operation_node (i / 2) (i % 2)

abbrev pub condition_at : ℕ → ℕ → List ℕ
condition_at n i = condition_node (i / n) (i % n)

unfoldable pub node_at : ℕ → ℕ → List ℕ
node_at n i =
    if nat_lt i n then begin_node i
    else if i == n then end_node
    else if nat_lt i (3 * n + 1) then operation_at (i - (n + 1))
    else condition_at n (i - (3 * n + 1))

-- ---- what the first records rule out
-- a node below v is of kind k
abbrev pub has_kind : Chart → ℕ → ℕ → Bool
has_kind c k v = any (is c k) 0 v

-- an arc of node u leads to t
abbrev pub has_arc_to : Chart → ℕ → ℕ → Bool
has_arc_to c u t = not (is c END u) && (next0 c u == t || (is c CONDITION u && next1 c u == t))

-- node v is a Begin that an arc of node u leads to
abbrev pub has_arc_to_begin : Chart → ℕ → ℕ → Bool
has_arc_to_begin c u v = is c BEGIN v && has_arc_to c u v

-- one of v and u is a Begin that an arc of the other leads to
abbrev pub is_clash : Chart → ℕ → ℕ → Bool
is_clash c v u = has_arc_to_begin c u v || has_arc_to_begin c v u

-- node v is a second End, or a condition with an arc to itself
abbrev pub is_repeat : Chart → ℕ → Bool
is_repeat c v = (is c END v && has_kind c END v) || (is c CONDITION v && has_arc_to c v v)

-- node v is such a one, or clashes with one up to it
unfoldable pub is_barred_node : Chart → ℕ → Bool
is_barred_node c v = is_repeat c v || any (is_clash c v) 0 (v + 1)

-- node u is another one than v, and an arc of it leads there
abbrev pub is_other_leading_to : Chart → ℕ → ℕ → Bool
is_other_leading_to c v u = not (u == v) && has_arc_to c u v

-- node v is no Begin, and no arc of another node leads to it
abbrev pub is_lonely : Chart → ℕ → Bool
is_lonely c v = not (is c BEGIN v) && not (any (is_other_leading_to c v) 0 (size c))

-- 1 where no node below v is of kind k
abbrev pub absent_count : Chart → ℕ → ℕ → ℕ
absent_count c k v = if has_kind c k v then 0 else 1

-- how many of Begin and End are still to come
abbrev pub missing_ends : Chart → ℕ → ℕ
missing_ends c v = absent_count c BEGIN v + absent_count c END v

-- the number of the first record to try at place v of n: no second Begin
abbrev pub first_tried : ℕ → Chart → ℕ → ℕ
first_tried n c v = if has_kind c BEGIN v then n else 0

-- the number after the last one: where all places are needed for them, Begin and End alone
abbrev pub past_last : ℕ → Chart → ℕ → ℕ
past_last n c v = if nat_le (n - v) (missing_ends c v) then n + 1 else node_count n

-- ---- the search: the accepted charts that begin with the records c and have m more
unfoldable pub searched_charts : ℕ → ℕ → Chart → List Chart
searched_charts n zero c =
    elim (any (is_lonely c) 0 (size c)) [ true ↦ [] | false ↦ elim (is_fine (chart_verdict c)) [ true ↦ c ∷ [] | false ↦ [] ] ]
searched_charts n (suc m) c =
    flat_map (λ i. let d = c ++ node_at n i in elim (is_barred_node d (size c)) [ true ↦ [] | false ↦ searched_charts n m d ])
    (range (first_tried n c (size c)) (past_last n c (size c) - first_tried n c (size c)))
