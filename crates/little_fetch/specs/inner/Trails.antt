-- The search for a little chart by what is kept of the records so far.
use Rattle.std.specs.Prelude.{ℕ, zero, suc, ◌+◌, ◌*◌, ◌-◌, ◌/◌, ◌%◌, ◌^◌, Bool, false, ◌&&◌, ◌||◌, not, List, [], ◌∷◌, ◌++◌, nat_lt, nat_le, ◌==◌, flat_map}
use Rattle.std.specs.Prelude.{if◌then◌else◌, bit_and, bit_or}
use Rattle.words.specs.lists.Numbers.{range}
use Rattle.std.specs.Int.{bit_at}
use Rattle.charts.specs.Chart.{Chart}
use Rattle.little_charts.specs.inner.Search.{node_count, node_at}
use Rattle.little_fetch.specs.declared.little_nodes.Trail.{Trail}

-- ---- sets of nodes
abbrev pub arcs_by : ℕ → ℕ → ℕ → ℕ
arcs_by arcs set u = if bit_at set u == 0 then 0 else arcs / 2 ^ (4 * u) % 16

unfoldable pub arcs_from : ℕ → ℕ → ℕ
arcs_from arcs set = bit_or (bit_or (bit_or (arcs_by arcs set 0) (arcs_by arcs set 1)) (arcs_by arcs set 2)) (arcs_by arcs set 3)

unfoldable pub reached : ℕ → ℕ → ℕ
reached arcs set =
    let one = bit_or set (arcs_from arcs set) in
    let two = bit_or one (arcs_from arcs one) in
    bit_or two (arcs_from arcs two)

-- ---- a record after others
-- the nodes that record i leads to
unfoldable pub led_to : ℕ → ℕ → ℕ
led_to n i =
    if nat_lt i n then 2 ^ i
    else if i == n then 0
    else if nat_lt i (3 * n + 1) then 2 ^ ((i - (n + 1)) / 2)
    else bit_or (2 ^ ((i - (3 * n + 1)) / n)) (2 ^ ((i - (3 * n + 1)) % n))

-- a node of the set a is in the set b
abbrev pub is_shared : ℕ → ℕ → Bool
is_shared a b = not (bit_and a b == 0)

-- a Begin to which an arc leads, a second End, an arc to the Begin, a condition with an arc to itself or on a circle with another
unfoldable pub is_barred : ℕ → ℕ → Trail → ℕ → ℕ → Bool
is_barred n v t i led =
    if nat_lt i n then is_shared (bit_or led (arcs_from t.arcs 15)) (2 ^ v)
    else if i == n then not (t.end == 0)
    else if nat_lt i (3 * n + 1) then is_shared led t.begin
    else is_shared led (bit_or t.begin (2 ^ v)) || is_shared (arcs_from t.arcs (bit_and led t.conditions)) (2 ^ v)

unfoldable pub with_node : ℕ → ℕ → Trail → ℕ → ℕ → Trail
with_node n v t i led = record {
  numbers = bit_or (t.numbers * 32 % 2 ^ 32) i;
  arcs = bit_or t.arcs (led * 2 ^ (4 * v) % 2 ^ 16);
  begin = if nat_lt i n then 2 ^ v else t.begin;
  end = if i == n then 2 ^ v else t.end;
  conditions = if nat_lt (3 * n) i then bit_or t.conditions (2 ^ v) else t.conditions;
}

-- all nodes that the Begin leads to stand already, and are not all
unfoldable pub is_cut_off : ℕ → ℕ → Trail → Bool
is_cut_off n v t =
    if t.begin == 0 then false
    else nat_lt (reached t.arcs t.begin) (2 ^ (v + 1)) && nat_lt (reached t.arcs t.begin + 1) (2 ^ n)

-- ---- the search
abbrev pub absent : ℕ → ℕ
absent set = if set == 0 then 1 else 0

-- the first number to try, and the number after the last one
abbrev pub first_number : ℕ → Trail → ℕ
first_number n t = if t.begin == 0 then 0 else n

abbrev pub past_number : ℕ → ℕ → Trail → ℕ
past_number n v t = if nat_le (n - v) (absent t.begin + absent t.end) then n + 1 else node_count n

abbrev pub start : Trail
start = record { numbers = 0; arcs = 0; begin = 0; end = 0; conditions = 0 }

-- the numbers of all charts that begin so and have m more records
unfoldable pub trails : ℕ → ℕ → Trail → List ℕ
trails n zero t = t.numbers ∷ []
trails n (suc m) t =
    let v = n - suc m in
    flat_map (λ i.
    if is_barred n v t i (led_to n i) then []
    else if is_cut_off n v (with_node n v t i (led_to n i)) then []
    else trails n m (with_node n v t i (led_to n i)))
    (range (first_number n t) (past_number n v t - first_number n t))

-- the records of v numbers, five bits each
unfoldable pub unpacked : ℕ → ℕ → ℕ → Chart
unpacked n zero numbers = []
unpacked n (suc v) numbers = unpacked n v (numbers / 32) ++ node_at n (numbers % 32)

-- how many charts of n frames begin with record i
abbrev pub is_among : ℕ → ℕ → ℕ → Bool
is_among i low high = nat_le low i && nat_le i high

unfoldable pub charts_after : ℕ → ℕ → ℕ
charts_after n i =
    if n == 2 then (if is_among i 1 2 then 1 else 0)
    else if n == 3 then (if is_among i 1 2 then 3 else if i == 3 then 6 else if is_among i 6 9 || (i == 14 || i == 18) then 1 else 0)
    else if is_among i 1 3 then 54 else if i == 4 then 162 else if is_among i 5 6 then 12 else if is_among i 7 12 then 24
    else if i == 18 || (i == 23 || i == 28) then 16
    else if is_among i 19 20 || (i == 22 || (i == 24 || is_among i 26 27)) then 18 else 0
