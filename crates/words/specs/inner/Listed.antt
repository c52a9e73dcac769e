-- Nodes marked one after the other, and marked nodes in a list: one listed as it is marked, and all of them, the lowest first.
use Rattle.std.specs.Prelude.{ℕ, ◌+◌, ◌<◌, ◌≡◌, Bool, true, not, ◌&&◌, List, [], ◌∷◌, length, set, if◌then◌else◌, nat_lt, slice_index, filter}
use Rattle.words.specs.lists.Numbers.{range, count}
use Rattle.words.specs.graph.Reach.{is_marked}

-- how many are marked
abbrev pub many : List Bool → ℕ
many ms = count (is_marked ms) 0 (length ms)

-- all of these are marked, where they are nodes
unfoldable pub mark_all : List ℕ → List Bool → List Bool
mark_all [] ms = ms
mark_all (u ∷ us) ms = mark_all us (set ms u true)

-- marks, a list of nodes, and how many of the list count
pub record Listing : Type 0 where
  pub marks : List Bool
  pub list : List ℕ
  pub count : ℕ

abbrev pub listing : List Bool → List ℕ → ℕ → Listing
listing ms us k = record { marks = ms; list = us; count = k }

-- u is a node, and has no mark
abbrev pub is_unmarked : List Bool → ℕ → Bool
is_unmarked ms u = nat_lt u (length ms) && not (is_marked ms u)

-- node u is marked, if it is one, and listed after the first that count, if it had no mark
unfoldable pub enlist : Listing → ℕ → Listing
enlist s u = record {
  marks = set s.marks u true;
  list = if is_unmarked s.marks u then set s.list s.count u else s.list;
  count = if is_unmarked s.marks u then s.count + 1 else s.count;
}

-- one node after the other
unfoldable pub enlist_all : Listing → List ℕ → Listing
enlist_all s [] = s
enlist_all s (u ∷ us) = enlist_all (enlist s u) us

-- the marked nodes, the lowest first
abbrev pub marked_nodes : List Bool → List ℕ
marked_nodes ms = filter (is_marked ms) (range 0 (length ms))

-- node v stands among the first k of a list
pub record Among (list : List ℕ) (k v : ℕ) : Type 0 where
  pub place : ℕ
  pub inside : place < k
  pub found : slice_index list place ≡ v

-- the first k of the list are the marked nodes, in any order, as many as there are
pub record Listed (marks : List Bool) (list : List ℕ) (k : ℕ) : Type 0 where
  pub counted : k ≡ many marks
  pub are : (i : ℕ) → i < k → is_marked marks (slice_index list i) ≡ true
  pub all : (v : ℕ) → is_marked marks v ≡ true → Among list k v
