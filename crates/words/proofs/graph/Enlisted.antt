-- Nodes that are enlisted: each is marked, the first of the list are the marked ones, and what stood there stays.
use Rattle.std.proofs.Common.{◌≡◌, sym, ◌∙◌, ap, subst, ◌⊎◌, inl, inr, Bool, true, false, not, List, [], ◌∷◌, ℕ, ◌+◌, ◌≤◌, nat_lt, slice_index}
use Rattle.std.proofs.Common.{◌<◌, arith, length, set, replicate, length-set, get_or-set_same, get_or-set_other, ltb-true}
use Rattle.std.proofs.Common.{lt-ltb, le-ltb}
use Rattle.std.proofs.Math.ListN.{length-replicate}
use Rattle.std.proofs.Math.Seq.{set_out, set-get_or}
use Rattle.std.proofs.lemmas.Grind.{common_steps}
use Rattle.words.proofs.lists.Tests.{no_both, and-l, and-r, and-true, and-no, not-true, cases, split}
use Rattle.words.proofs.lists.Counts.{count-le}
use Rattle.words.specs.graph.Reach.{is_marked, only_marks}
use Rattle.words.specs.inner.Listed.{many, mark_all, Listing, listing, is_unmarked, enlist, enlist_all, Among, Listed}
use Rattle.words.proofs.graph.Marking.{set-hit, set-grow, set-back, set-many, all-only}
use Rattle.words.proofs.graph.Lists.{Longer, longer-same, longer-on, listed-none}

-- ---- the first k of a list and one more
among-more : (list : List ℕ) (k v : ℕ) (x : ℕ) → Among list k v → Among (set list k x) (k + 1) v
among-more list k v x a = grind (arith, common_steps, get_or-set_other)

among-last : (list : List ℕ) (k v : ℕ) → k < length list → Among (set list k v) (k + 1) v
among-last list k v l = record { place = k; inside = omega arith; found = get_or-set_same list k v 0 l }

last-or : (list : List ℕ) (k x : ℕ) (p : ℕ → Bool) → k < length list → p x ≡ true → ((i : ℕ) → i < k → p (slice_index list i) ≡ true)
    → (i : ℕ) → i < k + 1 → p (slice_index (set list k x) i) ≡ true
last-or list k x p l m h i b = grind (arith, common_steps, get_or-set_other, get_or-set_same)

-- ---- one mark more
module _ (ms : List Bool) (u : ℕ) where
  -- a node without a mark, and the two other cases
  pub mark-new : u < length ms → is_marked ms u ≡ false → is_unmarked ms u ≡ true
  mark-new l m = and-true (nat_lt u (length ms)) (not (is_marked ms u)) (lt-ltb u (length ms) l) (rw m)

  pub mark-out : length ms ≤ u → is_unmarked ms u ≡ false
  mark-out l = rw (le-ltb u (length ms) l)

  pub mark-there : is_marked ms u ≡ true → is_unmarked ms u ≡ false
  mark-there m = and-no (nat_lt u (length ms)) (not (is_marked ms u)) (rw m)

  pub mark-same : is_unmarked ms u ≡ false → set ms u true ≡ ms
  mark-same f = grind (arith, common_steps, set_out, set-get_or, no_both, split, cases, mark-new)

  module _ (k : ℕ) (counted : k ≡ many ms) (new : is_unmarked ms u ≡ true) where
    below : u < length ms
    below = ltb-true u (length ms) (and-l (nat_lt u (length ms)) (not (is_marked ms u)) new)

    bare : is_marked ms u ≡ false
    bare = not-true (is_marked ms u) (and-r (nat_lt u (length ms)) (not (is_marked ms u)) new)

    pub list-counted : k + 1 ≡ many (set ms u true)
    list-counted = ap (λ (j : ℕ). j + 1) counted ∙ sym (set-many ms u below bare)

    pub list-room : k < length ms
    list-room = omega (arith, list-counted, count-le (is_marked (set ms u true)) 0 (length (set ms u true)), length-set ms u true)

    module _ (list : List ℕ) (fits : length ms ≤ length list) where
      pub list-new : Listed ms list k → Listed (set ms u true) (set list k u) (k + 1)
      list-new is = grind (arith, common_steps, set-grow, set-hit, set-back, among-more, among-last, last-or, below, list-counted, list-room)

      pub longer-new : Longer list (set list k u) k (k + 1)
      longer-new = record { more = omega arith; kept = λ i b. get_or-set_other list k i u 0 (λ e. omega arith) }

-- ---- what is enlisted
module _ (s : Listing) (u : ℕ) where
  pub enlist-new : is_unmarked s.marks u ≡ true → enlist s u ≡ listing (set s.marks u true) (set s.list s.count u) (s.count + 1)
  unfolding enlist
  enlist-new t = simp t

  pub enlist-same : is_unmarked s.marks u ≡ false → enlist s u ≡ s
  unfolding enlist
  enlist-same t = simp (t, mark-same s.marks u t)

  pub enlist-counted : (t : Listing) → t ≡ enlist s u → s.count ≡ many s.marks → t.count ≡ many t.marks
  enlist-counted t q e = grind (arith, common_steps, cases, list-counted, enlist-new, enlist-same)

-- nodes are enlisted one after the other: they are marked, the list has the marked nodes, and it goes on
pub record Enlisted (s : Listing) (us : List ℕ) (t : Listing) : Type 0 where
  pub marks : t.marks ≡ mark_all us s.marks
  pub listed : Listed t.marks t.list t.count
  pub longer : Longer s.list t.list s.count t.count

enlisted-one : (s : Listing) (u : ℕ) → length s.marks ≤ length s.list
    → Listed s.marks s.list s.count → Enlisted s (u ∷ []) (enlist s u)
unfolding mark_all
enlisted-one s u fits is = go (cases (is_unmarked s.marks u))
  where
    go : (is_unmarked s.marks u ≡ true) ⊎ (is_unmarked s.marks u ≡ false) → Enlisted s (u ∷ []) (enlist s u)
    go (inl t) = grind (arith, common_steps, list-new s.marks u s.count is.counted t s.list fits is, longer-new s.marks u s.count is.counted t s.list fits, enlist-new s u t)
    go (inr t) = grind (arith, common_steps, longer-same, mark-same, enlist-same)

enlist-fits : (s : Listing) (u : ℕ) → length s.marks ≤ length s.list → length (enlist s u).marks ≤ length (enlist s u).list
enlist-fits s u fits = grind (arith, common_steps, length-set, enlist-new, enlist-same)

enlisted-each : (us : List ℕ) (s : Listing) → length s.marks ≤ length s.list
    → Listed s.marks s.list s.count → Enlisted s us (enlist_all s us)
unfolding enlist_all mark_all
enlisted-each [] s fits is = grind (arith, common_steps, longer-same)
enlisted-each (u ∷ us) s fits is = grind (arith, common_steps, enlisted-each us, longer-on, enlisted-one, enlist-fits)

pub enlisted-all : (us : List ℕ) (s t : Listing) → length s.marks ≤ length s.list
    → Listed s.marks s.list s.count → t ≡ enlist_all s us → Enlisted s us t
enlisted-all us s t fits is e = subst (λ (x : Listing). Enlisted s us x) (sym e) (enlisted-each us s fits is)

-- on no marks at all
pub enlisted-first : (n : ℕ) (us : List ℕ) (ms : List Bool) (list : List ℕ) (t : Listing) → ms ≡ replicate n false → n ≤ length list
    → t ≡ enlist_all (listing ms list 0) us → (t.marks ≡ only_marks n us) × Listed t.marks t.list t.count
enlisted-first n us ms list t e fits q =
    let all : Enlisted (listing (replicate n false) list 0) us t =
    enlisted-all us (listing (replicate n false) list 0) t (omega (arith, length-replicate n false)) (listed-none n list)
    (q ∙ ap (λ (xs : List Bool). enlist_all (listing xs list 0) us) e) in
    (all.marks ∙ all-only n us, all.listed)
