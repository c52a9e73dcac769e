-- The search finds just the little charts, in their order.
use Rattle.std.proofs.Common.{if◌then◌else◌, ℕ, zero, suc, ◌+◌, ◌*◌, ◌-◌, ◌≤◌, ◌<◌, Bool, true, false, ◌&&◌, ◌≡◌, refl, sym, ◌∙◌, ap}
use Rattle.std.proofs.Common.{nat_lt, nat_le, ◌==◌, slice_index, flat_map, filter}
use Rattle.std.proofs.Common.{subst, List, [], ◌∷◌, ◌++◌, map, append_assoc, append-nil, arith, length}
use Rattle.std.proofs.Common.{get_or-append-add, eqb-true, leb-true, lt-ltb}
use Rattle.std.proofs.lemmas.Grind.{common_steps}
use Rattle.words.specs.lists.Numbers.{range, any}
use Rattle.std.specs.List.{AllByRecursion}
use Rattle.std.proofs.lemmas.Bool.{cond-true}
use Rattle.words.proofs.lists.Tests.{no_both, and-l, and-r}
use Rattle.words.proofs.lists.Searches.{any-none}
use Rattle.words.proofs.lists.Ranges.{filter-yes, filter-no}
use Rattle.words.proofs.lists.Joins.{all-of, all-map, length-concat, concat-append, concat-map, concat-alike}
use Rattle.words.proofs.lists.Filters.{filter-none}
use Rattle.words.proofs.lists.Elements.{filter-nothing, map-map, map-alike, filter-concat, concat-each, concat-within}
use Rattle.text.specs.frames.Frame.{size}
use Rattle.text.specs.frames.Verdict.{fine}
use Rattle.text.proofs.frames.Frames.{Frame}
use Rattle.charts.specs.Chart.{Chart, kind, scheme}
use Rattle.charts.specs.Check.{chart_verdict}
use Rattle.charts.proofs.Accepted.{sound}
use Rattle.little_charts.specs.Little.{is_little_node, nodes, lists_of, chart_of, is_fine, little_charts}
use Rattle.little_charts.proofs.Members.{In, in-map, in-range, in-all}
use Rattle.little_charts.proofs.Nodes.{Fine, nodes-fine}
use Rattle.little_charts.proofs.Listing.{MadeOf, lists-made, made-formed, made-frames, chart-size, passes-fine}
use Rattle.little_charts.specs.inner.Search.{node_count, node_at, has_kind, is_barred_node, is_lonely, missing_ends}
use Rattle.little_charts.specs.inner.Search.{first_tried, past_last, searched_charts}
use Rattle.little_charts.proofs.little_search.Ruled.{Plain, not-lonely, not-barred, no-second, needed}
use Rattle.little_charts.proofs.little_search.Alike.{SameFields, front-alike, barred-alike, has-alike, missing-alike}

abbrev ok : Chart → Bool
ok c = is_fine (chart_verdict c)

-- ---- the records by number
pub nodes-at : (n : ℕ) → 2 ≤ n → n ≤ 4 → nodes n ≡ map (node_at n) (range 0 (node_count n))
unfolding nodes node_at
nodes-at zero a b = absurd (omega arith)
nodes-at (suc zero) a b = absurd (omega arith)
nodes-at (suc (suc zero)) a b = refl
nodes-at (suc (suc (suc zero))) a b = refl
nodes-at (suc (suc (suc (suc zero)))) a b = refl
nodes-at (suc (suc (suc (suc (suc n))))) a b = absurd (omega arith)

-- low numbers are Begins, those after the End are neither Begin nor End
pub low-kind : (n i : ℕ) → i < n → slice_index (node_at n i) 0 ≡ 0
unfolding node_at
low-kind n i l = ap (λ (t : List ℕ). slice_index t 0) (cond-true (nat_lt i n) _ _ (lt-ltb i n l))

pub high-kind : (n i : ℕ) → n + 1 ≤ i → 2 ≤ slice_index (node_at n i) 0
unfolding node_at
high-kind n i l = grind (arith, common_steps)

-- the first number is no higher than that of the End, the last one no lower
pub first-low : (n : ℕ) (c : Chart) (v : ℕ) → first_tried n c v ≤ n
first-low n c v = grind (arith, common_steps)

pub past-within : (n : ℕ) (c : Chart) (v : ℕ) → (n + 1 ≤ past_last n c v) × (past_last n c v ≤ node_count n)
past-within n c v = grind (arith, common_steps)

-- ---- lists of records joined
pub chart-snoc : (gs : List (List ℕ)) (r : List ℕ) → chart_of (gs ++ (r ∷ [])) ≡ chart_of gs ++ r
chart-snoc gs r = concat-append (λ x. x) gs (r ∷ []) ∙ ap (λ (x : List ℕ). chart_of gs ++ x) (append-nil r)

made-join : (rs gs fs : List (List ℕ)) (k m : ℕ) → MadeOf rs k gs → MadeOf rs m fs → MadeOf rs (k + m) (gs ++ fs)
made-join rs gs fs k m d e = grind (arith, common_steps)

module _ (n : ℕ) (a : 2 ≤ n) (b : n ≤ 4) where
  abbrev rs : List (List ℕ)
  rs = nodes n

  made-plain : (hs : List (List ℕ)) → MadeOf rs n hs → chart_verdict (chart_of hs) ≡ fine → Plain (chart_of hs)
  made-plain hs d v =
      let c : Chart = chart_of hs in
      let s : size c ≡ n = chart-size hs (made-frames n a b hs d) ∙ d.count in
      record {
        sound = sound c v;
        some = omega arith;
        one = λ v l. (part v (made-formed n a b hs d v (omega arith))).0;
        kinds = λ v l. (part v (made-formed n a b hs d v (omega arith))).1;
      }
    where
      part : (v : ℕ) → is_little_node (chart_of hs) v ≡ true → (scheme (chart_of hs) v ≡ 1) × (kind (chart_of hs) v ≤ 3)
      part v e =
          let c : Chart = chart_of hs in
          let x : Bool = scheme c v == 1 in
          let y : Bool = nat_le (kind c v) 3 in
          let q : (x && y) ≡ true = and-l (x && y) _ (and-l _ _ e) in
          (eqb-true (scheme c v) 1 (and-l x y q), leb-true (kind c v) 3 (and-r x y q))

  -- the accepted ones among the charts that begin with gs and have m more records
  abbrev Rest : List (List ℕ) → ℕ → List Chart
  Rest gs m = filter ok (map (λ fs. chart_of (gs ++ fs)) (lists_of rs m))

  rest-more : (gs : List (List ℕ)) (m : ℕ) → Rest gs (suc m) ≡ flat_map (λ r. Rest (gs ++ (r ∷ [])) m) rs
  unfolding lists_of
  rest-more gs m = grind (arith, common_steps, append_assoc, filter-concat, map-alike, map-map, concat-each)

  refused-all : (gs : List (List ℕ)) (k m : ℕ) → k + m ≡ n → MadeOf rs k gs
      → ((fs : List (List ℕ)) → size (chart_of (gs ++ fs)) ≡ n → Plain (chart_of (gs ++ fs)) → ⊥) → Rest gs m ≡ []
  refused-all gs k m e d f = filter-nothing ok (map (λ fs. chart_of (gs ++ fs)) (lists_of rs m))
      (all-map (λ c. ok c ≡ false) (λ fs. chart_of (gs ++ fs)) (lists_of rs m)
      (all-of (MadeOf rs m) (λ fs. ok (chart_of (gs ++ fs)) ≡ false) (λ fs q. go fs q (ok (chart_of (gs ++ fs))) refl) (lists_of rs m)
      (lists-made rs m)))
    where
      go : (fs : List (List ℕ)) → MadeOf rs m fs → (t : Bool) → ok (chart_of (gs ++ fs)) ≡ t → ok (chart_of (gs ++ fs)) ≡ false
      go fs q true h =
          let x : MadeOf rs n (gs ++ fs) = subst (λ (j : ℕ). MadeOf rs j (gs ++ fs)) e (made-join rs gs fs k m d q) in
          absurd (f fs (chart-size (gs ++ fs) (made-frames n a b (gs ++ fs) x) ∙ x.count)
          (made-plain (gs ++ fs) x (passes-fine (chart_verdict (chart_of (gs ++ fs))) h)))
      go fs q false h = h

  frames-of : (gs : List (List ℕ)) → AllByRecursion (λ r. In r rs) gs → AllByRecursion Frame gs
  frames-of gs e = all-of (λ r. In r rs) Frame (λ r i. (in-all Fine r rs i (nodes-fine n a b).each).frame) gs e

  chart-long : (gs : List (List ℕ)) → AllByRecursion (λ r. In r rs) gs → length (chart_of gs) ≡ 10 * length gs
  chart-long gs e = length-concat (λ r. r) 10 gs (all-of Frame (λ r. length r ≡ 10) (λ r f. f.ten) gs (frames-of gs e))

  -- ---- record i at place v, after the records gs, and m more to come
  module _ (gs : List (List ℕ)) (v m : ℕ) (e : v + suc m ≡ n) (d : MadeOf rs v gs) where
    abbrev c : Chart
    c = chart_of gs

    c-long : length c ≡ 10 * v
    c-long = chart-long gs d.each ∙ ap (λ (k : ℕ). 10 * k) d.count

    c-size : size c ≡ v
    c-size = omega (arith, c-long)

    module _ (i : ℕ) (l : i < node_count n) where
      abbrev r : List ℕ
      r = node_at n i

      abbrev more : List (List ℕ)
      more = gs ++ (r ∷ [])

      r-in : In r rs
      r-in = grind (arith, common_steps, in-map, in-range, nodes-at)

      more-made : MadeOf rs (v + 1) more
      more-made = made-join rs gs (r ∷ []) v 1 d (record { each = (r-in, tt); count = refl })

      more-long : length (c ++ r) ≡ 10 * (v + 1)
      more-long = ap length (sym (chart-snoc gs r)) ∙ chart-long more more-made.each ∙ ap (λ (k : ℕ). 10 * k) more-made.count

      module _ (fs : List (List ℕ)) where
        abbrev whole : Chart
        whole = chart_of (more ++ fs)

        whole-is : whole ≡ (c ++ r) ++ chart_of fs
        whole-is = concat-append (λ x. x) more fs ∙ ap (λ (x : Chart). x ++ chart_of fs) (chart-snoc gs r)

        more-alike : SameFields (c ++ r) whole (v + 1)
        more-alike = grind (arith, common_steps, front-alike, more-long, whole-is)

        first-alikes : SameFields c whole v
        first-alikes = grind (arith, common_steps, front-alike, append_assoc, c-long, whole-is)

        kind-is : kind whole v ≡ slice_index r 0
        kind-is = grind (arith, common_steps, get_or-append-add, c-long, more-alike)

      no-more : ((fs : List (List ℕ)) → size (whole fs) ≡ n → Plain (whole fs) → ⊥) → Rest more m ≡ []
      no-more f = refused-all more (v + 1) m (omega arith) more-made f

      low-empty : i < first_tried n c v → Rest more m ≡ []
      low-empty h = go (has_kind c 0 v) refl h
        where
          go : (t : Bool) → has_kind c 0 v ≡ t → i < (if t then n else 0) → Rest more m ≡ []
          go true q k = no-more (λ fs s p. no-second (whole fs) p v (omega arith) (sym (has-alike c (whole fs) 0 v (first-alikes fs)) ∙ q)
              (kind-is fs ∙ low-kind n i k))
          go false q k = absurd (omega arith)

      high-empty : past_last n c v ≤ i → Rest more m ≡ []
      high-empty h = go (nat_le (n - v) (missing_ends c v)) refl h
        where
          go : (t : Bool) → nat_le (n - v) (missing_ends c v) ≡ t → (if t then n + 1 else node_count n) ≤ i → Rest more m ≡ []
          go true q k = no-more (λ fs s p. needed (whole fs) p v (omega arith)
              (let x : n - v ≤ missing_ends c v = leb-true (n - v) (missing_ends c v) q in omega
              (arith, missing-alike c (whole fs) v (first-alikes fs)))
              (subst (λ (j : ℕ). 2 ≤ j) (sym (kind-is fs)) (high-kind n i k)))
          go false q k = absurd (omega arith)

      barred-empty : is_barred_node (c ++ r) v ≡ true → Rest more m ≡ []
      barred-empty q = no-more
          (λ fs s p. no_both (is_barred_node (c ++ r) v) q
          (barred-alike (c ++ r) (whole fs) v (more-alike fs) ∙ not-barred (whole fs) p v (omega arith)))

    abbrev tried : ℕ → ℕ → List Chart
    tried w i = let x = c ++ node_at n i in elim (is_barred_node x w) [ true ↦ [] | false ↦ searched_charts n m x ]

    abbrev rest : ℕ → List Chart
    rest i = Rest (gs ++ (node_at n i ∷ [])) m

    tried-rest : ((i : ℕ) → i < node_count n → searched_charts n m (chart_of (gs ++ (node_at n i ∷ []))) ≡ rest i) → (i : ℕ)
        → i < node_count n
        → tried v i ≡ rest i
    tried-rest ih i l = grind (arith, common_steps, chart-snoc, barred-empty)

    searched-rest : ((i : ℕ) → i < node_count n → searched_charts n m (chart_of (gs ++ (node_at n i ∷ []))) ≡ rest i)
        → searched_charts n (suc m) c ≡ Rest gs (suc m)
    unfolding searched_charts
    searched-rest ih =
        let low : first_tried n c v ≤ n = first-low n c v in
        let high : (n + 1 ≤ past_last n c v) × (past_last n c v ≤ node_count n) = past-within n c v in
        ap (λ (w : ℕ). flat_map (tried w) (range (first_tried n c w) (past_last n c w - first_tried n c w))) c-size
        ∙ concat-alike (tried v) rest (first_tried n c v) (past_last n c v - first_tried n c v)
        (λ i x y. tried-rest ih i (omega (arith, low, high.0, high.1)))
        ∙ sym (concat-within rest (first_tried n c v) (past_last n c v) (node_count n) (omega (arith, low, high.0)) high.1
        (λ i x. low-empty i (omega (arith, low, high.0, high.1)) x) (λ i x y. high-empty i y x))
        ∙ sym (concat-map (λ r. Rest (gs ++ (r ∷ [])) m) (node_at n) (range 0 (node_count n)))
        ∙ ap (flat_map (λ r. Rest (gs ++ (r ∷ [])) m)) (sym (nodes-at n a b)) ∙ sym (rest-more gs m)

  leaf : (x : Chart) → (ok x ≡ true → any (is_lonely x) 0 (size x) ≡ false) → searched_charts n 0 x ≡ filter ok (x ∷ [])
  unfolding searched_charts
  leaf x f = grind (arith, common_steps, no_both, filter-none, filter-no, filter-yes)

  searched-same : (m v : ℕ) (gs : List (List ℕ)) → v + m ≡ n → MadeOf rs v gs → searched_charts n m (chart_of gs) ≡ Rest gs m
  unfolding lists_of
  searched-same zero v gs e d =
      let x : MadeOf rs n gs = subst (λ (k : ℕ). MadeOf rs k gs) (omega arith) d in
      leaf (chart_of gs) (λ q. any-none (is_lonely (chart_of gs)) 0 (size (chart_of gs))
      (λ k l. not-lonely (chart_of gs) (made-plain gs x (passes-fine (chart_verdict (chart_of gs)) q)) (0 + k) (omega arith)))
      ∙ ap (λ (hs : List (List ℕ)). filter ok (chart_of hs ∷ [])) (sym (append-nil gs))
  searched-same (suc m) v gs e d = searched-rest gs v m e d
      (λ i l. searched-same m (v + 1) (gs ++ (node_at n i ∷ [])) (omega arith) (more-made gs v m e d i l))

-- the search from no record on finds the list
pub search-lists : (n : ℕ) → 2 ≤ n → n ≤ 4 → searched_charts n n [] ≡ little_charts n
unfolding little_charts
search-lists n a b = searched-same n a b n 0 [] (omega arith) (record { each = tt; count = refl })
