-- The steps of the functions on nodes, at plain values.
use Rattle.std.proofs.Common.{◌≡◌, sym, ◌∙◌, ap, List, map, false, ℕ, ◌*◌, ◌-◌, ◌+◌, ◌≤◌, ◌<◌, arith, length, set, length-set, ◌==◌}
use Rattle.std.proofs.Common.{slice_index}
use Rattle.std.proofs.Common.{get_or-set_same, get_or-set_other, eq-eqb, ne_eqb}
use Rattle.std.proofs.lemmas.Grind.{common_steps}
use Rattle.words.specs.lists.Numbers.{lowest, range}
use Rattle.words.specs.lists.Sequences.{written}
use Rattle.words.proofs.lists.Ranges.{length-map-range, get_or-map-range}
use Rattle.words.proofs.lists.Written.{written-length}
use Rattle.words.proofs.lists.Searches.{lowest-here, lowest-on, lowest-over, lowest-none, lowest-start, Searching, searching-first}
use Rattle.words.proofs.lists.Searches.{searching-found, searching-next, searching-over}
use Rattle.words.proofs.lists.Tests.{and-true, and-no, and-second, and-first}
use Rattle.text.specs.frames.Frame.{size}
use Rattle.charts.specs.Chart.{Chart, kind, scheme, schemes, next0, is, is_of, begin, node_of}
use Rattle.walk.specs.Stops.{is_stop}
use Rattle.chart_rows.specs.inner.ChartContracts.{Ready, Begun}
use Rattle.chart_rows.proofs.Parts.{written-is, part-within}
use Rattle.chart_rows.proofs.chart_labels.ReadyLaws.{ready-facts}
use Rattle.walk.proofs.Follow.{stops-begin, stops-condition, stops-other}
use Rattle.std.proofs.lemmas.Bool.Decides.{nat_tests}

-- a list with one place set
ruleset set_places = (length-set, get_or-set_same, get_or-set_other)

-- ---- the search for the Begin of scheme h
pub search-start : (c : Chart) (h : ℕ) → Searching (is_of c 0 h) (size c) 0 (begin c h)
unfolding node_of
search-start c h = searching-first (is_of c 0 h) (size c)

pub ruleset begin_search = (search-start, searching-found, searching-next, searching-over)

-- ---- the Begins of all schemes: of each that has one from node v on, the lowest is noted
pub record Noting (c : Chart) (old begins : List ℕ) (n v : ℕ) : Type 0 where
  pub within : v ≤ n
  pub all : n ≡ size c
  pub long : length begins ≡ 17
  pub kept : (h : ℕ) → n ≤ lowest (is_of c 0 h) v (n - v) → slice_index begins h ≡ slice_index old h
  pub noted : (h : ℕ) → lowest (is_of c 0 h) v (n - v) < n → slice_index begins h ≡ lowest (is_of c 0 h) v (n - v)

pub noting-start : (c : Chart) (begins : List ℕ) → length begins ≡ 17 → Noting c begins begins (size c) (size c)
noting-start c begins l = grind (arith, common_steps, lowest-over)

module _ (c : Chart) (old begins : List ℕ) (n v : ℕ) (s : Noting c old begins n v) (w : ℕ) (e : v ≡ w + 1) where
  -- node w is not the Begin of scheme h, and the search goes on behind it
  skip : (h : ℕ) → is_of c 0 h w ≡ false → lowest (is_of c 0 h) w (n - w) ≡ lowest (is_of c 0 h) v (n - v)
  skip h t = lowest-on (is_of c 0 h) n w (omega (arith, s.within)) t ∙ ap (λ (j : ℕ). lowest (is_of c 0 h) j (n - j)) (sym e)

  pub noting-other : (k : ℕ) → k ≡ kind c w → (k ≡ 0 → ⊥) → Noting c old begins n w
  noting-other k ek z = grind (arith, common_steps, ne_eqb, skip)

  pub noting-begin : (k g : ℕ) → k ≡ kind c w → k ≡ 0 → g ≡ scheme c w → g < 17 → Noting c old (set begins g w) n w
  noting-begin k g ek z eg l =
      grind (arith, common_steps, nat_tests, set_places, and-true, and-no, eq-eqb, ne_eqb, lowest-here, skip)

-- a node of a scheme, were it above the largest
no-scheme : (c : Chart) → Ready c → (h : ℕ) → (1 ≤ h → h ≤ schemes c → ⊥) → size c ≤ lowest (is_of c 0 h) 0 (size c)
no-scheme c ready h out =
    let none : lowest (is_of c 0 h) 0 (size c) ≡ 0 + size c = lowest-none (is_of c 0 h) 0 (size c) (λ k l. other k l) in
    omega arith
  where
    other : (k : ℕ) → k < size c → is_of c 0 h (0 + k) ≡ false
    other k l =
        let owned = (ready-facts ready).owned (0 + k) (omega arith) in
        and-no (is c 0 (0 + k)) (scheme c (0 + k) == h)
        (ne_eqb (scheme c (0 + k)) h (λ e. out (omega (arith, owned.0)) (omega (arith, owned.1))))

module _ (c : Chart) (ready : Ready c) (old begins : List ℕ) (long : length old ≡ 17) where
  noted-long : length (map (begin c) (range 1 (schemes c))) ≡ schemes c
  noted-long = length-map-range (begin c) 1 (schemes c)

  pub noting-done : (n v : ℕ) → Noting c old begins n v → v ≤ 0 → begins ≡ written old 1 (map (begin c) (range 1 (schemes c)))
  unfolding node_of
  noting-done n v s z =
      written-is old (map (begin c) (range 1 (schemes c))) 1 (omega (arith, noted-long, (ready-facts ready).most))
      begins (s.long ∙ sym long)
      (λ k l. let f = ((ready-facts ready).begins (1 + k) (omega arith) (omega (arith, noted-long))).0 in
      s.noted (1 + k) (omega (arith, whole (1 + k), s.all)) ∙ whole (1 + k)
      ∙ sym (get_or-map-range (begin c) 0 1 (schemes c) k (omega (arith, noted-long))))
      (λ k out. s.kept k (omega (arith, whole k, s.all, no-scheme c ready k (λ a b. out a (omega (arith, noted-long))))))
    where
      whole : (h : ℕ) → lowest (is_of c 0 h) v (n - v) ≡ lowest (is_of c 0 h) 0 (size c)
      whole h =
          let v0 : v ≡ 0 = omega arith in
          ap (λ (j : ℕ). lowest (is_of c 0 h) j (n - j)) v0 ∙ lowest-start (is_of c 0 h) n ∙ ap (lowest (is_of c 0 h) 0) s.all

  -- what the functions that read them ask
  pub begun : begins ≡ written old 1 (map (begin c) (range 1 (schemes c))) → Begun c begins
  begun e = record {
    long = ap (λ (xs : List ℕ). length xs) e ∙ written-length old 1 (map (begin c) (range 1 (schemes c))) room ∙ long;
    at = λ h a b.
        let j : 1 + (h - 1) ≡ h = omega arith in
        ap (λ (xs : List ℕ). slice_index xs h) e
        ∙ ap (λ (i : ℕ). slice_index (written old 1 (map (begin c) (range 1 (schemes c)))) i) (sym j)
        ∙ part-within old (map (begin c) (range 1 (schemes c))) 1 room (h - 1) (omega (arith, noted-long))
        ∙ get_or-map-range (begin c) 0 1 (schemes c) (h - 1) (omega arith) ∙ ap (begin c) j;
  }
    where
      room : 1 + length (map (begin c) (range 1 (schemes c))) ≤ length old
      room = omega (arith, noted-long, (ready-facts ready).most)

-- ---- stops
pub begin-asks : (c : Chart) → Ready c → (v k : ℕ) → v < size c → k ≡ kind c v → k ≡ 0
    → (10 * v + 3 < length c) × (10 * next0 c v < length c)
begin-asks c ready v k l e z = grind (arith, common_steps, ready-facts)

module _ (c : Chart) (v k s first : ℕ) (ek : k ≡ kind c v) (three : k ≡ 3) (es : s ≡ scheme c v) (f : first ≡ next0 c (begin c 1)) where
  pub condition-second : s ≡ 1 → (first == v) ≡ is_stop c v
  condition-second o = grind (arith, common_steps, eq-eqb, and-second, stops-condition)

  pub condition-first : (s ≡ 1 → ⊥) → (s == 1) ≡ is_stop c v
  condition-first o = grind (arith, common_steps, ne_eqb, stops-condition, and-first)

pub ruleset stopping = (stops-begin, stops-other, condition-second, condition-first)

pub first-asks : (c : Chart) → Ready c → (v : ℕ) → v ≡ begin c 1 → 10 * v + 3 < length c
first-asks c ready v e = let F = ready-facts ready in omega (arith, ready.whole, (F.begins 1 (omega arith) F.first).0)
