-- What is answered for a frame count and a number, case by case.
use Rattle.std.proofs.Common.{ℕ, zero, suc, ◌*◌, ◌/◌, ◌%◌, ◌≤◌, ◌<◌, Bool, true, false, ◌||◌, ◌≡◌, refl, sym, ◌∙◌, ap, subst, List, [], map, arith, nat_lt, nat_le, slice_index_or}
use Rattle.std.proofs.Common.{length, length-append, take, length-take-le, le-leb, ltb-false, le-ltb, Result, Ok, Err}
use Rattle.std.specs.Result.{result_unwrap_or}
use borrow.Author.Tests.{lt-leb}
use Rattle.std.proofs.Math.Decide.{ℕ_discrete}
use Rattle.std.proofs.lemmas.List.{get_or-map, length-map}
use Rattle.std.proofs.lemmas.Grind.{common_steps}
use Rattle.words.specs.lists.Sequences.{written}
use Rattle.words.proofs.lists.Written.{written-front}
use Rattle.text.specs.frames.Frame.{size, text_of}
use Rattle.text.specs.frames.Verdict.{fine, when}
use Rattle.text.specs.frames.Answer.{GivesBuffer}
use Rattle.text.specs.declared.frames.refusals.Refusal.TheVariants.{NoRoom, NoLittleChart}
use Rattle.text.proofs.frames.Lent.{lent-err, lent-short, lent-done}
use Rattle.text.proofs.frames.TextLoops.{length-text}
use Rattle.charts.specs.Chart.{Chart}
use Rattle.little_charts.specs.Little.{little_charts, little_text, little_verdict, little_chart}
use Rattle.little_charts.specs.Promises.{little_total}
use Rattle.little_charts.specs.inner.Search.{node_at}
use Rattle.little_charts.proofs.little_search.Same.{search-lists}
use Rattle.little_charts.proofs.little_totals.Totals.{total-two, total-three, total-four}
use Rattle.little_fetch.specs.inner.SeekContracts.{sought, total}
use Rattle.little_fetch.specs.inner.Trails.{start, trails, unpacked}
use Rattle.little_fetch.proofs.little_seek.Computed.{found-two, found-three, found-four}
use Rattle.little_fetch.proofs.little_seek.Counted.{by-count}
use Rattle.little_fetch.proofs.little_seek.Turns.{sought-low}
use Rattle.little_fetch.proofs.fetching.Unpacking.{node-ten}

pub long-unpacked : (n v numbers : ℕ) → length (unpacked n v numbers) ≡ 10 * v
unfolding unpacked
long-unpacked n zero numbers = refl
long-unpacked n (suc v) numbers =
    omega (arith, length-append (unpacked n v (numbers / 32)) (node_at n (numbers % 32)), long-unpacked n v (numbers / 32), node-ten n (numbers % 32))

-- ---- how many there are
module _ (n : ℕ) where
  pub total-is : 2 ≤ n → n ≤ 4 → total n ≡ little_total n
  total-is = by-count (λ m. total m ≡ little_total m) (sym total-two) (sym total-three) (sym total-four) n

  pub in-range : 0 < total n → (2 ≤ n) × (n ≤ 4)
  in-range l = go (ℕ_discrete n 2) (ℕ_discrete n 3) (ℕ_discrete n 4)
    where
      go : Dec (n ≡ 2) → Dec (n ≡ 3) → Dec (n ≡ 4) → (2 ≤ n) × (n ≤ 4)
      go (yes e) b d = (omega (arith, e), omega (arith, e))
      go (no a) (yes e) d = (omega (arith, e), omega (arith, e))
      go (no a) (no b) (yes e) = (omega (arith, e), omega (arith, e))
      go (no a) (no b) (no d) = grind (arith, common_steps)

-- the records lent are as many as there are frames
pub number-low : (n k : ℕ) → (rs : List ℕ) → k < total n → length rs ≡ 40 → k < little_total (size (take (10 * n) rs))
number-low n k rs l m =
    let r : (2 ≤ n) × (n ≤ 4) = in-range n (omega (arith, l)) in
    let s : size (take (10 * n) rs) ≡ n = omega (arith, r.0, r.1, length-take-le (10 * n) rs (omega (arith, r.1, m))) in
    subst (λ (j : ℕ). k < little_total j) (sym s) (omega (arith, l, total-is n r.0 r.1))

module _ (n k : ℕ) (old : List ℕ) where
  verdict-by : (t : Bool) → (nat_lt n 2 || nat_lt 4 n || nat_le (little_total n) k) ≡ t → little_verdict n k ≡ when 24 t
  unfolding little_verdict
  verdict-by t e = grind (arith, common_steps)

  past : total n ≤ k → (nat_lt n 2 || nat_lt 4 n || nat_le (little_total n) k) ≡ true
  past l = go (nat_lt n 2) (nat_lt 4 n) refl refl
    where
      go : (a b : Bool) → nat_lt n 2 ≡ a → nat_lt 4 n ≡ b → (nat_lt n 2 || nat_lt 4 n || nat_le (little_total n) k) ≡ true
      go true b e f = grind (arith, common_steps)
      go false true e f = grind (arith, common_steps)
      go false false e f =
          let t : total n ≡ little_total n = total-is n (ltb-false n 2 e) (ltb-false 4 n f) in
          let q : nat_le (little_total n) k ≡ true = le-leb (little_total n) k (subst (λ (m : ℕ). m ≤ k) t l) in
          grind (arith, common_steps)

  pub past-total : total n ≤ k → GivesBuffer (little_chart n k old) (Err NoLittleChart) old
  unfolding little_chart
  past-total l = lent-err (little_verdict n k) 1 (λ _. little_text n k) old NoLittleChart (verdict-by true (past l), refl)

  -- ---- a chart's own number
  module _ (some : 2 ≤ n) (few : n ≤ 4) (low : k < little_total n) where
    accepted : little_verdict n k ≡ fine
    accepted = verdict-by false (grind (arith, common_steps, le-ltb n 2 some, le-ltb 4 n few, lt-leb (little_total n) k low))

    listed : map (unpacked n n) (trails n n start) ≡ little_charts n
    listed = by-count (λ m. map (unpacked m m) (trails m m start) ≡ little_charts m)
        (found-two ∙ search-lists 2 (omega arith) (omega arith)) (found-three ∙ search-lists 3 (omega arith) (omega arith))
        (found-four ∙ search-lists 4 (omega arith) (omega arith)) n some few

    there : k < length (trails n n start)
    there = omega (arith, low, length-map (trails n n start) (unpacked n n), ap length listed)

    module _ (r : Result ℕ ℕ) (s : r ≡ sought (trails n n start) k) (numbers : ℕ) (u : numbers ≡ result_unwrap_or r 0) (rs : List ℕ)
        (made : rs ≡ unpacked n n numbers) where
      text-is : text_of rs ≡ little_text n k
      text-is =
          let x : numbers ≡ slice_index_or (trails n n start) k 0 =
          u ∙ ap (λ (q : Result ℕ ℕ). result_unwrap_or q 0) (s ∙ sought-low (trails n n start) k there) in
          ap text_of (made ∙ ap (unpacked n n) x
          ∙ sym (get_or-map (unpacked n n) (trails n n start) k 0 [] there)
          ∙ ap (λ (xs : List Chart). slice_index_or xs k []) listed)

      module _ (count : ℕ) (c : count ≡ 23 * n) (m : length rs ≡ 10 * n) where
        text-long : count ≡ length (little_text n k)
        text-long = omega (arith, c, m, length-text rs, ap length text-is)

        pub fetched : count ≤ length old → (out : List ℕ) → out ≡ written old 0 (text_of rs) → GivesBuffer (little_chart n k old) (Ok count) out
        unfolding little_chart
        fetched l out w = grind (arith, common_steps, lent-done, written-front, accepted, text-is, text-long)

    text-long-of : length (little_text n k) ≡ 23 * n
    text-long-of =
        let i : ℕ = slice_index_or (trails n n start) k 0 in
        let t : text_of (unpacked n n i) ≡ little_text n k = text-is (Ok i) (sym (sought-low (trails n n start) k there)) i refl (unpacked n n i) refl in
        omega (arith, ap length t, length-text (unpacked n n i), long-unpacked n n i)

    pub too-short : (count : ℕ) → count ≡ 23 * n → length old < count → GivesBuffer (little_chart n k old) (Err NoRoom) old
    unfolding little_chart
    too-short count c l = grind (arith, common_steps, lent-short, accepted, text-long-of)
