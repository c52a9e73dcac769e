-- The loop over the first words of lists, turn by turn.
use Rattle.std.proofs.Common.{if◌then◌else◌, ℕ, zero, suc, Bool, true, false, ◌+◌, ◌*◌, ◌^◌, ◌≤◌, ◌<◌, ◌≡◌, sym, ◌∙◌, ap, List, Option, None, Some}
use Rattle.std.proofs.Common.{suc-mul, pow-add, arith, ◌==◌}
use Rattle.std.proofs.Math.Nat.{mul-le-mul_left, mul-le-mul_right, pow-le-pow_right}
use Rattle.std.proofs.lemmas.Grind.{common_steps}
use Rattle.words.specs.lists.Numbers.{sum}
use Rattle.words.proofs.lists.Searches.{sum-turn}
use Rattle.words.proofs.lists.Sums.{sum-none, sum-suc, sum-most}
use Rattle.image.specs.Image.{Image}
use Rattle.tables.specs.Table.{table_image}
use Rattle.state.specs.declared.State.{State as Kept}
use Rattle.state.specs.State.{State}
use Rattle.state.specs.Kept.{view}
use Rattle.ticks.specs.declared.leaving.Leaving.{Leaving}
use Rattle.ticks.specs.Tick.{MachineTick, finished, stopped, tick}
use Rattle.ticks.specs.inner.Leaves.{LeavesBy, GivesLeaving}
use Rattle.fitness.specs.Fitness.{has_bad_depth}
use Rattle.fillings.specs.Counts.{lists, count_meeting}
use Rattle.fillings.specs.declared.fill_counts.Tally.{Tally}
use Rattle.fillings.specs.inner.TallyContracts.{tally_of, all_meet, tally_sum, tally_times, last_tally, FewLists, FewMore}
use Rattle.fillings.specs.inner.Forks.{fork}
use Rattle.fillings.proofs.Lists.{lists-suc}
use Rattle.fillings.proofs.fill_counts.Shares.{share, share-few, meeting-more, last-ended, last-full, last-unmatched}
use Rattle.fillings.proofs.fill_counts.TallyTurns.{same-tally, tally-none, share_of}

-- ---- products
times-sum : (e a b : ℕ) → e * (a + b) ≡ e * a + e * b
times-sum e a b = grind arith

regrouped : (e p l : ℕ) → e * p * (1 * l) ≡ e * (l * p)
regrouped e p l = grind arith

regrouped-one : (e p f : ℕ) → e * p * f ≡ e * (p * f)
regrouped-one e p f = grind arith

exchanged : (e p l : ℕ) → e * (p * l) ≡ e * (l * p)
exchanged e p l = grind arith

-- the lists of one word more still stand within all
one-more : (e s w words l : ℕ) → s ≤ w * l → w < words → e * s + e * l ≤ e * (words * l)
one-more e s w words l h k =
    let more : suc w * l ≤ words * l = mul-le-mul_right l k in
    let all : e * (s + l) ≤ e * (words * l) = mul-le-mul_left e (omega (arith, more, suc-mul w l)) in
    omega (arith, all, times-sum e s l)

-- lists that meet a number, or not
at-most : (t : Bool) (m x : ℕ) → x + m ≤ 65536 → x + (if t then m else 0) ≤ 65536
at-most true m x h = h
at-most false m x h = omega arith

times-if : (t : Bool) (e m l : ℕ) → m ≡ l → (if t then e * m else 0) ≡ e * (if t then l else 0)
times-if true e m l q = ap (λ (j : ℕ). e * j) q
times-if false e m l q = grind arith

sum-like : (f : ℕ → ℕ) (v i n : ℕ) → ((k : ℕ) → f k ≡ v) → sum f i n ≡ n * v
sum-like f v i zero h = grind (arith, common_steps, sum-none)
sum-like f v i (suc n) h = grind (arith, common_steps, sum-suc, suc-mul, sum-like f v (suc i) n h)

-- ---- what the lists that begin with one word add
abbrev sharing : Image → State → ℕ → ℕ → ℕ → ℕ → ℕ
sharing i s n k number w = share i n k number (tick i s w)

abbrev partly : Image → State → ℕ → ℕ → ℕ → Tally
partly i s n k w = record {
  ended = sum (sharing i s n k 0) 0 w;
  full = sum (sharing i s n k 17) 0 w;
  unmatched = sum (sharing i s n k 18) 0 w;
}

-- ---- no word is left, and one
pub over-none : (i : Image) (s : State) (n k each : ℕ) → n ≡ 0 → all_meet 0 each ≡ tally_times each (tally_of i s n k)
over-none i s n k each e =
    same-tally (let z : each ≡ each * 1 = grind arith in z) (let z : 0 ≡ each * 0 = grind arith in z) (let z : 0 ≡ each * 0 = grind arith in z)
    ∙ ap (tally_times each) (tally-none i s k) ∙ ap (λ (m : ℕ). tally_times each (tally_of i s m k)) (sym e)

pub last-word : (b : List ℕ) (s : State) (n left k each : ℕ) (x : Leaving) → LeavesBy b s x → n ≡ suc left → left ≡ 0
    → tally_times each (last_tally b x k) ≡ tally_times each (tally_of (table_image b) s n k)
last-word b s n left k each x y e z =
    let one : 1 ≡ n = omega arith in
    ap (tally_times each) (sym (same-tally (last-ended b s k x y) (last-full b s k x y) (last-unmatched b s k x y)))
    ∙ ap (λ (m : ℕ). tally_times each (tally_of (table_image b) s m k)) one

-- a word of k conditions, each so often
pub fork-room : (n k each x : ℕ) → 1 ≤ n → x + each * lists n k ≤ 65536 → each * 2 ^ k ≤ 65536
fork-room n k each x h l = grind (arith, common_steps, pow-le-pow_right, mul-le-mul_left, mul-le-mul_right)

pub left-few : (n k left : ℕ) → n ≡ suc left → n * k ≤ 16 → (left * k ≤ 16) × (k ≤ 16)
left-few n k left e l = grind (arith, common_steps, suc-mul)

-- ---- the words of a fork stand for all words
module _ (b : List ℕ) (s : State) (n k each : ℕ) where
  abbrev i : Image
  i = table_image b

  pub fork-most : (x : Option Leaving) → (fork x k each).each * ((fork x k each).words * lists n k) ≡ each * lists (suc n) k
  fork-most None = regrouped each (2 ^ k) (lists n k) ∙ ap (λ (m : ℕ). each * m) (sym (lists-suc n k ∙ pow-add 2 (n * k) k))
  fork-most (Some x) = exchanged each (2 ^ k) (lists n k) ∙ ap (λ (m : ℕ). each * m) (sym (lists-suc n k ∙ pow-add 2 (n * k) k))

  pub fork-all : (x : Option Leaving) → GivesLeaving b s x → (number : ℕ)
      → (fork x k each).each * sum (sharing i s n k number) 0 (fork x k each).words ≡ each * count_meeting i s (suc n) k number
  fork-all None same number = grind (arith, common_steps, sum-none, sum-suc, share, meeting-more, regrouped-one, sum-like)
  fork-all (Some x) same number = grind (arith, common_steps, meeting-more)

-- ---- the loop
pub record Part (b : List ℕ) (kept : Kept) (n k left each words more listed : ℕ) (old tally : Tally) (word : ℕ) : Type 0 where
  pub depth : has_bad_depth (view kept) ≡ false
  pub whole : n ≡ suc left
  pub few : n * k ≤ 16
  pub all_lists : listed ≡ lists left k
  pub low : word ≤ words
  pub narrow : words ≤ 65536
  pub room : FewMore old (each * lists n k)
  pub most : more * (words * lists left k) ≡ each * lists n k
  pub all : (number : ℕ) → more * sum (sharing (table_image b) (view kept) left k number) 0 words
      ≡ each * count_meeting (table_image b) (view kept) n k number
  pub part : tally ≡ tally_sum old (tally_times more (partly (table_image b) (view kept) left k word))

pub part-first : (b : List ℕ) (kept : Kept) (n k left each listed : ℕ) (x : Option Leaving) (old : Tally) → has_bad_depth (view kept) ≡ false
    → n ≡ suc left → n * k ≤ 16 → k ≤ 16 → FewMore old (each * lists n k) → GivesLeaving b (view kept) x → listed ≡ lists left k
    → Part b kept n k left each (fork x k each).words (fork x k each).each listed old old 0
part-first b kept n k left each listed x old y e l short room g u = record {
  depth = y;
  whole = e;
  few = l;
  all_lists = u;
  low = omega arith;
  narrow = narrow x;
  room = room;
  most = fork-most b (view kept) left k each x ∙ ap (λ (m : ℕ). each * lists m k) (sym e);
  all = λ number. fork-all b (view kept) left k each x g number ∙ ap (λ (m : ℕ). each * count_meeting (table_image b) (view kept) m k number) (sym e);
  part = grind (arith, common_steps, sum-none, same-tally);
}
  where
    narrow : (x : Option Leaving) → (fork x k each).words ≤ 65536
    narrow None = omega arith
    narrow (Some z) = pow-le-pow_right {n = 2} (omega arith) short

module _ {b : List ℕ} {kept : Kept} {n k left each words more listed : ℕ} {old tally : Tally} {word : ℕ}
    (y : Part b kept n k left each words more listed old tally word) where
  abbrev image : Image
  image = table_image b

  abbrev s : State
  s = view kept

  abbrev f : ℕ → ℕ → ℕ
  f number = sharing image s left k number

  -- there is room for the lists that begin with this word
  module _ (l : word < words) where
    here : (number : ℕ) → more * sum (f number) 0 word + more * lists left k ≤ each * lists n k
    here number =
        let few : sum (f number) 0 word ≤ word * lists left k =
        sum-most (f number) (lists left k) 0 word (λ w p q. share-few image left k number (tick image s w)) in
        omega (arith, one-more more (sum (f number) 0 word) word words (lists left k) few l, y.most)

    pub went-room : FewMore tally (more * lists left k)
    went-room = grind (arith, common_steps, here)

    pub stood-small : more * listed ≤ 65536
    stood-small = omega (arith, went-room.ended, ap (λ (m : ℕ). more * m) y.all_lists)

    pub stood-room : (number : ℕ) → FewLists (tally_sum tally (all_meet number (more * listed)))
    stood-room number = grind (arith, common_steps, at-most, went-room)

    -- what they add
    module _ (next : Tally) (e : next ≡ tally_sum tally (tally_times more (share_of image left k (tick image s word)))) where
      adds : (number : ℕ) → more * sum (f number) 0 word + more * share image left k number (tick image s word)
          ≡ more * sum (f number) 0 (word + 1)
      adds number = grind (arith, common_steps, times-sum, sum-turn)

      part-on : Part b kept n k left each words more listed old next (word + 1)
      part-on = grind (arith, common_steps, same-tally, share_of, adds)

    pub went-on : (m c : ℕ) (u : State) → tick image s word ≡ finished m c u → (next : Tally)
        → next ≡ tally_sum tally (tally_times more (tally_of image u left k))
        → Part b kept n k left each words more listed old next (word + 1)
    went-on m c u q next e = part-on next (e ∙ ap (λ (x : MachineTick). tally_sum tally (tally_times more (share_of image left k x))) (sym q))

    pub stood-on : (number : ℕ) → tick image s word ≡ stopped number → (next : Tally)
        → next ≡ tally_sum tally (all_meet number (more * listed))
        → Part b kept n k left each words more listed old next (word + 1)
    stood-on number q next e =
        part-on next (e ∙ ap (tally_sum tally) (all-times number) ∙ ap (λ (x : MachineTick). tally_sum tally (tally_times more (share_of image left k x))) (sym q))
      where
        all-times : (number : ℕ) → all_meet number (more * listed) ≡ tally_times more (all_meet number (lists left k))
        all-times number = same-tally (times-if (number == 0) more listed (lists left k) y.all_lists)
            (times-if (number == 17) more listed (lists left k) y.all_lists) (times-if (number == 18) more listed (lists left k) y.all_lists)

  pub part-over : words ≤ word → tally ≡ tally_sum old (tally_times each (tally_of image s n k))
  part-over l = grind (arith, common_steps, same-tally)
