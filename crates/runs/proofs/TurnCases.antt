-- The loop of ticks, turn by turn.
use Rattle.std.proofs.Common.{◌≡◌, refl, sym, ◌∙◌, ap, List, [], ◌∷◌, ◌++◌, append-nil, ℕ, suc, ◌+◌, ◌≤◌, ◌<◌, zero-add, add-one, slice_index}
use Rattle.std.proofs.Common.{false, arith, length, set, drop, length-append, length-set, drop_of_length-le, drop-cons}
use Rattle.std.proofs.Math.Seq.{append_snoc}
use Rattle.words.specs.lists.Sequences.{over, written}
use Rattle.words.proofs.lists.Written.{written-none, written-snoc, written-front}
use Rattle.text.specs.frames.Verdict.{Verdict, fine, refused}
use Rattle.image.specs.Image.{Image}
use Rattle.tables.specs.Table.{table_image}
use Rattle.state.specs.State.{State}
use Rattle.state.specs.declared.State.{State as Kept}
use Rattle.state.specs.Kept.{view}
use Rattle.fitness.specs.Fitness.{has_bad_depth}
use Rattle.ticks.specs.declared.Stop.{Stop}
use Rattle.ticks.specs.declared.Stop.TheVariants.{Full, NoRow}
use Rattle.runs.specs.declared.RunEnd.TheVariants as end
use Rattle.runs.specs.declared.RunEnd.{RunEnd}
use Rattle.runs.specs.declared.RunEnd.TheVariants.{Over}
use Rattle.ticks.specs.Tick.{top_of, finished, stopped, tick}
use Rattle.runs.specs.Run.{MachineRun, run_after, ticks}
use Rattle.ticks.specs.inner.TickContracts.{number_of, IsStopped, IsFinished}
use Rattle.runs.specs.inner.RunContracts.{verdict_of, count_of, GivesRunEnd}
use Rattle.ticks.proofs.TickCases.{stands-on}

-- ---- ticks over one word more
module _ (i : Image) (s : State) (w : ℕ) (ws : List ℕ) where
  ticks-went : (m k : ℕ) (t : State) → tick i s w ≡ finished m k t
      → ticks i s (w ∷ ws) ≡ record {
        masks = m ∷ (ticks i t ws).masks;
        codes = k ∷ (ticks i t ws).codes;
        state = (ticks i t ws).state;
        verdict = (ticks i t ws).verdict;
      }
  unfolding ticks
  ticks-went m k t e = ap (run_after s (λ u. ticks i u ws)) e

  ticks-stood : (n : ℕ) → tick i s w ≡ stopped n → ticks i s (w ∷ ws) ≡ record { masks = []; codes = []; state = s; verdict = refused n 0 }
  unfolding ticks
  ticks-stood n e = ap (run_after s (λ u. ticks i u ws)) e

ticks-none : (i : Image) (s : State) → ticks i s [] ≡ record { masks = []; codes = []; state = s; verdict = fine }
unfolding ticks
ticks-none i s = refl

-- ---- the loop
abbrev joined : List ℕ → List ℕ → MachineRun → MachineRun
joined ms ks r = record { masks = ms ++ r.masks; codes = ks ++ r.codes; state = r.state; verdict = r.verdict }

-- a buffer after i finished ticks has their values in front of what it was given with
pub record Written (old out past : List ℕ) (i : ℕ) : Type 0 where
  pub long : length past ≡ i
  pub size : length out ≡ length old
  pub is : out ≡ written old 0 past

-- one value more
written-on : {old out past : List ℕ} {i : ℕ} → Written old out past i → (v : ℕ) → i < length old
    → Written old (set out i v) (past ++ (v ∷ [])) (i + 1)
written-on {old} {out} {past} {i} x v h = record {
  long = simp length-append (omega (arith, x.long));
  size = length-set out i v ∙ x.size;
  is = ap (λ (l : List ℕ). set l i v) x.is ∙ ap (λ (m : ℕ). set (written old 0 past) m v) (sym (zero-add (length past) ∙ x.long))
      ∙ written-snoc old 0 past v (omega (arith, x.long));
}

-- and where no value is left, all
written-over : {old out past : List ℕ} {i : ℕ} → Written old out past i → {all : List ℕ} → past ++ [] ≡ all → out ≡ over all old
written-over {old} {out} {past} x e = x.is ∙ written-front old past ∙ ap (λ (l : List ℕ). over l old) (sym (append-nil past) ∙ e)

-- after i words
pub record RunTurn (b : List ℕ) (start : Kept) (ws ms₀ ks₀ : List ℕ) (state : Kept) (ms ks : List ℕ) (l i : ℕ) : Type 0 where
  pub low : i ≤ length ws
  pub depth : has_bad_depth (view state) ≡ false
  pub label : l ≡ top_of (view state)
  pub past-masks : List ℕ
  pub past-codes : List ℕ
  pub masks : Written ms₀ ms past-masks i
  pub codes : Written ks₀ ks past-codes i
  pub whole : joined past-masks past-codes (ticks (table_image b) (view state) (drop i ws)) ≡ ticks (table_image b) (view start) ws
  pub same : i ≡ 0 → state ≡ start

pub turn-start : {b : List ℕ} {state : Kept} {ws ms ks : List ℕ} {l : ℕ} → has_bad_depth (view state) ≡ false → l ≡ top_of (view state)
    → RunTurn b state ws ms ks state ms ks l 0
turn-start {b} {state} {ws} {ms} {ks} {l} y e = record {
  low = omega arith;
  depth = y;
  label = e;
  past-masks = [];
  past-codes = [];
  masks = record { long = refl; size = refl; is = sym (written-none ms 0) };
  codes = record { long = refl; size = refl; is = sym (written-none ks 0) };
  whole = refl;
  same = λ e. refl;
}

-- so many ticks were finished before one was stopped
abbrev pub stopped_after : Stop → ℕ → RunEnd
stopped_after Full n = end.Full n
stopped_after NoRow n = end.NoRow n

stopped-verdict : (x : Stop) (n : ℕ) → verdict_of (stopped_after x n) ≡ refused (number_of x) 0
stopped-verdict Full n = refl
stopped-verdict NoRow n = refl

stopped-count : (x : Stop) (n : ℕ) → count_of (stopped_after x n) ≡ n
stopped-count Full n = refl
stopped-count NoRow n = refl

module _ {b ws ms₀ ks₀ ms ks : List ℕ} {start state : Kept} {l i : ℕ} (t : RunTurn b start ws ms₀ ks₀ state ms ks l i) where
  abbrev s : State
  s = view state

  abbrev s₀ : State
  s₀ = view start

  abbrev image : Image
  image = table_image b

  -- the words that are left, and what they give
  abbrev before : MachineRun → MachineRun
  before = joined t.past-masks t.past-codes

  ended : (r : RunEnd) → count_of r ≡ i → (left : Kept) → left ≡ state
      → before (record { masks = []; codes = []; state = s; verdict = verdict_of r }) ≡ ticks image s₀ ws
      → GivesRunEnd b start ws ms₀ ks₀ r left ms ks
  ended r n left k all = record {
    verdict = ap (λ (x : MachineRun). x.verdict) all;
    count = n ∙ sym t.codes.long ∙ ap (λ (l : List ℕ). length l) (sym (append-nil t.past-codes) ∙ ap (λ (x : MachineRun). x.codes) all);
    state = ap view k ∙ ap (λ (x : MachineRun). x.state) all;
    masks = written-over t.masks (ap (λ (x : MachineRun). x.masks) all);
    codes = written-over t.codes (ap (λ (x : MachineRun). x.codes) all);
    kept = λ e. k ∙ t.same (sym n ∙ e);
  }

  module _ (h : i < length ws) where
    -- the next word, and those behind it
    onward : before (ticks image s (slice_index ws i ∷ drop (suc i) ws)) ≡ ticks image s₀ ws
    onward = ap (λ (l : List ℕ). before (ticks image s l)) (sym (drop-cons ws i 0 h)) ∙ t.whole

    pub turn-on : length ws ≤ length ms₀ → length ws ≤ length ks₀ → {mask code label : ℕ} {next : Kept}
        → IsFinished b state (slice_index ws i) mask code label next → RunTurn b start ws ms₀ ks₀ next (set ms i mask) (set ks i code) label (i + 1)
    turn-on room-masks room-codes {mask} {code} {label} {next} q =
        let on : MachineRun = ticks image (view next) (drop (suc i) ws) in
        record {
          low = omega arith;
          depth = stands-on b s (slice_index ws i) t.depth _ _ _ q.gives;
          label = q.label;
          past-masks = t.past-masks ++ (mask ∷ []);
          past-codes = t.past-codes ++ (code ∷ []);
          masks = written-on t.masks mask (omega arith);
          codes = written-on t.codes code (omega arith);
          whole =
              ap (λ (n : ℕ). joined (t.past-masks ++ (mask ∷ [])) (t.past-codes ++ (code ∷ []))
              (ticks image (view next) (drop n ws))) (add-one i)
              ∙ (λ j. record {
                masks = append_snoc t.past-masks mask on.masks j;
                codes = append_snoc t.past-codes code on.codes j;
                state = on.state;
                verdict = on.verdict;
              })
              ∙ ap before (sym (ticks-went image s (slice_index ws i) (drop (suc i) ws) mask code (view next) q.gives))
              ∙ onward;
          same = λ e. absurd (omega arith);
        }

    -- a tick that is stopped ends the run
    pub turn-stood : {x : Stop} {next : Kept} → IsStopped b state (slice_index ws i) x next
        → GivesRunEnd b start ws ms₀ ks₀ (stopped_after x i) next ms ks
    turn-stood {x} {next} q =
        ended (stopped_after x i) (stopped-count x i) next q.kept
        (ap (λ (v : Verdict). before (record { masks = []; codes = []; state = s; verdict = v })) (stopped-verdict x i)
        ∙ ap before (sym (ticks-stood image s (slice_index ws i) (drop (suc i) ws) (number_of x) q.stops)) ∙ onward)

  -- no word is left
  pub turn-over : length ws ≤ i → GivesRunEnd b start ws ms₀ ks₀ (Over i) state ms ks
  turn-over h =
      ended (Over i) refl state refl
      (ap before (sym (ticks-none image s)) ∙ ap (λ (l : List ℕ). before (ticks image s l)) (sym (drop_of_length-le ws h)) ∙ t.whole)
