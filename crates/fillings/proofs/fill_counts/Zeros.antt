-- Words that all are 0: what their ticks do depends on the state alone, so that from a state that comes again none is ever stopped.
use Rattle.std.proofs.Common.{if◌then◌else◌, ℕ, zero, suc, ◌+◌, ◌*◌, ◌-◌, ◌/◌, ◌^◌, ◌≤◌, ◌<◌, false, ◌≡◌, refl, sym, ◌∙◌, ap, ap₂}
use Rattle.std.proofs.Common.{List, [], ◌∷◌, take, replicate, min, zero-add, suc-mul, zero-mul, mul-zero, arith, ◌==◌}
use Rattle.std.proofs.Math.Nat.{mod-one, mul-le-mul_left}
use Rattle.std.proofs.lemmas.Grind.{common_steps}
use Rattle.std.proofs.lemmas.List.{take-replicate}
use Rattle.words.proofs.lists.Counts.{count-alike}
use Rattle.text.specs.frames.Verdict.{Verdict, fine, refused}
use Rattle.image.specs.Image.{Image}
use Rattle.tables.specs.Table.{table_image}
use Rattle.state.specs.declared.State.{State as Kept}
use Rattle.state.specs.State.{State}
use Rattle.state.specs.Kept.{view}
use Rattle.ticks.specs.Tick.{MachineTick, finished, stopped, tick}
use Rattle.ticks.proofs.TickCases.{stands-on}
use Rattle.fitness.specs.Fitness.{has_bad_depth}
use Rattle.runs.specs.Run.{MachineRun, run_after, ticks}
use Rattle.runs.specs.declared.RunEnd.{RunEnd}
use Rattle.runs.specs.inner.RunContracts.{verdict_of, GivesRunEnd}
use Rattle.fillings.specs.Counts.{words_of, lists, number_of, number_met, count_meeting}
use Rattle.fillings.specs.declared.fill_counts.Tally.{Tally}
use Rattle.fillings.specs.inner.TallyContracts.{tally_of, all_meet}
use Rattle.fillings.proofs.fill_counts.Shares.{all-or-none}
use Rattle.fillings.proofs.fill_counts.TallyTurns.{same-tally}

-- what the ticks leave, and how they end
record Ended : Type 0 where
  state : State
  verdict : Verdict

abbrev ended : MachineRun → Ended
ended r = record { state = r.state; verdict = r.verdict }

abbrev zeros : Image → State → ℕ → Ended
zeros i s n = ended (ticks i s (replicate n 0))

-- none was stopped
abbrev led : State → Ended
led t = record { state = t; verdict = fine }

suc-add : (a b : ℕ) → suc a + b ≡ suc (a + b)
suc-add a b = omega arith

module _ (i : Image) where
  -- where none of the first was stopped the others go on from there
  zeros-more : (a b : ℕ) (s t : State) → zeros i s a ≡ led t → zeros i s (a + b) ≡ zeros i t b
  unfolding ticks
  zeros-more zero b s t e = ap (zeros i s) (zero-add b) ∙ ap (λ (x : Ended). zeros i x.state b) e
  zeros-more (suc a) b s t e = ap (zeros i s) (suc-add a b) ∙ go (tick i s 0) e (zeros-more a b)
    where
      go : (x : MachineTick) → ended (run_after s (λ u. ticks i u (replicate a 0)) x) ≡ led t
          → ((u v : State) → zeros i u a ≡ led v → zeros i u (a + b) ≡ zeros i v b)
          → ended (run_after s (λ u. ticks i u (replicate (a + b) 0)) x) ≡ zeros i t b
      go (finished m c u) q ih = ih u t q
      go (stopped n) q ih = grind (arith, common_steps)

  -- none of the first was stopped where none of all is
  zeros-first : (a b : ℕ) (s t : State) → zeros i s (a + b) ≡ led t → (zeros i s a).verdict ≡ fine
  unfolding ticks
  zeros-first zero b s t e = refl
  zeros-first (suc a) b s t e = go (tick i s 0) (sym (ap (zeros i s) (suc-add a b)) ∙ e) (zeros-first a b)
    where
      go : (x : MachineTick) → ended (run_after s (λ u. ticks i u (replicate (a + b) 0)) x) ≡ led t
          → ((u v : State) → zeros i u (a + b) ≡ led v → (zeros i u a).verdict ≡ fine)
          → (run_after s (λ u. ticks i u (replicate a 0)) x).verdict ≡ fine
      go (finished m c u) q ih = ih u t q
      go (stopped n) q ih = ap (λ (x : Ended). x.verdict) q

  -- what stops one of the first stops all
  zeros-stopped : (a b m : ℕ) (s : State) → (zeros i s a).verdict ≡ refused m 0 → (zeros i s (a + b)).verdict ≡ refused m 0
  unfolding ticks
  zeros-stopped zero b m s e = grind (arith, common_steps)
  zeros-stopped (suc a) b m s e =
      ap (λ (n : ℕ). (zeros i s n).verdict) (suc-add a b) ∙ go (tick i s 0) e (zeros-stopped a b m)
    where
      go : (x : MachineTick) → (run_after s (λ u. ticks i u (replicate a 0)) x).verdict ≡ refused m 0
          → ((u : State) → (zeros i u a).verdict ≡ refused m 0 → (zeros i u (a + b)).verdict ≡ refused m 0)
          → (run_after s (λ u. ticks i u (replicate (a + b) 0)) x).verdict ≡ refused m 0
      go (finished n c u) q ih = ih u q
      go (stopped n) q ih = q

  -- ---- a state that comes again
  round-on : (p k : ℕ) (t : State) → zeros i t p ≡ led t → zeros i t (k * p) ≡ led t
  unfolding ticks
  round-on p zero t e = ap (zeros i t) (zero-mul p)
  round-on p (suc k) t e =
      let m : suc k * p ≡ p + k * p = omega (arith, suc-mul k p) in
      ap (zeros i t) m ∙ zeros-more p (k * p) t t e ∙ round-on p k t e

  never-stopped : (p n : ℕ) (t : State) → 0 < p → zeros i t p ≡ led t → (zeros i t n).verdict ≡ fine
  never-stopped p n t l e =
      let low : n * 1 ≤ n * p = mul-le-mul_left n (omega arith) in
      let m : n + (n * p - n) ≡ n * p = omega (arith, low) in
      zeros-first n (n * p - n) t t (ap (zeros i t) m ∙ round-on p n t e)

  -- ---- the one list
  all-zero : (n x : ℕ) → words_of n 0 x ≡ replicate n 0
  unfolding words_of
  all-zero zero x = refl
  all-zero (suc n) x = ap₂ (λ (a : ℕ) (l : List ℕ). a ∷ l) (mod-one x) (all-zero n (x / 2 ^ 0))

  one-list : (n : ℕ) → lists n 0 ≡ 1
  one-list n = ap (λ (m : ℕ). 2 ^ m) (mul-zero n)

  one-meets : (s : State) (n number : ℕ) → count_meeting i s n 0 number ≡ (if number_of (zeros i s n).verdict == number then 1 else 0)
  unfolding count_meeting
  one-meets s n number =
      count-alike (λ x. number_met i s (replicate n 0) == number) (λ x. number_met i s (words_of n 0 x) == number) 0 (lists n 0)
      (λ x l h. ap (λ (ws : List ℕ). number_met i s ws == number) (all-zero n x))
      ∙ all-or-none (number_of (zeros i s n).verdict == number) (lists n 0)
      ∙ ap (λ (m : ℕ). if number_of (zeros i s n).verdict == number then m else 0) (one-list n)

  one-tally : (s : State) (n : ℕ) (v : Verdict) → (zeros i s n).verdict ≡ v → tally_of i s n 0 ≡ all_meet (number_of v) 1
  one-tally s n v e = grind (arith, common_steps, same-tally, one-meets)

-- a depth of 1 to Σ stays one
ticks-deep : (b : List ℕ) (ws : List ℕ) (s : State) → has_bad_depth s ≡ false → has_bad_depth (ticks (table_image b) s ws).state ≡ false
unfolding ticks
ticks-deep b [] s d = d
ticks-deep b (w ∷ ws) s d = go (tick (table_image b) s w) refl (ticks-deep b ws)
  where
    go : (x : MachineTick) → tick (table_image b) s w ≡ x
        → ((u : State) → has_bad_depth u ≡ false → has_bad_depth (ticks (table_image b) u ws).state ≡ false)
        → has_bad_depth (run_after s (λ u. ticks (table_image b) u ws) x).state ≡ false
    go (finished m c u) q ih = ih u (stands-on b s w d m c u q)
    go (stopped n) q ih = d

-- ---- the loop: so many ticks were made and none was stopped; some of them led from the state that was kept
pub record Zeros (b : List ℕ) (start : Kept) (n : ℕ) (kept state : Kept) (done : ℕ) : Type 0 where
  pub most : done ≤ n
  pub depth : has_bad_depth (view state) ≡ false
  pub all : zeros (table_image b) (view start) done ≡ led (view state)
  pub since : ℕ
  pub some : zeros (table_image b) (view kept) since ≡ led (view state)

pub zeros-none : (b : List ℕ) (start : Kept) (n : ℕ) → has_bad_depth (view start) ≡ false → Zeros b start n start start 0
unfolding ticks
zeros-none b start n d = record { most = omega arith; depth = d; all = refl; since = 0; some = refl }

module _ {b : List ℕ} {start : Kept} {n : ℕ} {kept state : Kept} {done : ℕ} (y : Zeros b start n kept state done) where
  abbrev i : Image
  i = table_image b

  abbrev counted : Tally
  counted = tally_of i (view start) n 0

  -- the state is kept
  pub zeros-kept : Zeros b start n state state done
  unfolding ticks
  zeros-kept = record { most = y.most; depth = y.depth; all = y.all; since = 0; some = refl }

  pub zeros-over : n ≤ done → (t : Tally) → t ≡ all_meet 0 1 → t ≡ counted
  zeros-over l t e = grind (arith, common_steps, one-tally)

  -- a run of some more
  module _ (block more : ℕ) {ms₀ ks₀ ms ks : List ℕ} {r : RunEnd} {next : Kept} (low : done < n) (size : more ≡ min block (n - done))
      (g : GivesRunEnd b state (take more (replicate block 0)) ms₀ ks₀ r next ms ks) where
    abbrev left : ℕ
    left = n - (done + more)

    part : n ≡ done + more + left
    part = omega (arith, size)

    ends : zeros i (view state) more ≡ record { state = view next; verdict = verdict_of r }
    ends = grind (arith, common_steps, take-replicate)

    pub zeros-stood : (m : ℕ) → verdict_of r ≡ refused m 0 → (t : Tally) → t ≡ all_meet m 1 → t ≡ counted
    zeros-stood m q t e = grind (arith, common_steps, zeros-more, zeros-stopped, one-tally, part, ends)

    module _ (all-made : verdict_of r ≡ fine) where
      ends-fine : zeros i (view state) more ≡ led (view next)
      ends-fine = ends ∙ ap (λ (v : Verdict). record { state = view next; verdict = v }) all-made

      all-on : zeros i (view start) (done + more) ≡ led (view next)
      all-on = zeros-more i done more (view start) (view state) y.all ∙ ends-fine

      some-on : zeros i (view kept) (y.since + more) ≡ led (view next)
      some-on = zeros-more i y.since more (view kept) (view state) y.some ∙ ends-fine

      pub zeros-on : Zeros b start n kept next (done + more)
      zeros-on = record {
        most = omega (arith, size);
        depth = ap has_bad_depth g.state ∙ ticks-deep b (take more (replicate block 0)) (view state) y.depth;
        all = all-on;
        since = y.since + more;
        some = some-on;
      }

      -- the state that was kept comes again
      pub zeros-again : 0 < block → next ≡ kept → (t : Tally) → t ≡ all_meet 0 1 → t ≡ counted
      zeros-again l q t e =
          let round : zeros i (view next) (y.since + more) ≡ led (view next) =
          ap (λ (k : Kept). zeros i (view k) (y.since + more)) q ∙ some-on in
          e ∙ sym (one-tally i (view start) n fine
          (ap (λ (k : ℕ). (zeros i (view start) k).verdict) part
          ∙ ap (λ (x : Ended). x.verdict) (zeros-more i (done + more) left (view start) (view next) all-on)
          ∙ never-stopped i (y.since + more) left (view next) (omega (arith, size)) round))
