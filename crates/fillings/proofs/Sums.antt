-- Every run ends, meets 17 or meets 18, so that the three counts are all lists.
use Rattle.std.proofs.Common.{if◌then◌else◌, ℕ, zero, suc, ◌+◌, ◌-◌, Bool, true, false, ◌≡◌, refl, ◌∙◌, ap, List, [], ◌∷◌, arith, ◌==◌}
use Rattle.std.proofs.lemmas.Grind.{common_steps}
use Rattle.words.specs.lists.Numbers.{count}
use Rattle.results.specs.Results.{Results, cleared_results}
use Rattle.text.specs.frames.Frame.{contents}
use Rattle.text.specs.frames.Verdict.{Verdict, fine, refused}
use Rattle.text.specs.frames.Answer.{success}
use Rattle.image.specs.Layout.{tick_kind}
use Rattle.image.specs.Image.{Image, Label}
use Rattle.image.specs.Decode.{decoded_image}
use Rattle.rows.specs.Rows.{Found, found, missing}
use Rattle.state.specs.State.{State, fresh, entry_at, place_at}
use Rattle.ticks.specs.Tick.{row_leads, MachineTick, finished, stopped, moved_tick, popped_state, state_alone, is_full_stack_kept}
use Rattle.ticks.specs.Tick.{full_tick, pushed_tick, popped_tick, tick_by, tick}
use Rattle.runs.specs.Run.{run_after, ticks}
use Rattle.fillings.specs.Counts.{words_of, lists, number_of, number_met, count_meeting, count_verdict, fillings_on, count_fillings}
use Rattle.fillings.specs.Promises.{SumsUp}

-- ---- one tick stops with 17 or 18 only
pub data EndsBy : ℕ → Type 0 where
  ends_by_0 : EndsBy 0
  ends_by_17 : EndsBy 17
  ends_by_18 : EndsBy 18

abbrev Stops : MachineTick → Type 0
Stops (finished m code t) = Unit {0}
Stops (stopped n) = EndsBy n

moved-stops : (m code : ℕ) (t : State) (k : ℕ) (f : Found) → Stops (moved_tick m code t k f)
moved-stops m code t k (found l) = tt
moved-stops m code t k missing = ends_by_18

full-stops : (i : Image) (s : State) (m : ℕ) (b : Results) → Stops (full_tick i s m b)
full-stops i s m b = go (is_full_stack_kept i s)
  where
    go : (t : Bool) → Stops (if t then stopped 17 else finished m 96 (state_alone s (entry_at i i.handler) i.handler
        (cleared_results i.handler b)))
    go true = ends_by_17
    go false = tt

pushed-stops : (i : Image) (s : State) (m code h k : ℕ) (b : Results) (t : Bool) → Stops (pushed_tick i s m code h k b t)
pushed-stops i s m code h k b true = full-stops i s m b
pushed-stops i s m code h k b false = tt

popped-stops : (i : Image) (s : State) (w m : ℕ) (b : Results) (t : Bool) → Stops (popped_tick i s w m b t)
popped-stops i s w m b true = tt
popped-stops i s w m b false = moved-stops m 3 (popped_state s b) (s.depth - 2) (row_leads i b (place_at s (s.depth - 2)) w)

by-stops : (i : Image) (s : State) (w l : ℕ) (x : Label) (b : Results) (k : ℕ) → Stops (tick_by i s w l x b (tick_kind k))
by-stops i s w l x b zero = grind (arith, common_steps, moved-stops)
by-stops i s w l x b (suc zero) = grind (arith, common_steps, pushed-stops)
by-stops i s w l x b (suc (suc zero)) = grind (arith, common_steps, pushed-stops)
by-stops i s w l x b (suc (suc (suc zero))) = grind (arith, common_steps, popped-stops)
by-stops i s w l x b (suc (suc (suc (suc n)))) = grind (arith, common_steps, moved-stops)

tick-stops : (i : Image) (s : State) (w : ℕ) → Stops (tick i s w)
unfolding tick
tick-stops i s w = grind (arith, common_steps, by-stops)

pub ticks-end : (i : Image) (ws : List ℕ) (s : State) → EndsBy (number_of (ticks i s ws).verdict)
unfolding ticks
ticks-end i [] s = ends_by_0
ticks-end i (w ∷ ws) s = go (tick i s w) (tick-stops i s w) (ticks-end i ws)
  where
    go : (t : MachineTick) → Stops t → ((u : State) → EndsBy (number_of (ticks i u ws).verdict))
        → EndsBy (number_of (run_after s (λ u. ticks i u ws) t).verdict)
    go (finished m code u) q ih = ih u
    go (stopped n) q ih = q

-- ---- three counts
module _ (f : ℕ → ℕ) (e : (x : ℕ) → EndsBy (f x)) where
  abbrev here : ℕ → ℕ → ℕ
  here x number = if f x == number then 1 else 0

  one-each : (x : ℕ) → here x 0 + here x 17 + here x 18 ≡ 1
  one-each x = grind (arith, common_steps)

  all-three : (i n : ℕ) → count (λ x. f x == 0) i n + count (λ x. f x == 17) i n + count (λ x. f x == 18) i n ≡ n
  unfolding count
  all-three i zero = refl
  all-three i (suc n) = omega (arith, one-each i, all-three (suc i) n)

pub counted-fine : (i : Image) (size n k : ℕ) (v : Verdict) → (fillings_on i size n k v).reply ≡ success 0 → v ≡ fine
counted-fine i size n k fine e = refl
counted-fine i size n k (refused m j) e = absurd (let z : ◌≡◌ {A = ℕ} 0 1 = cc in omega arith)

pub sums-up : SumsUp
unfolding SumsUp count_fillings count_meeting
sums-up t size n k e =
    let i : Image = decoded_image (contents t) in
    ap (λ (v : Verdict). let r = fillings_on i size n k v in r.ended + r.full + r.unmatched)
    (counted-fine i size n k (count_verdict t size n k) e)
    ∙ all-three (λ x. number_met i (fresh size) (words_of n k x)) (λ x. ticks-end i (words_of n k x) (fresh size)) 0 (lists n k)
