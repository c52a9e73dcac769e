-- Many ticks of the machine are those of the trace up to its bound.
use Rattle.std.proofs.Common.{if◌then◌else◌, ℕ, suc, ◌≤◌, ◌<◌, Bool, true, false, ◌≡◌, refl, ap, ◌∙◌, List, [], ◌∷◌, nat_lt, inl, inr}
use Rattle.std.proofs.Common.{map, length, take, arith, lt-ltb}
use Rattle.std.proofs.Math.Dec.{leb-suc-suc}
use Rattle.std.proofs.lemmas.Grind.{common_steps}
use Rattle.words.proofs.lists.Tests.{cases}
use Rattle.results.specs.Results.{Results}
use Rattle.bindings.specs.Binding.{Binding}
use Rattle.text.specs.frames.Frame.{size}
use Rattle.text.specs.frames.Verdict.{fine, refused}
use Rattle.charts.specs.Chart.{Chart}
use Rattle.walk.specs.Stops.{Stop}
use Rattle.walk.specs.Walk.{Signal, signals, Tick}
use Rattle.walk.proofs.Facts.{Facts}
use Rattle.walk.proofs.Views.{View, a-plain, a_call, a-function, a-home, a_back, a-begin, a-condition}
use Rattle.walk.proofs.Trace.{Open, WalkPosition, stop_tick, position_moved, is_drop_at, tick_at, move, trace, Serves, Good, view-of, moves}
use Rattle.translator.specs.Table.{table}
use Rattle.state.specs.State.{State}
use Rattle.runs.specs.Run.{MachineRun, run_after, ticks}
use Rattle.agreement.specs.Agreement.{is_full_call, bound}
use Rattle.agreement.proofs.TableFacts.{TableFacts}
use Rattle.agreement.proofs.Places.{state_of_position}
use Rattle.agreement.proofs.Simulation.{answer, tick-is}
use Rattle.agreement.proofs.Bounds.{bound-stop, bound-go, stand, stand-stop, stand-go}

-- what is run with a binding when b of the ticks ts of m words are made, and the walk stands at y
abbrev pub run_by_ticks : Chart → ℕ → Binding → ℕ → List Tick → WalkPosition → ℕ → MachineRun
run_by_ticks c n s b ts y m = record {
  masks = map (λ (t : Tick). t.mask) (take b ts);
  codes = map (λ (t : Tick). t.code) (take b ts);
  state = state_of_position c n s y;
  verdict = if nat_lt b m then refused 17 0 else fine;
}

-- what is run of all the words, from x on
abbrev pub run_from_position : Chart → ℕ → Binding → List ℕ → WalkPosition → MachineRun
run_from_position c n s ws x =
    let us = signals s ws in run_by_ticks c n s (bound n (trace n c us x)) (trace n c us x) (stand c n us x) (length ws)

-- the walk stands at a good position, with room for its node
pub record StandsWell (c : Chart) (n : ℕ) (x : WalkPosition) : Type 0 where
  pub low : length x.callers < n
  pub good : Good c x

module _ (c : Chart) (n : ℕ) (s : Binding) where
  -- ---- a tick that is no call at a full stack leaves room for the node's label

  deep-by : Facts c → (x : Open) (ks : List Open) (b : Results) (f : Bool) (w : Signal)
      → x.node < size c → length ks < n → (t : Bool) → {z : Stop}
      → View c x.node z → is_full_call n (stop_tick t (suc (length ks)) x z) ≡ false → length (position_moved c t x ks w b f z).callers < n
  deep-by facts x ks b f w i low t (a-plain e a) q = grind (arith, common_steps)
  deep-by facts x ks b f w i low t (a_call e a) q = grind (arith, common_steps)
  deep-by facts x ks b f w i low t (a-function e) q = grind (arith, common_steps)
  deep-by facts x ks b f w i low t (a-home e z) q = grind (arith, common_steps)
  deep-by facts x ks b f w i low t (a_back e z) q = grind (arith, common_steps)
  deep-by facts x ks b f w i low t (a-begin e) q = grind (arith, common_steps)
  deep-by facts x ks b f w i low t (a-condition e) q = grind (arith, common_steps)

  -- ---- the first tick, and then the others
  abbrev signal : ℕ → Signal
  signal w = record { word = w; binding = s }

  abbrev next : ℕ → WalkPosition → WalkPosition
  next w x = move n c (signal w) x

  abbrev state : WalkPosition → State
  state x = state_of_position c n s x

  abbrev first : ℕ → List ℕ → WalkPosition → MachineRun
  first w ws x = run_after (state x) (λ t. ticks (table c) t ws) (answer n (tick_at n c x) (state (next w x)))

  first-stops : (w : ℕ) (ws : List ℕ) (x : WalkPosition) → is_full_call n (tick_at n c x) ≡ true
      → first w ws x ≡ run_from_position c n s (w ∷ ws) x
  unfolding trace
  first-stops w ws x e = grind (arith, common_steps, stand, stand-stop, tick_at, lt-ltb, bound-stop, trace)

  first-goes : (w : ℕ) (ws : List ℕ) (x : WalkPosition) → is_full_call n (tick_at n c x) ≡ false
      → ticks (table c) (state (next w x)) ws ≡ run_from_position c n s ws (next w x) → first w ws x ≡ run_from_position c n s (w ∷ ws) x
  unfolding trace
  first-goes w ws x e ih = grind (arith, common_steps, leb-suc-suc, stand, tick_at, bound-go, stand-go, trace)

  module _ (facts : Facts c) (serves : Serves c s) where
    pub moves-on : (w : ℕ) (x : WalkPosition) → StandsWell c n x → is_full_call n (tick_at n c x) ≡ false → StandsWell c n (next w x)
    moves-on w x z e = record {
      low = deep-by facts x.now x.callers x.results x.first (signal w) z.good.top.inside z.low (is_drop_at n c x)
          (view-of c facts x z.good) e;
      good = moves c facts n (signal w) x serves z.good;
    }

    pub stand-stands : (ws : List ℕ) (x : WalkPosition) → StandsWell c n x → StandsWell c n (stand c n (signals s ws) x)
    unfolding stand
    stand-stands [] x z = z
    stand-stands (w ∷ ws) x z =
        grind (arith, common_steps, stand-stands ws (next w x), cases (is_full_call n (tick_at n c x)), stand-stop, stand-go, moves-on)

    pub ticks-are : n ≤ 32 → TableFacts c → (ws : List ℕ) (x : WalkPosition) → StandsWell c n x
        → ticks (table c) (state x) ws ≡ run_from_position c n s ws x
    unfolding ticks trace bound stand
    ticks-are n≤ table_facts [] x z = refl
    ticks-are n≤ table_facts (w ∷ ws) x z =
        ap (run_after (state x) (λ t. ticks (table c) t ws)) (tick-is c n n≤ s facts table_facts serves w x z.low z.good)
        ∙ elim (cases (is_full_call n (tick_at n c x))) [
          | inl e ↦ first-stops w ws x e
          | inr e ↦ first-goes w ws x e (ticks-are n≤ table_facts ws (next w x) (moves-on w x z e))
        ]
