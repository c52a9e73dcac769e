-- The bound of a trace (the ticks before the first call at a full stack), and the position where the machine comes to stand.
use Rattle.std.proofs.Common.{ℕ, suc, ◌+◌, ◌≤◌, ◌<◌, true, false, ◌≡◌, refl, List, [], ◌∷◌, ◌++◌, length, arith}
use Rattle.std.proofs.lemmas.Grind.{common_steps}
use Rattle.words.proofs.lists.Tests.{cases}
use Rattle.charts.specs.Chart.{Chart}
use Rattle.walk.specs.Walk.{Signal, Tick}
use Rattle.walk.proofs.Trace.{WalkPosition, tick_at, move, trace, position_reached}
use Rattle.agreement.specs.Agreement.{is_full_call, bound}

module _ (n : ℕ) (t : Tick) (ts : List Tick) where
  pub bound-stop : is_full_call n t ≡ true → bound n (t ∷ ts) ≡ 0
  unfolding bound
  bound-stop e = rw (e, bound)

  pub bound-go : is_full_call n t ≡ false → bound n (t ∷ ts) ≡ suc (bound n ts)
  unfolding bound
  bound-go e = rw (e, bound)

pub bound-le : (n : ℕ) (ts : List Tick) → bound n ts ≤ length ts
unfolding bound
bound-le n [] = grind (arith, common_steps)
bound-le n (t ∷ ts) = grind (arith, common_steps, bound-le n ts, bound-stop, bound-go)

-- of joined ticks: the bound of the first ones, or all of them and that of the rest
pub bound-full : (n : ℕ) (ts us : List Tick) → bound n ts ≡ length ts → bound n (ts ++ us) ≡ length ts + bound n us
bound-full n [] us h = omega arith
bound-full n (t ∷ ts) us h = grind (arith, common_steps, bound-full n ts us, cases (is_full_call n t), bound-stop, bound-go)

pub bound-part : (n : ℕ) (ts us : List Tick) → bound n ts < length ts → bound n (ts ++ us) ≡ bound n ts
bound-part n [] us h = absurd (omega arith)
bound-part n (t ∷ ts) us h = grind (arith, common_steps, bound-part n ts us, cases (is_full_call n t), bound-stop, bound-go)

-- the position after the words, or the first one on the way that calls at a full stack
unfoldable pub stand : Chart → ℕ → List Signal → WalkPosition → WalkPosition
stand c n [] x = x
stand c n (w ∷ ws) x = elim (is_full_call n (tick_at n c x)) [ true ↦ x | false ↦ stand c n ws (move n c w x) ]

module _ (c : Chart) (n : ℕ) where
  module _ (w : Signal) (ws : List Signal) (x : WalkPosition) where
    pub stand-stop : is_full_call n (tick_at n c x) ≡ true → stand c n (w ∷ ws) x ≡ x
    unfolding stand
    stand-stop e = rw (e, stand)

    pub stand-go : is_full_call n (tick_at n c x) ≡ false → stand c n (w ∷ ws) x ≡ stand c n ws (move n c w x)
    unfolding stand
    stand-go e = rw (e, stand)

  pub stand-full : (ws : List Signal) (x : WalkPosition) → bound n (trace n c ws x) ≡ length ws → stand c n ws x ≡ position_reached n c ws x
  unfolding trace position_reached stand
  stand-full [] x h = search (arith)
  stand-full (w ∷ ws) x h = search (arith, stand-full ws (move n c w x), tick_at, move, bound-stop, bound-go, stand-go)

  pub stand-part : (ws : List Signal) (x : WalkPosition) → bound n (trace n c ws x) < length ws
      → is_full_call n (tick_at n c (stand c n ws x)) ≡ true
  unfolding trace
  stand-part [] x h = grind (arith, common_steps)
  stand-part (w ∷ ws) x h = grind (arith, common_steps, stand-part ws (move n c w x), tick_at, move, bound-go, stand-stop, stand-go)

  -- from there on no tick is made
  pub bound-here : (ws : List Signal) (x : WalkPosition) → is_full_call n (tick_at n c x) ≡ true → bound n (trace n c ws x) ≡ 0
  unfolding trace bound
  bound-here [] x e = refl
  bound-here (w ∷ ws) x e = bound-stop n (tick_at n c x) (trace n c ws (move n c w x)) e
