-- The state of the machine at a position of the walk:
-- of each open scheme, the bottom first, the label of its node, the number of its call and the scheme that it is, then zeros.
use Rattle.std.proofs.Common.{ℕ, suc, ◌+◌, ◌-◌, ◌<◌, ◌≡◌, refl, ap, ◌∙◌, sym, List, [], ◌∷◌, length, set, replicate, arith, slice_index}
use Rattle.results.specs.Results.{Results}
use Rattle.bindings.specs.Binding.{Binding}
use Rattle.charts.specs.Chart.{Chart}
use Rattle.walk.proofs.Trace.{Open, WalkPosition}
use Rattle.chart_rows.specs.Labels.{label}
use Rattle.state.specs.State.{State}

-- f of the callers, in front of what is given
unfoldable pub below : (Open → ℕ) → List Open → List ℕ → List ℕ
below f [] ls = ls
below f (k ∷ ks) ls = below f ks (f k ∷ ls)

-- 31 places are left for callers and zeros
abbrev pub zeros_over : List Open → List ℕ
zeros_over ks = replicate (31 - length ks) 0

abbrev pub stacked : (Open → ℕ) → Open → List Open → List ℕ
stacked f x ks = below f ks (f x ∷ zeros_over ks)

-- ---- the three cases of f
abbrev pub labelled : Chart → Open → ℕ
labelled c x = label c x.node

abbrev pub open_number : Open → ℕ
open_number x = x.number

abbrev pub open_server : Open → ℕ
open_server x = x.server

-- with n places of which o are in use: binding, result bits, labels, numbers and servers
abbrev pub holding : ℕ → ℕ → Binding → Results → List ℕ → List ℕ → List ℕ → State
holding n o s b ls hs ks = record { size = n; depth = o; places = ls; bits = b; serving = s; numbers = hs; servers = ks }

abbrev pub state_of_position : Chart → ℕ → Binding → WalkPosition → State
state_of_position c n s x = let here = x.now in let ks = x.callers in
    holding n (suc (length ks)) s x.results (stacked (labelled c) here ks) (stacked open_number here ks) (stacked open_server here ks)

-- the scheme at the bottom
abbrev pub bottom_of : Open → List Open → Open
bottom_of x [] = x
bottom_of x (k ∷ ks) = bottom_of k ks

module _ (f : Open → ℕ) where
  pub get-bottom : (x : Open) (ks : List Open) (ls : List ℕ) → slice_index (below f ks (f x ∷ ls)) 0 ≡ f (bottom_of x ks)
  unfolding below
  get-bottom x [] ls = refl
  get-bottom x (k ∷ ks) ls = get-bottom k ks (f x ∷ ls)

  below-get : (ks : List Open) (ls : List ℕ) (i : ℕ) → slice_index (below f ks ls) (length ks + i) ≡ slice_index ls i
  unfolding below
  below-get [] ls i = ap (λ (j : ℕ). slice_index ls j) (omega arith)
  below-get (k ∷ ks) ls i = ap (λ (j : ℕ). slice_index (below f ks (f k ∷ ls)) j) (omega arith) ∙ below-get ks (f k ∷ ls) (suc i)

  below-set : (ks : List Open) (ls : List ℕ) (i l : ℕ) → set (below f ks ls) (length ks + i) l ≡ below f ks (set ls i l)
  unfolding below
  below-set [] ls i l = ap (λ (j : ℕ). set ls j l) (omega arith)
  below-set (k ∷ ks) ls i l = ap (λ (j : ℕ). set (below f ks (f k ∷ ls)) j l) (omega arith) ∙ below-set ks (f k ∷ ls) (suc i) l

  -- the top, and the place under it
  pub get-top : (ks : List Open) (l : ℕ) (ls : List ℕ) → slice_index (below f ks (l ∷ ls)) (suc (length ks) - 1) ≡ l
  get-top ks l ls = ap (λ (j : ℕ). slice_index (below f ks (l ∷ ls)) j) (omega arith) ∙ below-get ks (l ∷ ls) 0

  pub get-under : (k : Open) (ks : List Open) (l : ℕ) (ls : List ℕ) → slice_index (below f (k ∷ ks) (l ∷ ls)) (suc (suc (length ks)) - 2) ≡ f k
  unfolding below
  get-under k ks l ls = ap (λ (j : ℕ). slice_index (below f ks (f k ∷ l ∷ ls)) j) (omega arith) ∙ below-get ks (f k ∷ l ∷ ls) 0

  -- a plain tick, a call and a return, on the places
  pub set-top : (ks : List Open) (l : ℕ) (ls : List ℕ) (m : ℕ) → set (below f ks (l ∷ ls)) (suc (length ks) - 1) m ≡ below f ks (m ∷ ls)
  set-top ks l ls m = ap (λ (j : ℕ). set (below f ks (l ∷ ls)) j m) (omega arith) ∙ below-set ks (l ∷ ls) 0 m

  zeros : (k : ℕ) → k < 31 → ◌≡◌ {A = List ℕ} (replicate (31 - k) 0) (replicate (suc (31 - suc k)) 0)
  zeros k h = let e : 31 - k ≡ suc (31 - suc k) = omega arith in ap (λ (m : ℕ). replicate m 0) e

  pub set-push : (x : Open) (ks : List Open) (l : ℕ) → length ks < 31
      → set (stacked f x ks) (suc (length ks)) l ≡ below f (x ∷ ks) (l ∷ zeros_over (x ∷ ks))
  unfolding below
  set-push x ks l h = grind (arith, zeros (length ks) h, below-set ks (f x ∷ 0 ∷ zeros_over (x ∷ ks)) 1 l)

  pub set-off : (k : Open) (ks : List Open) (l : ℕ) → length ks < 31
      → set (below f (k ∷ ks) (l ∷ zeros_over (k ∷ ks))) (suc (suc (length ks)) - 1) 0 ≡ stacked f k ks
  unfolding below
  set-off k ks l h = set-top (k ∷ ks) l (zeros_over (k ∷ ks)) 0 ∙ ap (λ (zs : List ℕ). below f ks (f k ∷ zs)) (sym (zeros (length ks) h))

  pub set-drop : (k : Open) (ks : List Open) (l m : ℕ) → length ks < 31
      → set (set (below f (k ∷ ks) (l ∷ zeros_over (k ∷ ks))) (suc (suc (length ks)) - 1) 0) (suc (suc (length ks)) - 2) m
      ≡ below f ks (m ∷ zeros_over ks)
  set-drop k ks l m h = grind (arith, set-off k ks l h, below-set ks (f k ∷ zeros_over ks) 0 m)
