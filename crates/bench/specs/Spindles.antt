-- Cases of four spindles that share 64 places: each refusal, a return, a drop, the last place, and states of the others that fit nothing.
use Rattle.std.specs.Prelude.{ℕ, ◌-◌, ◌≡◌, List, [], ◌∷◌, ◌++◌, map, replicate, set, take}
use Rattle.results.specs.Results.{no_results}
use Rattle.bindings.specs.Binding.{own_binding}
use Rattle.text.specs.frames.Answer.{reply_number}
use Rattle.state.specs.State.{State, no_state}
use Rattle.state.specs.Changes.{with_depth}
use Rattle.spindles.specs.Spindles.{SpinOutcome, spin, live_spin}
use Rattle.bench.specs.Bench.{image_p}
use Rattle.bench.specs.Handler.{image_handler}

-- the numbers, and the schemes, of d places that scheme 2 was called to above scheme 1
abbrev pub opened_numbers : ℕ → List ℕ
opened_numbers d = 1 ∷ (replicate (d - 1) 2 ++ replicate (32 - d) 0)

-- a state with room for n, of depth d: label 2 of scheme 1 at the bottom, above it the call of scheme 2 by itself, and a top
abbrev pub deep_state : ℕ → ℕ → ℕ → ℕ → State
deep_state call n d top = record {
  size = n;
  depth = d;
  places = 2 ∷ (replicate (d - 2) call ++ (top ∷ replicate (32 - d) 0));
  bits = no_results;
  serving = own_binding;
  numbers = opened_numbers d;
  servers = opened_numbers d;
}

-- all 64 places are taken: the first calls, the second calls at a full stack, the third returns, the fourth makes a plain tick
abbrev pub full_p : List State
full_p = deep_state 4 32 16 4 ∷ deep_state 4 16 16 4 ∷ deep_state 4 32 16 1 ∷ deep_state 4 32 16 3 ∷ []

-- the second has a handler to drop to, and the others fit no image
abbrev pub full_handler : List State
full_handler = with_depth no_state 16 ∷ deep_state 5 16 16 5 ∷ with_depth no_state 2 ∷ with_depth no_state 30 ∷ []

-- number, mask, code, record and depths
abbrev pub shown_spin : SpinOutcome → List ℕ
shown_spin r = reply_number r.reply ∷ r.mask ∷ r.code ∷ r.taken ∷ map (λ (s : State). s.depth) r.states

pub record SpindleCases : Type 0 where
  -- 25 before all else, then what the image check tries
  pub no-spindle : shown_spin (spin [] full_p 63 4 0) ≡ 25 ∷ 0 ∷ 0 ∷ 63 ∷ 16 ∷ 16 ∷ 16 ∷ 16 ∷ []
  pub no-image : shown_spin (spin [] full_p 63 0 0) ≡ 1 ∷ 0 ∷ 0 ∷ 63 ∷ 16 ∷ 16 ∷ 16 ∷ 16 ∷ []
  -- 15: the record is not the sum, or is above 64; there are three states, or five; the spindle's own does not fit
  pub wrong-sum : shown_spin (spin image_p full_p 63 2 0) ≡ 15 ∷ 0 ∷ 0 ∷ 63 ∷ 16 ∷ 16 ∷ 16 ∷ 16 ∷ []
  pub too-many : shown_spin (spin image_p (set full_p 3 (deep_state 4 32 17 3)) 65 2 0) ≡ 15 ∷ 0 ∷ 0 ∷ 65 ∷ 16 ∷ 16 ∷ 16 ∷ 17 ∷ []
  pub three : shown_spin (spin image_p (take 3 full_p) 48 3 0) ≡ 15 ∷ 0 ∷ 0 ∷ 48 ∷ 16 ∷ 16 ∷ 16 ∷ []
  pub five : shown_spin (spin image_p (with_depth no_state 0 ∷ full_p) 64 3 0) ≡ 15 ∷ 0 ∷ 0 ∷ 64 ∷ 0 ∷ 16 ∷ 16 ∷ 16 ∷ 16 ∷ []
  pub unfit-own : shown_spin (spin image_handler full_handler 64 0 0) ≡ 15 ∷ 0 ∷ 0 ∷ 64 ∷ 16 ∷ 16 ∷ 2 ∷ 30 ∷ []
  -- a call at a full stack is 17, one that finds no place 26
  pub stack-full : shown_spin (spin image_p full_p 64 1 0) ≡ 17 ∷ 0 ∷ 0 ∷ 64 ∷ 16 ∷ 16 ∷ 16 ∷ 16 ∷ []
  pub no-place : shown_spin (spin image_p full_p 64 0 0) ≡ 26 ∷ 0 ∷ 0 ∷ 64 ∷ 16 ∷ 16 ∷ 16 ∷ 16 ∷ []
  -- a return gives its place back, a plain tick needs none, a drop gives back 15, and a call takes the last place
  pub return-back : shown_spin (spin image_p full_p 64 2 0) ≡ 0 ∷ 0 ∷ 3 ∷ 63 ∷ 16 ∷ 16 ∷ 15 ∷ 16 ∷ []
  pub plain : shown_spin (spin image_p full_p 64 3 0) ≡ 0 ∷ 0 ∷ 0 ∷ 64 ∷ 16 ∷ 16 ∷ 16 ∷ 16 ∷ []
  pub drop-back : shown_spin (spin image_handler full_handler 64 1 0) ≡ 0 ∷ 2 ∷ 96 ∷ 49 ∷ 16 ∷ 1 ∷ 2 ∷ 30 ∷ []
  pub last-place : shown_spin (spin image_p (set full_p 3 (with_depth no_state 15)) 63 0 0) ≡ 0 ∷ 2 ∷ 18 ∷ 64 ∷ 17 ∷ 16 ∷ 16 ∷ 15 ∷ []
  -- on bytes that are no table
  pub no-table : shown_spin (live_spin [] full_p 63 0 0) ≡ 11 ∷ 0 ∷ 0 ∷ 63 ∷ 16 ∷ 16 ∷ 16 ∷ 16 ∷ []
  pub no-live-spindle : shown_spin (live_spin [] full_p 63 4 0) ≡ 25 ∷ 0 ∷ 0 ∷ 63 ∷ 16 ∷ 16 ∷ 16 ∷ 16 ∷ []
