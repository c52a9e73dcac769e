-- A chart on which schemes are swapped:
-- rebindings between runs, what an open scheme and the next call make of them, results and codes by the number called, and a drop;
-- refusal 22, and the grounds of 15 that speak of numbers and of what serves them.
use Rattle.std.specs.Prelude.{ℕ, ◌-◌, Bool, true, false, ◌≡◌, List, [], ◌∷◌, ◌++◌, length, replicate, set}
use Rattle.words.specs.lists.Numbers.{range}
use Rattle.bindings.specs.Binding.{own_binding, rebound_binding}
use Rattle.text.specs.frames.Frame.{contents}
use Rattle.text.specs.frames.Verdict.{fine}
use Rattle.text.specs.frames.Answer.{Reply, success, refusal, buffer_on}
use Rattle.walk.specs.Walk.{Tick, walk}
use Rattle.translator.specs.Entry.{translate}
use Rattle.state.specs.State.{State, fresh, fresh_state}
use Rattle.state.specs.Changes.{with_serving}
use Rattle.state.specs.declared.State.{State as Kept}
use Rattle.state.specs.Kept.{stored}
use Rattle.runs.specs.Run.{RunOutcome, run}
use Rattle.rebinding.specs.Rebind.{rebind}
use Rattle.agreement.specs.Agreement.{CallInput, to_run, to_rebind, CallOutput, by_run, by_rebinding, call_outputs, joined_words}
use Rattle.agreement.specs.Agreement.{walk_outputs}
use Rattle.bench.specs.Bench.{lines, tick_of}

-- scheme 1: an operation with mask 1 that calls number 2, then function 2, on 0 End, on 1 an operation with mask 2; scheme 2: an
-- operation with mask 4 that writes 0; scheme 3: one with mask 8 that writes 1; scheme 4, the handler: one with mask 16 that calls number
-- 3
unfoldable pub chart_swap : List ℕ
chart_swap = lines (
    "00010001000000000000FE" ∷ "02010202000000000001F8" ∷ "04010204030000000000F2" ∷ "02010004000000000002F7"
    ∷ "01010000000000000000FE" ∷ "00020006000000000000F8" ∷ "02020007000100000004F0" ∷ "01020000000000000000FD"
    ∷ "00030009000000000000F4" ∷ "0203000A000200000008E7" ∷ "01030000000000000000FC" ∷ "0004010C000000000000EF"
    ∷ "0204030D000000000010DA" ∷ "01040000000000000000FB" ∷ [])

unfoldable pub image_swap : List ℕ
image_swap = lines (
    "0F040700070400000000DB" ∷ "10010200000000000000ED" ∷ "10020500000000000000E9" ∷ "10030600000000000000E7"
    ∷ "10040700000000000000E5" ∷ "11000400010000000000EA" ∷ "11010300000000000000EB" ∷ "11020102010000000001E8"
    ∷ "11030202010000000000E7" ∷ "11040000010000000002E8" ∷ "11050000020100000004E3" ∷ "11060000030200000008DC"
    ∷ "11070103040000000010D0" ∷ "12020000000002030000E7" ∷ "12030000000000000000EB" ∷ "12030000000001040000E6"
    ∷ "12040000000002000000E8" ∷ "12050000000002010000E6" ∷ "12060000000002010000E5" ∷ "12070000000002010000E4" ∷ [])

-- ---- states with two places
-- 32 numbers, of which these are the lowest
abbrev pub padded_numbers : List ℕ → List ℕ
padded_numbers xs = xs ++ replicate (32 - length xs) 0

-- the open schemes from the bottom up, by their labels, numbers and servers; the bits of numbers 2 and 3; the scheme that serves number 2
abbrev pub state_with : List ℕ → List ℕ → List ℕ → Bool → Bool → ℕ → State
state_with labels numbers servers b₂ b₃ k = record {
  size = 2;
  depth = length labels;
  places = padded_numbers labels;
  bits = false ∷ b₂ ∷ b₃ ∷ replicate 13 false;
  serving = rebound_binding 2 k own_binding;
  numbers = padded_numbers numbers;
  servers = padded_numbers servers;
}

-- the same with bits 0 and each number served by its own scheme
abbrev pub swap_state : List ℕ → List ℕ → List ℕ → State
swap_state labels numbers servers = state_with labels numbers servers false false 2

-- scheme 1 alone at label 0
abbrev pub state_at_home : State
state_at_home = swap_state (0 ∷ []) (1 ∷ []) (1 ∷ [])

-- state_at_home with number h served by scheme k
abbrev pub state_serving : ℕ → ℕ → State
state_serving h k = with_serving state_at_home (rebound_binding h k own_binding)

-- ---- calls
-- a run of n words 0 with just room for them; in a list of calls its buffers hold 7 before, which is no code
abbrev pub run_of : ℕ → State → RunOutcome
run_of n s = run image_swap s (replicate n 0) (replicate n 7) (replicate n 7)

abbrev pub input_word : ℕ → CallInput
input_word n = to_run (record { words = replicate n 0; masks = replicate n 7; codes = replicate n 7 })

-- a run with room for less than its word
abbrev pub call_asking_short : CallInput
call_asking_short = to_run (record { words = 0 ∷ []; masks = []; codes = 7 ∷ [] })

abbrev pub output_handed : Reply → List ℕ → List ℕ → CallOutput
output_handed r masks codes = by_run (record { reply = r; masks = masks; codes = codes })

abbrev pub rebinding_done : CallOutput
rebinding_done = by_rebinding (success 0)

-- a list of calls from a fresh state with n places
abbrev pub swap_outputs : ℕ → List CallInput → List CallOutput
swap_outputs n given = call_outputs run rebind image_swap (fresh n) given

-- a rebinding that 22 refuses
abbrev pub Bars : ℕ → ℕ → Type 0
Bars h k = rebind image_swap state_at_home h k ≡ record { reply = refusal 22 0 0; state = state_at_home }

-- one that is made; and a state that fits, and one that does not
abbrev pub Binds : ℕ → ℕ → Type 0
Binds h k = rebind image_swap state_at_home h k ≡ record { reply = success 0; state = state_serving h k }

abbrev pub IsFit : State → Type 0
IsFit s = (run_of 1 s).reply ≡ success 1

abbrev pub IsUnfit : State → Type 0
IsUnfit s = run_of 1 s ≡ record { reply = refusal 15 0 0; state = s; masks = 7 ∷ []; codes = 7 ∷ [] }

-- ---- a fresh state and the one of 14, as C keeps them: 130 bytes in the order of the fields
abbrev pub kept_bytes : Kept → List ℕ
kept_bytes s = s.size ∷ s.depth ∷ (s.places ++ s.results ++ s.serving ++ s.numbers ++ s.servers)

pub record ByteCases : Type 0 where
  pub new : kept_bytes (stored (fresh_state 2).state)
      ≡ 2 ∷ 1 ∷ replicate 48 0 ++ (range 1 16 ++ (1 ∷ replicate 31 0 ++ (1 ∷ replicate 31 0)))
  pub zeros : kept_bytes (stored (fresh_state 33).state) ≡ replicate 130 0

pub record SwapCases : Type 0 where
  pub translated : (out : List ℕ) → translate chart_swap out ≡ buffer_on fine 1 (λ _. image_swap) out
  -- a block with scheme 2 and one with scheme 3, in which the function answers 1; the codes show number 2 in both
  pub between : swap_outputs 2 (input_word 7 ∷ to_rebind 2 3 ∷ input_word 8 ∷ [])
      ≡ output_handed (success 7) (0 ∷ 1 ∷ 4 ∷ 0 ∷ 0 ∷ 4 ∷ 0 ∷ []) (4 ∷ 18 ∷ 0 ∷ 3 ∷ 66 ∷ 0 ∷ 3 ∷ []) ∷ rebinding_done
      ∷ output_handed (success 8) (0 ∷ 1 ∷ 8 ∷ 0 ∷ 0 ∷ 8 ∷ 0 ∷ 2 ∷ []) (4 ∷ 18 ∷ 0 ∷ 3 ∷ 66 ∷ 0 ∷ 3 ∷ 0 ∷ []) ∷ []
  -- scheme 2 is open, goes on as scheme 2, and the next call performs scheme 3
  pub within : swap_outputs 2 (input_word 2 ∷ to_rebind 2 3 ∷ input_word 6 ∷ [])
      ≡ output_handed (success 2) (0 ∷ 1 ∷ []) (4 ∷ 18 ∷ []) ∷ rebinding_done
      ∷ output_handed (success 6) (4 ∷ 0 ∷ 0 ∷ 8 ∷ 0 ∷ 2 ∷ []) (0 ∷ 3 ∷ 66 ∷ 0 ∷ 3 ∷ 0 ∷ []) ∷ []
  -- the states around that rebinding: only what serves changes
  pub opened : (run_of 2 state_at_home).state ≡ swap_state (2 ∷ 5 ∷ []) (1 ∷ 2 ∷ []) (1 ∷ 2 ∷ [])
  pub swapped : rebind image_swap (swap_state (2 ∷ 5 ∷ []) (1 ∷ 2 ∷ []) (1 ∷ 2 ∷ [])) 2 3
      ≡ record { reply = success 0; state = state_with (2 ∷ 5 ∷ []) (1 ∷ 2 ∷ []) (1 ∷ 2 ∷ []) false false 3 }
  -- a call that scheme 3 serves remembers number 2 and scheme 3, and scheme 3 writes bit 2
  pub served : (run_of 2 (state_serving 2 3)).state ≡ state_with (2 ∷ 6 ∷ []) (1 ∷ 2 ∷ []) (1 ∷ 3 ∷ []) false false 3
  pub written : (run_of 3 (state_serving 2 3)).state ≡ state_with (2 ∷ 1 ∷ []) (1 ∷ 2 ∷ []) (1 ∷ 3 ∷ []) true false 3
  -- bound back while it is open, scheme 3 goes on
  pub back : (run_of 1 (swap_state (2 ∷ 6 ∷ []) (1 ∷ 2 ∷ []) (1 ∷ 3 ∷ []))).state
      ≡ state_with (2 ∷ 1 ∷ []) (1 ∷ 2 ∷ []) (1 ∷ 3 ∷ []) true false 2
  -- a call clears bit 2 and leaves bit 3
  pub clears : (run_of 1 (state_with (3 ∷ []) (1 ∷ []) (1 ∷ []) true true 3)).state
      ≡ state_with (3 ∷ 6 ∷ []) (1 ∷ 2 ∷ []) (1 ∷ 3 ∷ []) false true 3
  -- the return reads bit 2
  pub reads-one : (run_of 1 (state_with (3 ∷ 1 ∷ []) (1 ∷ 2 ∷ []) (1 ∷ 3 ∷ []) true false 3)).state
      ≡ state_with (4 ∷ []) (1 ∷ []) (1 ∷ []) true false 3
  pub reads-zero : (run_of 1 (state_with (3 ∷ 1 ∷ []) (1 ∷ 2 ∷ []) (1 ∷ 3 ∷ []) false true 3)).state
      ≡ state_with (0 ∷ []) (1 ∷ []) (1 ∷ []) false true 3
  -- the handler's scheme serves number 2 and calls: a drop, which leaves the handler by its own number, and its return scheme 1
  pub drops : (run_of 1 (state_with (2 ∷ 7 ∷ []) (1 ∷ 2 ∷ []) (1 ∷ 4 ∷ []) true true 4)).state
      ≡ state_with (7 ∷ []) (4 ∷ []) (4 ∷ []) true true 4
  pub returns : (run_of 1 (state_with (1 ∷ []) (4 ∷ []) (4 ∷ []) true true 4)).state
      ≡ state_with (0 ∷ []) (1 ∷ []) (1 ∷ []) true true 4
  pub handled : swap_outputs 2 (to_rebind 2 4 ∷ input_word 8 ∷ [])
      ≡ rebinding_done ∷ output_handed (success 8) (0 ∷ 1 ∷ 16 ∷ 16 ∷ 8 ∷ 0 ∷ 0 ∷ 0 ∷ []) (4 ∷ 18 ∷ 96 ∷ 19 ∷ 0 ∷ 3 ∷ 3 ∷ 4 ∷ []) ∷ []
  -- with one place the handler's call gets 17; after a rebinding it still does
  pub stays-full : swap_outputs 1 (input_word 3 ∷ to_rebind 3 2 ∷ input_word 1 ∷ [])
      ≡ output_handed (refusal 17 0 2) (0 ∷ 1 ∷ 7 ∷ []) (4 ∷ 96 ∷ 7 ∷ []) ∷ rebinding_done
      ∷ output_handed (refusal 17 0 0) (7 ∷ []) (7 ∷ []) ∷ []

-- rebindings that are refused, or made
pub record RebindingCases : Type 0 where
  pub number-0 : Bars 0 2
  pub number-1 : Bars 1 2
  pub number-high : Bars 5 2
  pub number-17 : Bars 17 2
  pub scheme-0 : Bars 2 0
  pub scheme-1 : Bars 2 1
  pub scheme-high : Bars 2 5
  -- the handler's number, to itself and to another
  pub handler-itself : Bars 4 4
  pub handler-other : Bars 4 2
  -- another number may be served by the handler's scheme, and any by what serves it already
  pub to-handler : Binds 2 4
  pub to-other : Binds 3 2
  pub same : rebind image_swap (state_serving 2 3) 2 3 ≡ record { reply = success 0; state = state_serving 2 3 }
  pub own : rebind image_swap state_at_home 2 2 ≡ record { reply = success 0; state = state_at_home }
  -- 15 is told first
  pub unfit-first : rebind image_swap (state_serving 2 5) 0 0 ≡ record { reply = refusal 15 0 0; state = state_serving 2 5 }

-- states that fit and that do not
pub record FitnessCases : Type 0 where
  -- above the call of number 2: its own scheme, another, and the return, whatever served; what serves now does not matter
  pub fits-own : IsFit (swap_state (2 ∷ 5 ∷ []) (1 ∷ 2 ∷ []) (1 ∷ 2 ∷ []))
  pub fits-other : IsFit (swap_state (2 ∷ 6 ∷ []) (1 ∷ 2 ∷ []) (1 ∷ 3 ∷ []))
  pub fits-return : IsFit (swap_state (2 ∷ 1 ∷ []) (1 ∷ 2 ∷ []) (1 ∷ 4 ∷ []))
  -- another number than the one called, and none
  pub number-other : IsUnfit (swap_state (2 ∷ 5 ∷ []) (1 ∷ 3 ∷ []) (1 ∷ 2 ∷ []))
  pub number-none : IsUnfit (swap_state (2 ∷ 5 ∷ []) (1 ∷ []) (1 ∷ 2 ∷ []))
  -- a server outside 2 to H, and one that does not own the label
  pub server-first : IsUnfit (swap_state (2 ∷ 1 ∷ []) (1 ∷ 2 ∷ []) (1 ∷ 1 ∷ []))
  pub server-high : IsUnfit (swap_state (2 ∷ 1 ∷ []) (1 ∷ 2 ∷ []) (1 ∷ 5 ∷ []))
  pub server-other : IsUnfit (swap_state (2 ∷ 5 ∷ []) (1 ∷ 2 ∷ []) (1 ∷ 3 ∷ []))
  -- scheme 1 at the bottom by another number, or served by another
  pub bottom-number : IsUnfit (swap_state (2 ∷ []) (2 ∷ []) (1 ∷ []))
  pub bottom-server : IsUnfit (swap_state (2 ∷ []) (1 ∷ []) (2 ∷ []))
  -- the handler at the bottom by its own number, and not so; the same of its return
  pub handler-fits : IsFit (swap_state (7 ∷ []) (4 ∷ []) (4 ∷ []))
  pub handler-number : IsUnfit (swap_state (7 ∷ []) (2 ∷ []) (4 ∷ []))
  pub handler-server : IsUnfit (swap_state (7 ∷ []) (4 ∷ []) (2 ∷ []))
  pub handler-first : IsUnfit (swap_state (7 ∷ []) (1 ∷ []) (1 ∷ []))
  pub return-fits : IsFit (swap_state (1 ∷ []) (4 ∷ []) (4 ∷ []))
  pub return-first : IsUnfit (swap_state (1 ∷ []) (1 ∷ []) (1 ∷ []))
  -- a number or a server that is left above the depth, next to it and in the last place
  pub number-left : IsUnfit (swap_state (2 ∷ []) (1 ∷ 2 ∷ []) (1 ∷ []))
  pub server-left : IsUnfit (swap_state (2 ∷ []) (1 ∷ []) (1 ∷ 2 ∷ []))
  pub number-last : IsUnfit (swap_state (2 ∷ []) (set (padded_numbers (1 ∷ [])) 31 2) (1 ∷ []))
  pub server-last : IsUnfit (swap_state (2 ∷ []) (1 ∷ []) (set (padded_numbers (1 ∷ [])) 31 2))
  -- numbers 2 to H served from 2 to H, the handler's scheme among them
  pub serves-handler : IsFit (state_serving 2 4)
  pub serves-first : IsUnfit (state_serving 2 1)
  pub serves-high : IsUnfit (state_serving 3 5)
  -- the handler's number and those above H by themselves; what stands for number 1 is not looked at
  pub serves-handler-number : IsUnfit (state_serving 4 2)
  pub serves-above : IsUnfit (state_serving 5 2)
  pub serves-last : IsUnfit (state_serving 16 2)
  pub serves-one : IsFit (state_serving 1 2)

-- ---- the calls of a list against the walk of its words, refused calls among them
-- swaps between blocks and within one; swaps around a drop; 17, and swaps after it
abbrev pub calls_across_blocks : List CallInput
calls_across_blocks =
    input_word 7 ∷ to_rebind 4 2 ∷ to_rebind 2 3 ∷ input_word 2 ∷ call_asking_short ∷ to_rebind 2 5 ∷ to_rebind 2 2 ∷ input_word 8 ∷ []

abbrev pub calls_across_drop : List CallInput
calls_across_drop = to_rebind 2 4 ∷ input_word 3 ∷ to_rebind 1 2 ∷ to_rebind 3 2 ∷ input_word 5 ∷ to_rebind 2 3 ∷ input_word 4 ∷ []

abbrev pub calls_across_full : List CallInput
calls_across_full = input_word 3 ∷ to_rebind 0 0 ∷ to_rebind 3 2 ∷ input_word 1 ∷ []

-- the walk of the joined words, each told what serves
abbrev pub walk_of : ℕ → List CallInput → List Tick
walk_of n given = let c = contents chart_swap in walk n c (joined_words c own_binding given)

abbrev pub blocks_ticks : List Tick
blocks_ticks =
    tick_of 4 1 0 4 1 ∷ tick_of 1 1 1 18 1 ∷ tick_of 6 2 4 0 2 ∷ tick_of 7 2 0 3 2
    ∷ tick_of 2 1 0 66 1 ∷ tick_of 6 2 4 0 2 ∷ tick_of 7 2 0 3 2 ∷ tick_of 4 1 0 4 1
    ∷ tick_of 1 1 1 18 1 ∷ tick_of 9 2 8 0 2 ∷ tick_of 10 2 0 3 2 ∷ tick_of 2 1 0 66 1
    ∷ tick_of 6 2 4 0 2 ∷ tick_of 7 2 0 3 2 ∷ tick_of 4 1 0 4 1 ∷ tick_of 1 1 1 18 1
    ∷ tick_of 6 2 4 0 2 ∷ []

abbrev pub drop_ticks : List Tick
drop_ticks =
    tick_of 4 1 0 4 1 ∷ tick_of 1 1 1 18 1 ∷ tick_of 12 2 16 96 2 ∷ tick_of 12 4 16 19 1
    ∷ tick_of 6 3 4 0 2 ∷ tick_of 7 3 0 3 2 ∷ tick_of 13 4 0 3 1 ∷ tick_of 4 1 0 4 1
    ∷ tick_of 1 1 1 18 1 ∷ tick_of 9 2 8 0 2 ∷ tick_of 10 2 0 3 2 ∷ tick_of 2 1 0 66 1 ∷ []

abbrev pub full_ticks : List Tick
full_ticks = tick_of 4 1 0 4 1 ∷ tick_of 1 1 1 96 1 ∷ tick_of 12 4 16 19 1 ∷ tick_of 9 3 8 0 2 ∷ []

pub record WalkedCases : Type 0 where
  pub blocks-walk : walk_of 2 calls_across_blocks ≡ blocks_ticks
  pub drop-walk : walk_of 2 calls_across_drop ≡ drop_ticks
  pub full-walk : walk_of 1 calls_across_full ≡ full_ticks
  pub blocks : swap_outputs 2 calls_across_blocks ≡ walk_outputs 2 (contents chart_swap) calls_across_blocks
  pub dropped : swap_outputs 2 calls_across_drop ≡ walk_outputs 2 (contents chart_swap) calls_across_drop
  pub full : swap_outputs 1 calls_across_full ≡ walk_outputs 1 (contents chart_swap) calls_across_full
