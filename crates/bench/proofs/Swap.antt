-- The cases of swapped schemes hold, computed on the chart's table.
use Rattle.std.proofs.Common.{◌≡◌, refl, ◌∙◌, ap, sym, List, [], ◌∷◌, ℕ, replicate}
use Rattle.text.specs.frames.Frame.{contents}
use Rattle.text.specs.frames.Answer.{success, refusal}
use Rattle.walk.specs.Walk.{Tick}
use Rattle.state.specs.State.{State, fresh, fresh_state}
use Rattle.runs.specs.Run.{RunOutcome}
use Rattle.rebinding.specs.Rebind.{rebind}
use Rattle.agreement.specs.Agreement.{CallInput, to_rebind, CallOutput, by_rebinding, call_outputs, joined_words, bound, expected_outputs}
use Rattle.agreement.specs.Agreement.{walk_outputs}
use Rattle.agreement.proofs.Images.{rebind_image, run_image, run-image}
use Rattle.bench.specs.Swap.{chart_swap, image_swap, input_word, run_of, output_handed, rebinding_done, swap_outputs, walk_of}
use Rattle.bench.specs.Swap.{calls_across_blocks, calls_across_drop, calls_across_full, blocks_ticks, drop_ticks, full_ticks, ByteCases}
use Rattle.bench.specs.Swap.{SwapCases, RebindingCases, FitnessCases, WalkedCases}
use Rattle.bench.proofs.Computing.{walking, ticking}
use Rattle.bench.proofs.Tables.{table_swap, of-swap, held}
use Rattle.bench.proofs.Rebindings.{rebind-image, chain-image}

on-table : (n : ℕ) (s : State) → run_of n s ≡ run_image table_swap s (replicate n 0) (replicate n 7) (replicate n 7)
on-table n s = run-image image_swap table_swap of-swap.passes of-swap.decodes s (replicate n 0) (replicate n 7) (replicate n 7)

state : (n : ℕ) (s : State) → (run_of n s).state ≡ (run_image table_swap s (replicate n 0) (replicate n 7) (replicate n 7)).state
state n s = ap (λ (r : RunOutcome). r.state) (on-table n s)

reply : (s : State) → (run_of 1 s).reply ≡ (run_image table_swap s (replicate 1 0) (replicate 1 7) (replicate 1 7)).reply
reply s = ap (λ (r : RunOutcome). r.reply) (on-table 1 s)

rebound : (s : State) (h k : ℕ) → rebind image_swap s h k ≡ rebind_image table_swap s h k
rebound = rebind-image (held of-swap)

listed : (n : ℕ) (given : List CallInput)
    → swap_outputs n given ≡ call_outputs (λ t. run_image table_swap) (λ t. rebind_image table_swap) image_swap (fresh n) given
listed n = chain-image (held of-swap) (fresh n)

pub byte-cases : ByteCases
unfolding fresh_state
byte-cases = record { new = refl; zeros = refl }

pub swap-cases : SwapCases
unfolding call_outputs ticking table_swap
swap-cases = record {
  translated = of-swap.translated;
  between = listed 2 (input_word 7 ∷ to_rebind 2 3 ∷ input_word 8 ∷ []);
  within = listed 2 (input_word 2 ∷ to_rebind 2 3 ∷ input_word 6 ∷ []);
  opened = state 2 _;
  swapped = rebound _ 2 3;
  served = state 2 _;
  written = state 3 _;
  back = state 1 _;
  clears = state 1 _;
  reads-one = state 1 _;
  reads-zero = state 1 _;
  drops = state 1 _;
  returns = state 1 _;
  handled = listed 2 (to_rebind 2 4 ∷ input_word 8 ∷ []);
  stays-full = listed 1 (input_word 3 ∷ to_rebind 3 2 ∷ input_word 1 ∷ []);
}

pub rebinding-cases : RebindingCases
unfolding ticking table_swap
rebinding-cases = record {
  number-0 = rebound _ 0 2;
  number-1 = rebound _ 1 2;
  number-high = rebound _ 5 2;
  number-17 = rebound _ 17 2;
  scheme-0 = rebound _ 2 0;
  scheme-1 = rebound _ 2 1;
  scheme-high = rebound _ 2 5;
  handler-itself = rebound _ 4 4;
  handler-other = rebound _ 4 2;
  to-handler = rebound _ 2 4;
  to-other = rebound _ 3 2;
  same = rebound _ 2 3;
  own = rebound _ 2 2;
  unfit-first = rebound _ 0 0;
}

pub fitness-cases : FitnessCases
unfolding ticking table_swap
fitness-cases = record {
  fits-own = reply _;
  fits-other = reply _;
  fits-return = reply _;
  number-other = on-table 1 _;
  number-none = on-table 1 _;
  server-first = on-table 1 _;
  server-high = on-table 1 _;
  server-other = on-table 1 _;
  bottom-number = on-table 1 _;
  bottom-server = on-table 1 _;
  handler-fits = reply _;
  handler-number = on-table 1 _;
  handler-server = on-table 1 _;
  handler-first = on-table 1 _;
  return-fits = reply _;
  return-first = on-table 1 _;
  number-left = on-table 1 _;
  server-left = on-table 1 _;
  number-last = on-table 1 _;
  server-last = on-table 1 _;
  serves-handler = reply _;
  serves-first = on-table 1 _;
  serves-high = on-table 1 _;
  serves-handler-number = on-table 1 _;
  serves-above = on-table 1 _;
  serves-last = on-table 1 _;
  serves-one = reply _;
}

-- ---- the walk, and lists of calls by its ticks
-- Both sides are computed to the outputs that stand here: to compare two computations with each other takes far longer.
by-walk : (n : ℕ) (given : List CallInput) (ts : List Tick) (outputs : List CallOutput) → walk_of n given ≡ ts
    → call_outputs (λ t. run_image table_swap) (λ t. rebind_image table_swap) image_swap (fresh n) given ≡ outputs
    → expected_outputs (contents chart_swap) (bound n ts) ts 0 given ≡ outputs
    → swap_outputs n given ≡ walk_outputs n (contents chart_swap) given
by-walk n given ts outputs e made wanted =
    listed n given ∙ made ∙ sym (ap (λ (us : List Tick). expected_outputs (contents chart_swap) (bound n us) us 0 given) e ∙ wanted)

abbrev rebinding_refused : CallOutput
rebinding_refused = by_rebinding (refusal 22 0 0)

abbrev blocks_outputs : List CallOutput
blocks_outputs =
    output_handed (success 7) (0 ∷ 1 ∷ 4 ∷ 0 ∷ 0 ∷ 4 ∷ 0 ∷ []) (4 ∷ 18 ∷ 0 ∷ 3 ∷ 66 ∷ 0 ∷ 3 ∷ []) ∷ rebinding_refused ∷ rebinding_done
    ∷ output_handed (success 2) (0 ∷ 1 ∷ []) (4 ∷ 18 ∷ []) ∷ output_handed (refusal 16 0 0) [] (7 ∷ []) ∷ rebinding_refused ∷ rebinding_done
    ∷ output_handed (success 8) (8 ∷ 0 ∷ 0 ∷ 4 ∷ 0 ∷ 0 ∷ 1 ∷ 4 ∷ []) (0 ∷ 3 ∷ 66 ∷ 0 ∷ 3 ∷ 4 ∷ 18 ∷ 0 ∷ []) ∷ []

abbrev drop_outputs : List CallOutput
drop_outputs =
    rebinding_done ∷ output_handed (success 3) (0 ∷ 1 ∷ 16 ∷ []) (4 ∷ 18 ∷ 96 ∷ []) ∷ rebinding_refused ∷ rebinding_done
    ∷ output_handed (success 5) (16 ∷ 4 ∷ 0 ∷ 0 ∷ 0 ∷ []) (19 ∷ 0 ∷ 3 ∷ 3 ∷ 4 ∷ []) ∷ rebinding_done
    ∷ output_handed (success 4) (1 ∷ 8 ∷ 0 ∷ 0 ∷ []) (18 ∷ 0 ∷ 3 ∷ 66 ∷ []) ∷ []

abbrev full_outputs : List CallOutput
full_outputs =
    output_handed (refusal 17 0 2) (0 ∷ 1 ∷ 7 ∷ []) (4 ∷ 96 ∷ 7 ∷ []) ∷ rebinding_refused ∷ rebinding_done
    ∷ output_handed (refusal 17 0 0) (7 ∷ []) (7 ∷ []) ∷ []

pub walked-cases : WalkedCases
unfolding walking call_outputs joined_words bound expected_outputs ticking table_swap chart_swap
walked-cases = record {
  blocks-walk = refl;
  drop-walk = refl;
  full-walk = refl;
  blocks = by-walk 2 calls_across_blocks blocks_ticks blocks_outputs refl refl refl;
  dropped = by-walk 2 calls_across_drop drop_ticks drop_outputs refl refl refl;
  full = by-walk 1 calls_across_full full_ticks full_outputs refl refl refl;
}
