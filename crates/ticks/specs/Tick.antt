-- One tick of the machine over an image; refusals 17 and 18.
use Rattle.std.specs.Prelude.{ℕ, suc, ◌+◌, ◌-◌, Bool, true, false, ◌||◌, if◌then◌else◌, nat_le, ◌==◌}
use Rattle.results.specs.Results.{Results, result_of, with_result, cleared_results}
use Rattle.bindings.specs.Binding.{server_of}
use Rattle.text.specs.declared.frames.codes.TheConstants.{PLAIN_CODE, RETURN_CODE, HOME_CODE, OPERATION_CALL_CODE, FUNCTION_CALL_CODE}
use Rattle.text.specs.declared.frames.codes.TheConstants.{DROP_CODE}
use Rattle.text.specs.declared.frames.refusals.TheConstants.{FULL, NO_ROW}
use Rattle.image.specs.Layout.{TickKind, plain, operation_call, function_call, return, home, tick_kind}
use Rattle.image.specs.Image.{Image, Label}
use Rattle.rows.specs.Rows.{Choice, best_row, Found, found, missing, lead_of}
use Rattle.state.specs.State.{State, label_at, entry_at, place_at, number_at}
use Rattle.state.specs.Changes.{with_depth, with_place, with_opened, with_alone, with_bits}
use Rattle.fitness.specs.Fitness.{is_of_handler}

-- the label at the top
abbrev pub top_of : State → ℕ
top_of s = place_at s (s.depth - 1)

-- the result bit of the number that label l calls
abbrev pub called_bit : Image → Results → ℕ → ℕ
called_bit i b l = if result_of (label_at i l).called b then 1 else 0

-- the row that label l takes, with its number among the rows of the image; and where it leads
abbrev pub choice : Image → Results → ℕ → ℕ → Choice
choice i b l w = best_row l w (called_bit i b l) 0 i.rows

abbrev pub row_leads : Image → Results → ℕ → ℕ → Found
row_leads i b l w = lead_of (choice i b l w)

-- a finished tick: mask, code, the state after it; or the number that stops it, and nothing changes
pub data MachineTick : Type 0 where
  finished : ℕ → ℕ → State → MachineTick
  stopped : ℕ → MachineTick

-- the label found is put at place k of state t
abbrev pub moved_tick : ℕ → ℕ → State → ℕ → Found → MachineTick
moved_tick m code t k (found l) = finished m code (with_place t k l)
moved_tick m code t k missing = stopped NO_ROW

-- s with these bits and the top taken off; with one scheme open, h by its own number at label l; with label l of scheme k above the
-- top, which number h called
abbrev pub popped_state : State → Results → State
popped_state s b = with_depth (with_opened (with_bits s b) (s.depth - 1) 0 0 0) (s.depth - 1)

abbrev pub state_alone : State → ℕ → ℕ → Results → State
state_alone s l h b = with_alone (with_bits s b) l h

abbrev pub opened_state : State → ℕ → ℕ → ℕ → Results → State
opened_state s l h k b = with_depth (with_opened (with_bits s b) s.depth l h k) (suc s.depth)

-- a full stack is kept: there is no handler, or it is at the bottom
abbrev pub is_full_stack_kept : Image → State → Bool
is_full_stack_kept i s = i.handler == 0 || is_of_handler i (place_at s 0)

-- a call at depth Σ is refused where the stack is kept, and nothing is done; else all places are dropped, and the handler starts at the
-- bottom with its bit cleared
abbrev pub full_tick : Image → State → ℕ → Results → MachineTick
full_tick i s m b = if is_full_stack_kept i s then stopped FULL
    else finished m DROP_CODE (state_alone s (entry_at i i.handler) i.handler (cleared_results i.handler b))

-- a call of number h, which scheme k serves, at depth Σ as above: else the entry of k is put above the top and the bit of h cleared
abbrev pub pushed_tick : Image → State → ℕ → ℕ → ℕ → ℕ → Results → Bool → MachineTick
pushed_tick i s m code h k b true = full_tick i s m b
pushed_tick i s m code h k b false = finished m code (opened_state s (entry_at i k) h k (cleared_results h b))

-- a return: the top is taken off and the label beneath takes its row; at depth 1, to which a handler brings it, scheme 1 follows at label 0
abbrev pub popped_tick : Image → State → ℕ → ℕ → Results → Bool → MachineTick
popped_tick i s w m b true = finished m RETURN_CODE (state_alone s 0 1 b)
popped_tick i s w m b false = moved_tick m RETURN_CODE (popped_state s b) (s.depth - 2) (row_leads i b (place_at s (s.depth - 2)) w)

-- by the tick kind of the top label l, which holds x, with the bits after its result
abbrev pub tick_by : Image → State → ℕ → ℕ → Label → Results → TickKind → MachineTick
tick_by i s w l x b plain = moved_tick x.mask PLAIN_CODE (with_bits s b) (s.depth - 1) (row_leads i b l w)
tick_by i s w l x b operation_call =
    pushed_tick i s x.mask (OPERATION_CALL_CODE + x.called) x.called (server_of s.serving x.called) b (nat_le s.size s.depth)
tick_by i s w l x b function_call =
    pushed_tick i s x.mask (FUNCTION_CALL_CODE + x.called) x.called (server_of s.serving x.called) b (nat_le s.size s.depth)
tick_by i s w l x b return = popped_tick i s w x.mask b (nat_le s.depth 1)
tick_by i s w l x b home = moved_tick x.mask HOME_CODE (with_bits s b) (s.depth - 1) (found (entry_at i 1))

-- a result goes to the bit of the number that the top's scheme was called by
unfoldable pub tick : Image → State → ℕ → MachineTick
tick i s w = let l = place_at s (s.depth - 1) in let x = label_at i l in
    tick_by i s w l x (with_result x.result (number_at s (s.depth - 1)) s.bits) (tick_kind x.kind)
