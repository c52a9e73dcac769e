-- One tick on any table whose header holds: what it is for each kind of the top label, and that it leaves a depth of 1 to Σ.
use Rattle.std.proofs.Common.{◌≡◌, sym, ap, subst, ◌∙◌, true, false, List, ℕ, zero, suc, ◌-◌, ◌≤◌, ◌<◌, arith, set, length}
use Rattle.std.proofs.Common.{nat_le, get_or-set_same, leb-false}
use Rattle.std.proofs.lemmas.Grind.{common_steps}
use Rattle.results.specs.Results.{Results, with_result, cleared_results}
use Rattle.bindings.specs.Binding.{server_of}
use Rattle.image.specs.Layout.{tick_kind}
use Rattle.image.specs.Image.{Image, Label}
use Rattle.image.specs.Decode.{last_label}
use Rattle.tables.specs.Table.{table_label, table_image}
use Rattle.tables.specs.inner.Asked.{Whole}
use Rattle.tables.proofs.TableReads.{counts-told, label-on, label-above, label-at}
use Rattle.rows.specs.Rows.{Found, found, missing, next_of}
use Rattle.rows.proofs.TableRows.{row-above}
use Rattle.ticks.specs.codes.Codes.{code_of}
use Rattle.state.specs.State.{State, entry_at, number_at}
use Rattle.state.specs.Changes.{with_place, with_bits}
use Rattle.state.specs.declared.State.{State as Kept}
use Rattle.state.specs.Kept.{view}
use Rattle.fitness.specs.Fitness.{has_bad_depth, is_call}
use Rattle.ticks.specs.declared.Stop.TheVariants.{NoRow}
use Rattle.ticks.specs.Tick.{top_of, row_leads, MachineTick, finished, stopped, moved_tick, popped_state, state_alone, opened_state}
use Rattle.ticks.specs.Tick.{is_full_stack_kept, popped_tick, tick_by, tick}
use Rattle.ticks.specs.inner.TickContracts.{beneath, IsStopped, IsFinished}

-- ---- what is answered and left, by what the tick is
module _ (b : List ℕ) (before : Kept) (w : ℕ) where
  abbrev here : MachineTick
  here = tick (table_image b) (view before) w

  -- the label found is put at place d of state t: n is where it leads as a number
  module _ (m k : ℕ) (t : State) (d : ℕ) (f : Found) (is : here ≡ moved_tick m k t d f) (n : ℕ) (e : n ≡ next_of f) where
    pub moved-stops : ((u : ℕ) → f ≡ found u → u < 256) → 256 ≤ n → IsStopped b before w NoRow before
    moved-stops small h = grind (arith, common_steps)

    pub moved-steps : n < 256 → (after : Kept) → view after ≡ with_place t d n → after.depth - 1 ≡ d → d < length t.places
        → IsFinished b before w m k n after
    moved-steps h after p q low = grind (arith, common_steps, get_or-set_same)

-- ---- places of a state with a depth of 1 to Σ
module _ (s : State) (fine : has_bad_depth s ≡ false) where
  module _ (long : length s.places ≡ 32) where
    pub top-inside : s.depth - 1 < length s.places
    top-inside = grind (arith, common_steps)

    pub next-inside : s.depth < s.size → s.depth < length s.places
    next-inside h = grind (arith, common_steps)

-- a label that was put in the place of the top is at the top
pub top-put : (mid after : Kept) (k n : ℕ) → after.places ≡ set mid.places k n → after.depth - 1 ≡ k → k < length mid.places
    → n ≡ top_of (view after)
top-put mid after k n e d h = grind (arith, common_steps, get_or-set_same)

-- ---- one tick, by the label at the top
module _ (b : List ℕ) (s : State) (w : ℕ) where
  abbrev i : Image
  i = table_image b

  abbrev l : ℕ
  l = top_of s

  abbrev x : Label
  x = table_label b l

  abbrev number : ℕ
  number = number_at s (s.depth - 1)

  abbrev bits : Results
  bits = with_result x.result number s.bits

  tick-is : tick i s w ≡ tick_by i s w l x bits (tick_kind x.kind)
  unfolding tick
  tick-is = ap (λ (z : Label). tick_by i s w l z (with_result z.result number s.bits) (tick_kind z.kind)) (label-at b l)

  pub tick-plain : x.kind ≡ 0 → tick i s w ≡ moved_tick x.mask 0 (with_bits s bits) (s.depth - 1) (row_leads i bits l w)
  tick-plain k = grind (arith, common_steps, tick-is)

  -- a label above M holds nothing and has no row
  pub tick-high : last_label b < l → tick i s w ≡ stopped 18
  tick-high h = grind (arith, common_steps, tick-is, label-above, row-above)

  pub tick-home : l ≡ 0 → tick i s w ≡ finished 0 4 (with_place (with_bits s s.bits) (s.depth - 1) (entry_at i 1))
  tick-home e = grind (arith, common_steps, tick-is, label-on)

  -- a call with a place free, and one with none
  pub tick-call : is_call x ≡ true → s.depth < s.size
      → tick i s w ≡ finished x.mask (code_of (tick_kind x.kind) x.called)
      (opened_state s (entry_at i (server_of s.serving x.called)) x.called (server_of s.serving x.called) (cleared_results x.called bits))
  tick-call k h = grind (arith, common_steps, tick-is)

  module _ (k : is_call x ≡ true) (full : s.size ≤ s.depth) where
    pub tick-kept : is_full_stack_kept i s ≡ true → tick i s w ≡ stopped 17
    tick-kept q = grind (arith, common_steps, tick-is)

    pub tick-drops : is_full_stack_kept i s ≡ false
        → tick i s w ≡ finished x.mask 96 (state_alone s (entry_at i i.handler) i.handler (cleared_results i.handler bits))
    tick-drops q = grind (arith, common_steps, tick-is)

  -- a return, and that of the handler
  module _ (y : Whole b) (e : l ≡ 1) where
    pub tick-back : 2 ≤ s.depth → tick i s w ≡ moved_tick 0 3 (popped_state s s.bits) (s.depth - 2) (beneath i s w)
    tick-back h = grind (arith, common_steps, tick-is, label-on, counts-told)

    pub tick-last : s.depth ≤ 1 → tick i s w ≡ finished 0 3 (state_alone s 0 1 s.bits)
    tick-last h = grind (arith, common_steps, tick-is, label-on, counts-told)

  -- ---- a tick that is finished leaves a depth of 1 to Σ, so the next one may be made
  abbrev KeptDepth : MachineTick → Type 0
  KeptDepth (finished m k t) = has_bad_depth t ≡ false
  KeptDepth (stopped n) = Unit {0}

  module _ (fine : has_bad_depth s ≡ false) where
    moved-deep : (m code : ℕ) (t : State) (k : ℕ) (f : Found) → has_bad_depth t ≡ false → KeptDepth (moved_tick m code t k f)
    moved-deep m code t k (found u) h = h
    moved-deep m code t k missing h = tt

    popped-deep : (m : ℕ) (bs : Results) → KeptDepth (popped_tick i s w m bs (nat_le s.depth 1))
    popped-deep m bs = grind (arith, common_steps, leb-false, moved-deep)

    by-deep : (z : Label) (bs : Results) (k : ℕ) → KeptDepth (tick_by i s w l z bs (tick_kind k))
    by-deep z bs zero = grind (arith, common_steps)
    by-deep z bs (suc zero) = grind (arith, common_steps)
    by-deep z bs (suc (suc zero)) = grind (arith, common_steps)
    by-deep z bs (suc (suc (suc zero))) = popped-deep z.mask bs
    by-deep z bs (suc (suc (suc (suc k)))) = grind (arith, common_steps)

    pub stands-on : (m k : ℕ) (t : State) → tick i s w ≡ finished m k t → has_bad_depth t ≡ false
    stands-on m k t e = subst KeptDepth (sym tick-is ∙ e) (by-deep x bits x.kind)
