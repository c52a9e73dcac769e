-- Calls in a row, by what their caller has of each: what they leave, the places they count and the ticks they make are those of the list
-- of calls over the states.
use Rattle.std.proofs.Common.{ℕ, ◌+◌, ◌≡◌, refl, ◌∙◌, ap, ap₂, true, false, List, [], ◌∷◌, map, arith, ◌==◌}
use Rattle.std.proofs.lemmas.Grind.{common_steps}
use Rattle.bindings.specs.Binding.{Binding}
use Rattle.charts.specs.Chart.{Chart}
use Rattle.spindles.specs.Spindles.{state_at, depths, SpinOutcome}
use Rattle.spindles.specs.spindle_places.Calls.{Head, new_head, head_after, head_after_all}
use Rattle.spindles.specs.spindle_places.PlacesBalance.{counts, tally, PlacesCounted}
use Rattle.spindles.proofs.spindle_places.PlacesBalance.{places-counted}
use Rattle.spindle_walks.specs.Walks.{is_success, finished_ticks_by}
use Rattle.spindle_calls.specs.ObservedCalls.{ObservedTick, ObservedCall, observed_spin, observed_rebinding, call_of, counts_in, tally_in}
use Rattle.spindle_calls.specs.ObservedCalls.{ObservedBalance, finished_ticks_in}
use Rattle.spindles.specs.spindle_places.Calls as calls
use Rattle.std.proofs.lemmas.Bool.Decides.{nat_tests}

-- ---- one call
-- a refused call has a number that is not 0 and a code of 0; of a finished one mask, code and the depth before it are known
pub data Hears (depth : ℕ) (r : SpinOutcome) (y : ObservedTick) : Type 0 where
  hears_no : is_success r.reply ≡ false → r.code ≡ 0 → (y.number == 0) ≡ false → Hears depth r y
  hears_tick : is_success r.reply ≡ true → y.number ≡ 0 → y.mask ≡ r.mask → y.code ≡ r.code → y.depth ≡ depth → Hears depth r y

abbrev pub HeardFrom : Head → ObservedCall → Type 0
HeardFrom h (observed_spin t k w y) = Hears (state_at h.states k).depth (calls.spin_on h t k w) y
HeardFrom h (observed_rebinding t k n g) = Unit {0}

-- the places that it takes or gives back; a code of 0 counts for none
call-counts : (f : ℕ → ℕ → ℕ) → ((d : ℕ) → f 0 d ≡ 0) → (h : Head) (x : ObservedCall) → HeardFrom h x → counts f h (call_of x) ≡ counts_in f
    x
call-counts f none h x z = grind (arith, nat_tests)

-- ---- any number of calls
pub record CallsRow (h : Head) (said : List ObservedCall) (last : Head) : Type 0 where
  pub left-is : head_after_all h (map call_of said) ≡ last
  pub tallies : (f : ℕ → ℕ → ℕ) → ((d : ℕ) → f 0 d ≡ 0) → tally f h (map call_of said) ≡ tally_in f said
  pub made : (c : Chart) (k : ℕ) (s : Binding) → finished_ticks_by c k s h (map call_of said) ≡ finished_ticks_in c k s said

made-more : (c : Chart) (k : ℕ) (h after : Head) (x : ObservedCall) (rest : List ObservedCall)
    → HeardFrom h x → head_after h (call_of x) ≡ after
    → ((s : Binding) → finished_ticks_by c k s after (map call_of rest) ≡ finished_ticks_in c k s rest)
    → (s : Binding) → finished_ticks_by c k s h (map call_of (x ∷ rest)) ≡ finished_ticks_in c k s (x ∷ rest)
unfolding finished_ticks_by finished_ticks_in
made-more c k h after (observed_spin t j w y) rest z e ih s = grind (arith, common_steps)
made-more c k h after (observed_rebinding t j n g) rest z e ih s = grind (arith, common_steps)

pub row-none : (h : Head) → CallsRow h [] h
unfolding head_after_all tally tally_in finished_ticks_by finished_ticks_in
row-none h = record { left-is = refl; tallies = λ f zero. refl; made = λ c k s. refl }

pub row-more : (h after last : Head) (x : ObservedCall) (rest : List ObservedCall) → HeardFrom h x
    → head_after h (call_of x) ≡ after → CallsRow after rest last
    → CallsRow h (x ∷ rest) last
unfolding head_after_all tally tally_in
row-more h after last x rest z e row = record {
  left-is = ap (λ (g : Head). head_after_all g (map call_of rest)) e ∙ row.left-is;
  tallies = λ f zero. ap₂ (λ (a b : ℕ). a + b) (call-counts f zero h x z)
      (ap (λ (g : Head). tally f g (map call_of rest)) e ∙ row.tallies f zero);
  made = λ c k. made-more c k h after x rest z e (row.made c k);
}

-- ---- from four fresh states
pub row-counted : (a b c d : ℕ) (h : Head) → new_head a b c d ≡ h
    → (said : List ObservedCall) (last : Head) → CallsRow h said last → (sum : ℕ)
    → depths last.states ≡ sum
    → ObservedBalance said sum last.taken
unfolding PlacesCounted
row-counted a b c d h fresh said last row sum deep = grind (arith, common_steps, places-counted)
