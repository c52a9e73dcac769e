-- One call of any kind that meets its contract hands back what a run or a rebinding on the image's text does:
-- a tick is a run of one word, and live calls are those on the text.
use Rattle.std.proofs.Common.{if◌then◌else◌, ℕ, ◌≤◌, ◌≡◌, refl, sym, ◌∙◌, List, [], ◌∷◌, take, arith, ◌==◌}
use Rattle.std.proofs.lemmas.Grind.{common_steps}
use Rattle.text.specs.frames.Frame.{contents}
use Rattle.text.specs.frames.Verdict.{next}
use Rattle.text.specs.frames.Answer.{Answer, success, reply_number}
use Rattle.image.specs.Decode.{decoded_image}
use Rattle.image.specs.Check.{image_verdict}
use Rattle.tables.specs.Prepare.{prepare}
use Rattle.state.specs.declared.State.{State as Kept}
use Rattle.state.specs.State.{State, StateOutcome}
use Rattle.state.specs.Kept.{view, stored}
use Rattle.runs.specs.Run.{RunOutcome, run_verdict, run}
use Rattle.runs.specs.TickOutcome.{TickOutcome, image_tick, TickAnswer}
use Rattle.runs.specs.InPlace.{state_after, if_ticked, GivesRunOn, GivesTickOn}
use Rattle.runs.proofs.machine.Held.{run-held, tick-held}
use Rattle.rebinding.specs.Rebind.{rebind_verdict, rebind, live_rebind, GivesRebindingOn}
use Rattle.rebinding.proofs.Held.{rebinding-held}
use Rattle.rebinding.proofs.Live.{live-rebind-is}
use Rattle.runs.specs.machine.Live.{live_run, live_tick}
use Rattle.runs.proofs.machine.OneTick.{run_of_tick, run-advance}
use Rattle.runs.specs.machine.Prepared.{PreparedTable}
use Rattle.runs.proofs.machine.Live.{live-run-is, live-tick-is}
use Rattle.agreement.specs.Agreement.{RunInput, output_of, CallInput, to_run, to_rebind, CallOutput, by_run, by_rebinding, call_outputs}
use Rattle.agreement.specs.Calls.{TableOf, prepared, output_of_run, output_of_rebinding, one_word, output_of_tick, Call, run_call}
use Rattle.agreement.specs.Calls.{run_call_live, tick_call, tick_call_live, rebind_call, rebind_call_live}
use Rattle.agreement.specs.LiveCalls.{PreparedActs}
use Rattle.tables.proofs.PreparedImage as tables
use Rattle.std.proofs.lemmas.Bool.Decides.{nat_tests}

-- a rebinding on the table that was prepared from an image is the image's own, from every state
pub prepared-rebind-is : {t b : List ℕ} → PreparedTable t b → (s : State) (h k : ℕ) → live_rebind b s h k ≡ rebind t s h k
prepared-rebind-is {t} {b} p = live-rebind-is t b p.header p.holds p.accepted

-- where prepare succeeds, its buffer holds the image, with or without what stands behind the table
module _ (t old : List ℕ) (n : ℕ) (e : (prepare t old).reply ≡ success n) (m : ℕ) (h : n ≤ m) where
  abbrev table : List ℕ
  table = take m (prepare t old).buffer

  pub prepared-holds : PreparedTable t table
  prepared-holds = let p = tables.prepared t old n e in record { header = p.good m h; holds = p.image m h; accepted = p.accepted }

  -- on such a table, from every state and whatever is asked, the live run is the run, the live tick is the tick and so with a rebinding
  pub prepared-run : (s : State) (ws ms ks : List ℕ) → live_run table s ws ms ks ≡ run t s ws ms ks
  prepared-run = live-run-is prepared-holds

  pub prepared-tick : (s : State) (w : ℕ) → live_tick table s w ≡ image_tick t s w
  prepared-tick = live-tick-is prepared-holds

  pub prepared-rebind : (s : State) (number scheme : ℕ) → live_rebind table s number scheme ≡ rebind t s number scheme
  prepared-rebind = prepared-rebind-is prepared-holds

pub prepared-acts : PreparedActs
unfolding PreparedActs
prepared-acts t old n e m h = search (arith, prepared-run, prepared-tick, prepared-rebind)

-- ---- what is asked for: what it hands back, and the state after it
abbrev pub run_asked : List ℕ → State → RunInput → RunOutcome
run_asked image s a = run image s a.words a.masks a.codes

abbrev pub handed_output : List ℕ → State → CallInput → CallOutput
handed_output image s (to_run a) = by_run (output_of (run_asked image s a))
handed_output image s (to_rebind h k) = by_rebinding (rebind image s h k).reply

abbrev pub handed_state : List ℕ → State → CallInput → State
handed_state image s (to_run a) = (run_asked image s a).state
handed_state image s (to_rebind h k) = (rebind image s h k).state

pub chain-more : (image : List ℕ) (s : State) (g : CallInput) (rest : List CallInput)
    → call_outputs run rebind image s (g ∷ rest) ≡ handed_output image s g ∷ call_outputs run rebind image (handed_state image s g) rest
unfolding call_outputs
chain-more image s g rest = grind (arith, nat_tests)

-- ---- one call
pub record Like (image : List ℕ) (s : Kept) (g : CallInput) (d : CallOutput) (after : Kept) : Type 0 where
  pub handed-is : d ≡ handed_output image (view s) g
  pub state-is : view after ≡ handed_state image (view s) g

-- a call of prepare that succeeded
pub table-prepared : (image : List ℕ) {table : List ℕ} → TableOf image table → PreparedTable image table
table-prepared image (prepared before after answer c n e k h) = grind (arith, prepared-holds image before n (sym c.answered ∙ e) k h)

module _ (image : List ℕ) (s : Kept) where
  -- after a run, a tick and a rebinding the state kept is the one that it hands back
  pub ran-holds : (a : RunInput) → view (state_after s (run_asked image (view s) a)) ≡ (run_asked image (view s) a).state
  unfolding run
  ran-holds a = search (arith, run-held)

  pub ticked-holds : (w : ℕ) → let x = image_tick image (view s) w in view (if_ticked x (stored x.state) s) ≡ x.state
  unfolding image_tick run
  ticked-holds w = tick-held s (decoded_image (contents image)) w (run_verdict image (view s) (w ∷ []) (0 ∷ []) (0 ∷ []))

  pub rebound-holds : (h k : ℕ) → let x = rebind image (view s) h k in
      view (if reply_number x.reply == 0 then stored x.state else s) ≡ x.state
  unfolding rebind
  rebound-holds h k = rebinding-held s h k (next (image_verdict image) λ _. rebind_verdict (decoded_image (contents image)) (view s) h k)

  run-like : (a : RunInput) {x : RunOutcome} {r : Answer} {after : Kept} {masks codes : List ℕ} → x ≡ run_asked image (view s) a
      → GivesRunOn x s r after masks codes → Like image s (to_run a) (output_of_run r masks codes) after
  run-like a {x} {r} {after} {masks} {codes} e c = grind (arith, common_steps, ran-holds)

  tick-like : (w : ℕ) {x : TickOutcome} {r : TickAnswer} {after : Kept} → x ≡ image_tick image (view s) w → GivesTickOn x s r after
      → Like image s (one_word w 0 0) (output_of_tick r) after
  tick-like w {x} {r} {after} e c = grind (arith, common_steps, run_of_tick, run-advance, ticked-holds)

  rebinding-like : (h k : ℕ) {x : StateOutcome} {r : Answer} {after : Kept} → x ≡ rebind image (view s) h k
      → GivesRebindingOn x s r after → Like image s (to_rebind h k) (output_of_rebinding r) after
  rebinding-like h k {x} {r} {after} e c = grind (arith, common_steps, rebound-holds)

  pub call-like : {g : CallInput} {d : CallOutput} {after : Kept} → Call image s g d after → Like image s g d after
  call-like (run_call {a = a} c) = run-like a refl c
  call-like (run_call_live {a = a} t c) = run-like a (live-run-is (table-prepared image t) (view s) a.words a.masks a.codes) c
  call-like (tick_call {w = w} c) = tick-like w refl c
  call-like (tick_call_live {w = w} t c) = tick-like w (live-tick-is (table-prepared image t) (view s) w) c
  call-like (rebind_call {h = h} {k = k} c) = rebinding-like h k refl c
  call-like (rebind_call_live {h = h} {k = k} t c) = rebinding-like h k (prepared-rebind-is (table-prepared image t) (view s) h k) c
