-- The answers of a run and of one tick on a table, by what their parts give.
use Rattle.std.proofs.Common.{◌≡◌, refl, sym, ◌∙◌, ap, Bool, true, false, List, [], ◌∷◌, ℕ, ◌≤◌, arith, nat_le, slice_index}
use Rattle.std.proofs.Common.{Ok, Err}
use borrow.Author.Tests.{lt-leb}
use Rattle.std.proofs.lemmas.Grind.{common_steps}
use Rattle.words.proofs.lists.Tests.{or-l, and-no}
use Rattle.text.specs.frames.Verdict.{fine, next, when}
use Rattle.text.specs.frames.Answer.{Answer, success, refusal, reply_number, reply, counted_reply}
use Rattle.text.specs.declared.frames.refusals.Refusal.{Refusal}
use Rattle.text.specs.declared.frames.refusals.Refusal.TheVariants.{Unfit, NoRoom}
use Rattle.image.specs.Image.{Image}
use Rattle.tables.specs.Table.{table_image}
use Rattle.state.specs.State.{State}
use Rattle.state.specs.declared.State.{State as Kept}
use Rattle.state.specs.Kept.{view, stored}
use Rattle.fitness.specs.Fitness.{has_bad_depth, is_unfit}
use Rattle.runs.specs.declared.RunEnd.{RunEnd}
use Rattle.ticks.specs.Tick.{finished, stopped, tick}
use Rattle.runs.specs.Run.{MachineRun, RunOutcome, ticks, has_no_room, run_on}
use Rattle.runs.specs.TickOutcome.{TickOutcome, tick_outcome}
use Rattle.runs.specs.InPlace.{is_without_change, state_after, GivesRunOn, GivesTickOn}
use Rattle.ticks.specs.declared.Stop.{Stop}
use Rattle.runs.specs.declared.RunEnd.TheVariants.{Over, Full, NoRow}
use Rattle.ticks.specs.declared.Tick.{Tick}
use Rattle.ticks.specs.inner.TickContracts.{number_of, IsStopped}
use Rattle.runs.specs.inner.RunContracts.{verdict_of, count_of, GivesRunEnd}
use Rattle.runs.specs.inner.Sources.{sourced_run, sourced_tick}
use Rattle.runs.proofs.TurnCases.{stopped_after}

-- ---- which numbers leave the state

pub late-writes : (n : ℕ) → 17 ≤ n → is_without_change n ≡ false
late-writes n h = and-no (nat_le 1 n) _ (lt-leb n _ (omega arith))

-- a run that is refused before its first tick keeps what it was given
abbrev pub kept_run : ℕ → ℕ → State → List ℕ → List ℕ → RunOutcome
kept_run n j s ms ks = record { reply = refusal n j 0; state = s; masks = ms; codes = ks }

pub kept-runs : (x : RunOutcome) (before : Kept) (ms ks : List ℕ) (n j : ℕ) (s : State) → x ≡ kept_run n j s ms ks
    → 1 ≤ n → n ≤ 16 → (a : Answer) → reply a ≡ refusal n j 0
    → GivesRunOn x before a before ms ks
unfolding state_after
kept-runs x before ms ks n j s g l h a e = grind (arith, common_steps)

-- a state that fits has a depth of 1 to Σ
pub fits-deep : (i : Image) (s : State) → is_unfit i s ≡ false → has_bad_depth s ≡ false
unfolding is_unfit
fits-deep i s e = or-l (has_bad_depth s) _ (or-l _ _ (or-l _ _ (or-l _ _ e)))

-- ---- a run on a table
module _ (b : List ℕ) (before : Kept) (ws ms₀ ks₀ : List ℕ) where
  abbrev s : State
  s = view before

  abbrev given : RunOutcome
  given = sourced_run fine (table_image b) s ws ms₀ ks₀

  abbrev ran : MachineRun
  ran = ticks (table_image b) s ws

  table-unfit : is_unfit (table_image b) s ≡ true → given ≡ kept_run 15 0 s ms₀ ks₀
  unfolding sourced_run
  table-unfit e = ap (λ (t : Bool). run_on (next (when 15 t) λ _. when 16 (has_no_room ws ms₀ ks₀)) (λ _. ran) s ms₀ ks₀) e

  table-short : is_unfit (table_image b) s ≡ false → has_no_room ws ms₀ ks₀ ≡ true → given ≡ kept_run 16 0 s ms₀ ks₀
  unfolding sourced_run
  table-short e f = grind (arith, common_steps)

  table-runs : is_unfit (table_image b) s ≡ false → has_no_room ws ms₀ ks₀ ≡ false → given ≡ run_on fine (λ _. ran) s ms₀ ks₀
  unfolding sourced_run
  table-runs e f = grind (arith, common_steps)

  pub unfit-answer : (t : Bool) → t ≡ is_unfit (table_image b) s → t ≡ true → GivesRunOn given before (Err Unfit) before ms₀ ks₀
  unfit-answer t e h = kept-runs given before ms₀ ks₀ 15 0 s (table-unfit (sym e ∙ h)) (omega arith) (omega arith) (Err Unfit) refl

  pub short-answer : (t : Bool) → t ≡ is_unfit (table_image b) s → t ≡ false → (u : Bool) → u ≡ has_no_room ws ms₀ ks₀ → u ≡ true
      → GivesRunOn given before (Err NoRoom) before ms₀ ks₀
  short-answer t e h u f g = kept-runs given before ms₀ ks₀ 16 0 s (table-short (sym e ∙ h) (sym f ∙ g))
      (omega arith) (omega arith) (Err NoRoom) refl

-- neither success nor 17 and 18 leave the state
writes : (x : RunEnd) (m : ℕ) → is_without_change (reply_number (counted_reply (verdict_of x) m)) ≡ false
writes (Over n) m = refl
writes (Full n) m = refl
writes (NoRow n) m = refl

pub ran-answer : {b : List ℕ} {before : Kept} {ws ms₀ ks₀ : List ℕ} {t u : Bool} → t ≡ is_unfit (table_image b) (view before) → t ≡ false
    → u ≡ has_no_room ws ms₀ ks₀ → u ≡ false → {r : RunEnd} {mid after : Kept} {ms ks : List ℕ} → GivesRunEnd b before ws ms₀ ks₀ r mid ms ks
    → after ≡ stored (view mid) → {x : RunEnd} → r ≡ x → {a : Answer} → reply a ≡ counted_reply (verdict_of x) (count_of x)
    → GivesRunOn (sourced_run fine (table_image b) (view before) ws ms₀ ks₀) before a after ms ks
unfolding state_after
ran-answer e h f g ends tidied p q = grind (arith, common_steps, table-runs, writes)

-- ---- one tick by the loop over one word

module _ {b : List ℕ} {before : Kept} {w : ℕ} {r : RunEnd} {mid : Kept} {ms ks : List ℕ}
    (ends : GivesRunEnd b before (w ∷ []) (0 ∷ []) (0 ∷ []) r mid ms ks) where
  pub one-stopped-by : (y : Stop) (n : ℕ) → r ≡ stopped_after y n → IsStopped b before w y mid
  unfolding ticks
  one-stopped-by y n e = grind (arith, common_steps)

  pub one-finished : {n : ℕ} → r ≡ Over n → tick (table_image b) (view before) w ≡ finished (slice_index ms 0) (slice_index ks 0) (view mid)
  unfolding ticks
  one-finished e = grind (arith, common_steps)

-- ---- one tick on a table
module _ (b : List ℕ) (before : Kept) (w : ℕ) where
  abbrev state₀ : State
  state₀ = view before

  abbrev one : TickOutcome
  one = sourced_tick fine (table_image b) state₀ w

  abbrev tick_refused_by : ℕ → TickOutcome
  tick_refused_by n = record { reply = refusal n 0 0; mask = 0; code = 0; state = state₀ }

  one-unfit : is_unfit (table_image b) state₀ ≡ true → one ≡ tick_refused_by 15
  unfolding sourced_tick
  one-unfit e = ap tick_outcome (table-unfit b before (w ∷ []) (0 ∷ []) (0 ∷ []) e)

  one-stopped : is_unfit (table_image b) state₀ ≡ false → (n : ℕ) → tick (table_image b) state₀ w ≡ stopped n → one ≡ tick_refused_by n
  unfolding sourced_tick ticks
  one-stopped e n q = grind (arith, common_steps, table-runs)

  one-ticked : is_unfit (table_image b) state₀ ≡ false → (m k : ℕ) (t : State) → tick (table_image b) state₀ w ≡ finished m k t
      → one ≡ record { reply = success 1; mask = m; code = k; state = t }
  unfolding sourced_tick ticks
  one-ticked e m k t q = grind (arith, common_steps, table-runs)

  pub refused-advances : (n : ℕ) → (n ≡ 0 → ⊥) → one ≡ tick_refused_by n → (r : Refusal) → reply (Err r) ≡ refusal n 0 0
      → GivesTickOn one before (Err r) before
  refused-advances n h e r q = grind (arith, common_steps)

  module _ (t : Bool) (e : t ≡ is_unfit (table_image b) state₀) where
    pub tick-unfit : t ≡ true → GivesTickOn one before (Err Unfit) before
    tick-unfit h = refused-advances 15 (λ z. omega arith) (one-unfit (sym e ∙ h)) Unfit refl

    module _ (h : t ≡ false) (mid : Kept) where
      pub tick-stopped : (y : Stop) → IsStopped b before w y mid → (x : Refusal) → reply (Err x) ≡ refusal (number_of y) 0 0
          → GivesTickOn one before (Err x) mid
      tick-stopped y q x p = grind (arith, common_steps, one-stopped, refused-advances)

      pub tick-finished : (r : Tick) → tick (table_image b) state₀ w ≡ finished r.mask r.code (view mid)
          → (after : Kept) → after ≡ stored (view mid) → GivesTickOn one before (Ok r) after
      tick-finished r q after u = grind (arith, common_steps, one-ticked)
