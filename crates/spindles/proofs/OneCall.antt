-- A call, on an image or on a table, by the machine's tick on the image that is meant; and what a refused call leaves.
use Rattle.std.proofs.Common.{if◌then◌else◌, ℕ, suc, ◌+◌, ◌-◌, Bool, true, false, ◌≡◌, refl, sym, ◌∙◌, List}
use Rattle.std.proofs.Common.{set, arith}
use Rattle.std.proofs.lemmas.Grind.{common_steps}
use Rattle.text.specs.frames.Frame.{contents}
use Rattle.text.specs.frames.Verdict.{Verdict, fine, refused, next, when}
use Rattle.text.specs.frames.Answer.{reply_number, success, refusal}
use Rattle.text.proofs.frames.Verdicts.{next-rest, when-fine}
use Rattle.image.specs.Image.{Image}
use Rattle.image.specs.Decode.{decoded_image}
use Rattle.image.specs.Check.{image_verdict}
use Rattle.tables.specs.Table.{is_bad_table, table_image}
use Rattle.state.specs.State.{State}
use Rattle.fitness.specs.Fitness.{is_unfit}
use Rattle.ticks.specs.Tick.{MachineTick, finished, stopped, tick}
use Rattle.runs.specs.Run.{ticks}
use Rattle.runs.specs.TickOutcome.{TickOutcome}
use Rattle.runs.specs.inner.Sources.{sourced_run, sourced_tick}
use Rattle.runs.proofs.machine.Sourced.{text-tick, table-tick}
use Rattle.runs.proofs.machine.OneTick.{advance_by, advance-by}
use Rattle.spindles.specs.Spindles.{state_at, head_verdict, SpinOutcome, outcome_turned_back, is_none_left, outcome_spun_by}
use Rattle.spindles.specs.Spindles.{outcome_spun_on, spin, live_spin}
use Rattle.spindles.specs.inner.Parts.{sourced_spin}
use Rattle.spindles.specs.Laws.{Unchanged, RefusedLeaves, FullFirst, LevelGoes}

-- ---- a tick by any source of a table
abbrev pub tick_tried : Verdict → Image → State → Verdict
tick_tried v i s = next v λ _. when 15 (is_unfit i s)

pub sourced-tick-by : (v : Verdict) (i : Image) (s : State) (w : ℕ) → sourced_tick v i s w ≡ advance_by s (tick_tried v i s) (tick i s w)
unfolding sourced_tick sourced_run ticks
sourced-tick-by v i s w = grind (arith, common_steps)

-- ---- a call by the verdict on image or table, and the image that is meant
abbrev pub tick_by_verdict : Verdict → Image → State → ℕ → TickOutcome
tick_by_verdict v i s w = advance_by s (tick_tried v i s) (tick i s w)

abbrev pub spin_by : Verdict → Image → List State → ℕ → ℕ → ℕ → SpinOutcome
spin_by v i states taken k w =
    outcome_spun_on (head_verdict v states taken k) states taken k (λ _. tick_by_verdict v i (state_at states k) w)

sourced-spin-by : (v : Verdict) (i : Image) (states : List State) (taken k w : ℕ)
    → sourced_spin v i states taken k w ≡ spin_by v i states taken k w
unfolding sourced_spin
sourced-spin-by v i states taken k w = grind (arith, common_steps, sourced-tick-by)

-- on an image, and on a prepared table
pub text-spin : (t : List ℕ) (states : List State) (taken k w : ℕ)
    → sourced_spin (image_verdict t) (decoded_image (contents t)) states taken k w ≡ spin t states taken k w
unfolding sourced_spin spin
text-spin t states taken k w = grind (arith, common_steps, text-tick)

pub table-spin : (b : List ℕ) (states : List State) (taken k w : ℕ)
    → sourced_spin (when 11 (is_bad_table b)) (table_image b) states taken k w ≡ live_spin b states taken k w
unfolding sourced_spin live_spin
table-spin b states taken k w = grind (arith, common_steps, table-tick)

pub ruleset sourced = (text-spin, table-spin)

pub spin-by : (t : List ℕ) (states : List State) (taken k w : ℕ)
    → spin t states taken k w ≡ spin_by (image_verdict t) (decoded_image (contents t)) states taken k w
spin-by t states taken k w = sym (text-spin t states taken k w) ∙ sourced-spin-by _ _ states taken k w

pub live-spin-by : (b : List ℕ) (states : List State) (taken k w : ℕ)
    → live_spin b states taken k w ≡ spin_by (when 11 (is_bad_table b)) (table_image b) states taken k w
live-spin-by b states taken k w = sym (table-spin b states taken k w) ∙ sourced-spin-by _ _ states taken k w

-- ---- a state put back where it was

-- a tick that is refused takes no place and leaves all
pub kept-by : (states : List State) (taken k n i : ℕ)
    → outcome_spun_by states taken k (record { reply = refusal n i 0; mask = 0; code = 0; state = state_at states k })
    ≡ outcome_turned_back n i states taken
kept-by states taken k n i = grind (arith, common_steps)

-- what a call comes to: it is refused, or all that is tried before the tick is passed, and the tick is finished and finds its place
pub data Comes (v : Verdict) (i : Image) (states : List State) (taken k w : ℕ) : SpinOutcome → Type 0 where
  turns_back : (n j : ℕ) → Comes v i states taken k w (outcome_turned_back n j states taken)
  on : (m code : ℕ) (t : State) → head_verdict v states taken k ≡ fine → is_unfit i (state_at states k) ≡ false
      → tick i (state_at states k) w ≡ finished m code t → is_none_left (state_at states k).depth t.depth taken ≡ false
      → Comes v i states taken k w (record {
        reply = success 1;
        mask = m;
        code = code;
        states = set states k t;
        taken = taken + t.depth - (state_at states k).depth;
      })

module _ (v : Verdict) (i : Image) (states : List State) (taken k w : ℕ) where
  abbrev s : State
  s = state_at states k

  comes-by : head_verdict v states taken k ≡ fine → (u : Verdict) → tick_tried v i s ≡ u → (d : MachineTick) → tick i s w ≡ d
      → Comes v i states taken k w (outcome_spun_by states taken k (advance_by s u d))
  comes-by h (refused n j) f d e = rw (kept-by) (turns_back n j)
  comes-by h fine f (stopped n) e = rw (kept-by) (turns_back n 0)
  comes-by h fine f (finished m code t) e = go (is_none_left s.depth t.depth taken) refl
    where
      go : (b : Bool) → is_none_left s.depth t.depth taken ≡ b
          → Comes v i states taken k w (if b then outcome_turned_back 26 0 states taken
          else record { reply = success 1; mask = m; code = code; states = set states k t; taken = taken + t.depth - s.depth })
      go true q = turns_back 26 0
      go false q = on m code t h (when-fine 15 (is_unfit i s) (next-rest v (λ _. when 15 (is_unfit i s)) f)) e q

  pub comes : Comes v i states taken k w (spin_by v i states taken k w)
  comes = go (head_verdict v states taken k) refl
    where
      go : (h : Verdict) → head_verdict v states taken k ≡ h
          → Comes v i states taken k w (outcome_spun_on h states taken k (λ _. tick_by_verdict v i (state_at states k) w))
      go (refused n j) e = turns_back n j
      go fine e = comes-by e (tick_tried v i s) refl (tick i s w) refl

  leaves : {r : SpinOutcome} → Comes v i states taken k w r → (n : ℕ) → reply_number r.reply ≡ suc n → Unchanged states taken r
  leaves (turns_back m j) n e = record { states = refl; taken = refl; mask = refl; code = refl }
  leaves (on m code t h u f g) n e = absurd (omega arith)

  -- a tick that is refused with 17, and one that ends no deeper than it began
  full-by : head_verdict v states taken k ≡ fine → (u : Verdict) (d : MachineTick) → (advance_by s u d).reply ≡ refusal 17 0 0
      → (outcome_spun_on (head_verdict v states taken k) states taken k (λ _. advance_by s u d)).reply ≡ refusal 17 0 0
  full-by h u d e = grind (arith, common_steps)

pub full-first : FullFirst
unfolding FullFirst spin
full-first t states taken k w h e = grind (arith, common_steps, advance-by, full-by)

pub level-goes : LevelGoes
unfolding LevelGoes spin
level-goes t states taken k w h l = grind (arith, common_steps)

pub refused-leaves : RefusedLeaves spin
unfolding RefusedLeaves
refused-leaves t states taken k w = grind (arith, common_steps, spin-by, comes, leaves)

pub live-refused-leaves : RefusedLeaves live_spin
unfolding RefusedLeaves
live-refused-leaves b states taken k w = rw (live-spin-by) (leaves _ _ states taken k w (comes _ _ states taken k w))
