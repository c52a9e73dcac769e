-- The answers of a rebinding on a table, by what its tests give.
use Rattle.std.proofs.Common.{ℕ, ◌≤◌, ◌≡◌, refl, sym, ap, ap₂, ◌∙◌, Bool, true, false, List, arith, length, Ok, Err}
use Rattle.std.proofs.lemmas.Grind.{common_steps}
use Rattle.bindings.specs.Binding.{rebound_binding, is_bad_rebinding}
use Rattle.text.specs.frames.Verdict.{fine, next, when}
use Rattle.text.specs.frames.Answer.{Answer, refusal, reply}
use Rattle.text.specs.declared.frames.refusals.Refusal.TheVariants.{Unfit, BadRebinding}
use Rattle.image.specs.Decode.{scheme_count, handler_in}
use Rattle.tables.specs.Table.{table_image}
use Rattle.tables.proofs.TableReads.{entries-count}
use Rattle.state.specs.declared.State.{State as Kept}
use Rattle.state.specs.State.{State, StateOutcome}
use Rattle.state.specs.Changes.{with_serving}
use Rattle.state.specs.Kept.{view, stored}
use Rattle.fitness.specs.Fitness.{is_unfit}
use Rattle.rebinding.specs.Rebind.{rebind_on, GivesRebindingOn}
use Rattle.rebinding.specs.inner.Sources.{sourced_rebind}

-- a refusal hands back what it was given
abbrev pub kept_state : ℕ → ℕ → State → StateOutcome
kept_state n j s = record { reply = refusal n j 0; state = s }

pub kept-rebinds : (x : StateOutcome) (before : Kept) (n j : ℕ) (s : State) → x ≡ kept_state n j s
    → 1 ≤ n → (a : Answer) → reply a ≡ refusal n j 0
    → GivesRebindingOn x before a before
kept-rebinds x before n j s g l a e = grind (arith, common_steps)

-- ---- on a table: t says whether the state is unfit, u whether the rebinding is refused
module _ (b : List ℕ) (before : Kept) (h k : ℕ) (t : Bool) (e : t ≡ is_unfit (table_image b) (view before)) where
  abbrev s : State
  s = view before

  abbrev answers : Bool → Bool → StateOutcome
  answers t u = rebind_on (next (when 15 t) λ _. when 22 u) s h k

  pub unfit-rebinds : t ≡ true → GivesRebindingOn (sourced_rebind fine (table_image b) s h k) before (Err Unfit) before
  unfolding sourced_rebind
  unfit-rebinds q = grind (arith, common_steps)

  module _ (fit : t ≡ false) (u : Bool) (f : u ≡ is_bad_rebinding (scheme_count b) (handler_in b) h k) where
    refused-by : is_bad_rebinding (length (table_image b).entries) (table_image b).handler h k ≡ u
    unfolding table_image
    refused-by = ap (λ (n : ℕ). is_bad_rebinding n (handler_in b) h k) (entries-count b) ∙ sym f

    table-is : sourced_rebind fine (table_image b) s h k ≡ answers false u
    unfolding sourced_rebind
    table-is = ap₂ answers (sym e ∙ fit) refused-by

    pub bad-rebinds : u ≡ true → GivesRebindingOn (sourced_rebind fine (table_image b) s h k) before (Err BadRebinding) before
    bad-rebinds q = grind (arith, common_steps, kept-rebinds, table-is)

    pub done-rebinds : u ≡ false → (bound after : Kept) → view bound ≡ with_serving s (rebound_binding h k s.serving)
        → after ≡ stored (view bound)
        → GivesRebindingOn (sourced_rebind fine (table_image b) s h k) before (Ok 0) after
    done-rebinds q bound after x y = rw (table-is ∙ ap (answers false) q) (record { answered = refl; state = y ∙ ap stored x })
