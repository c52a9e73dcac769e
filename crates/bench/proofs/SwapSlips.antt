-- Slips of a rebinding, and of a run under one, each shown not to meet the agreement.
use Rattle.std.proofs.lemmas.Bool.{eqb-false}
use Rattle.std.proofs.Common.{◌≡◌, refl, ◌∙◌, ap, sym, List, [], ◌∷◌, ℕ, arith, length, replicate, nat_eq}
use Rattle.std.specs.List.{list_any}
use Rattle.text.specs.frames.Frame.{contents}
use Rattle.text.specs.frames.Answer.{reply_number}
use Rattle.image.specs.Image.{Image}
use Rattle.image.specs.Decode.{decoded_image}
use Rattle.state.specs.State.{State, fresh}
use Rattle.runs.specs.Run.{run}
use Rattle.rebinding.specs.Rebind.{rebind}
use Rattle.agreement.specs.Agreement.{RunOutput, output_of, CallInput, to_rebind, call_outputs}
use Rattle.agreement.proofs.Images.{run_image, rebind_image, run-image}
use Rattle.bench.specs.Swap.{image_swap}
use Rattle.bench.specs.SwapSlips.{Swapper, rebind_by, notes, counts_at_return, swaps_open, binds_refused, writes_by_server, reads_by_server}
use Rattle.bench.specs.SwapSlips.{kept_by_server, shows_server, ActsLaterFails, KeepsBindingFails, RebindsHandlerFails, CountsAtReturnFails}
use Rattle.bench.specs.SwapSlips.{SwapsOpenFails, BindsRefusedFails, WritesByServerFails, ReadsByServerFails, KeptByServerFails}
use Rattle.bench.specs.SwapSlips.{ShowsServerFails}
use Rattle.bench.proofs.Computing.{ticking}
use Rattle.bench.proofs.Tables.{TranslatesTo, held, table_swap, of-swap, table_inner, of-inner}
use Rattle.bench.proofs.Instances.{run_alone, second_output, third, at-own, at-served, at-answer, at-within, at-barred, at-handler}
use Rattle.bench.proofs.Instances.{at-inner}
use Rattle.bench.proofs.Rebindings.{rebind-image, rebind-by, chain-alike}
use Rattle.bench.specs.Variants.{StepRule, ticks_by_rule, run_by}
use Rattle.bench.proofs.Variants.{decoded_run_by, by-table, code_at, mask_at}

abbrev word3 : List ℕ
word3 = replicate 3 0

pub acts-later-fails : ActsLaterFails
unfolding call_outputs
acts-later-fails f g late claim =
    let own = at-own f g claim in
    let lent : List ℕ = replicate 3 7 in
    let quiet = ap (λ (t : RunOutput). list_any (nat_eq 3) t.codes) own in
    eqb-false 8 4 refl (sym (ap (mask_at 2) (at-served f g claim)) ∙ ap (mask_at 2) (late image_swap (fresh 2) 2 3 word3 lent lent quiet ∙ own))

pub keeps-binding-fails : KeepsBindingFails
keeps-binding-fails f g idle =
    acts-later-fails f g (λ image s h k ws ms ks quiet. ap (λ (t : State). output_of (f image t ws ms ks)) (idle image s h k))

pub rebinds-handler-fails : RebindsHandlerFails
unfolding table_swap
rebinds-handler-fails f g idle claim =
    let i = of-swap.decodes in
    let few : length (decoded_image (contents image_swap)).entries ≡ 4 = ap (λ (j : Image). length j.entries) i in
    eqb-false 22 0 refl (sym (ap reply_number (at-handler f g claim))
    ∙ sym (ap (λ (j : Image). reply_number (g image_swap (fresh 2) j.handler 2).reply) i)
    ∙ ap reply_number (idle image_swap (fresh 2) 2 (omega arith) (omega arith)))

-- ---- what the definition's run hands back with another rebinding,
-- another run with the definition's rebinding, and both, by a chart's table
module _ {chart image : List ℕ} {i : Image} (known : TranslatesTo chart image i) where
  with-rebinding : (f : Swapper) (s : State) (given : List CallInput)
      → call_outputs run (rebind_by f) image s given ≡ call_outputs (λ t. run_image i) (λ t. f i) image s given
  with-rebinding f = chain-alike image run (λ t. run_image i) (rebind_by f) (λ t. f i)
      (run-image image i known.passes known.decodes) (rebind-by (held known) f)

  with-run : (step : StepRule) (s : State) (given : List CallInput)
      → call_outputs (run_by step) rebind image s given ≡ call_outputs (decoded_run_by i step) (λ t. rebind_image i) image s given
  with-run step = chain-alike image (run_by step) (decoded_run_by i step) rebind (λ t. rebind_image i)
      (by-table known step) (rebind-image (held known))

  with-both : (step : StepRule) (f : Swapper) (s : State) (given : List CallInput)
      → call_outputs (run_by step) (rebind_by f) image s given ≡ call_outputs (decoded_run_by i step) (λ t. f i) image s given
  with-both step f = chain-alike image (run_by step) (decoded_run_by i step) (rebind_by f)
      (λ t. f i) (by-table known step) (rebind-by (held known) f)

pub counts-at-return-fails : CountsAtReturnFails
unfolding call_outputs ticking ticks_by_rule table_swap
counts-at-return-fails claim =
    let given : List CallInput = to_rebind 2 3 ∷ run_alone word3 ∷ [] in
    eqb-false 4 8 refl (ap (mask_at 2) (sym (ap second_output (with-both of-swap counts_at_return notes (fresh 2) given))
    ∙ at-served (run_by counts_at_return) (rebind_by notes) claim))

pub swaps-open-fails : SwapsOpenFails
unfolding call_outputs ticking table_swap
swaps-open-fails claim =
    let given : List CallInput = run_alone (0 ∷ 0 ∷ []) ∷ to_rebind 2 3 ∷ run_alone (0 ∷ []) ∷ [] in
    eqb-false 8 4 refl (ap (mask_at 0) (sym (ap third (with-rebinding of-swap swaps_open (fresh 2) given))
    ∙ at-within run (rebind_by swaps_open) claim))

pub binds-refused-fails : BindsRefusedFails
unfolding call_outputs ticking table_swap
binds-refused-fails claim =
    let given : List CallInput = to_rebind 2 1 ∷ run_alone (0 ∷ []) ∷ [] in
    eqb-false 15 0 refl (ap (λ (t : RunOutput). reply_number t.reply) (sym (ap second_output (with-rebinding of-swap binds_refused (fresh 2) given))
    ∙ at-barred run (rebind_by binds_refused) claim))

pub writes-by-server-fails : WritesByServerFails
unfolding call_outputs ticking ticks_by_rule table_swap
writes-by-server-fails claim =
    let given : List CallInput = to_rebind 2 3 ∷ run_alone (replicate 8 0) ∷ [] in
    eqb-false 0 2 refl (ap (mask_at 7) (sym (ap second_output (with-run of-swap writes_by_server (fresh 2) given))
    ∙ at-answer (run_by writes_by_server) rebind claim))

pub reads-by-server-fails : ReadsByServerFails
unfolding call_outputs ticking ticks_by_rule table_swap
reads-by-server-fails claim =
    let given : List CallInput = to_rebind 2 3 ∷ run_alone (replicate 8 0) ∷ [] in
    eqb-false 0 2 refl (ap (mask_at 7) (sym (ap second_output (with-run of-swap reads_by_server (fresh 2) given))
    ∙ at-answer (run_by reads_by_server) rebind claim))

pub kept-by-server-fails : KeptByServerFails
unfolding call_outputs ticking ticks_by_rule table_inner
kept-by-server-fails claim =
    let given : List CallInput = run_alone (0 ∷ 0 ∷ []) ∷ to_rebind 2 3 ∷ run_alone (replicate 5 0) ∷ [] in
    eqb-false 4 0 refl (ap (code_at 4) (sym (ap third (with-run of-inner kept_by_server (fresh 3) given))
    ∙ at-inner (run_by kept_by_server) rebind claim))

pub shows-server-fails : ShowsServerFails
unfolding call_outputs ticking ticks_by_rule table_swap
shows-server-fails claim =
    let given : List CallInput = to_rebind 2 3 ∷ run_alone word3 ∷ [] in
    eqb-false 19 18 refl (ap (code_at 1) (sym (ap second_output (with-run of-swap shows_server (fresh 2) given))
    ∙ at-served (run_by shows_server) rebind claim))

pub ruleset swap_slips = (
  acts-later-fails,
  keeps-binding-fails,
  rebinds-handler-fails,
  writes-by-server-fails,
  reads-by-server-fails,
  kept-by-server-fails,
  shows-server-fails,
  counts-at-return-fails,
  swaps-open-fails,
  binds-refused-fails,
)
