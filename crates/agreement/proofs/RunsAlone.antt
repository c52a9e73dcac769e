-- With no rebinding in the list, the agreement is one over lists of runs and the walk of words alone.
use Rattle.std.proofs.Common.{ℕ, ◌+◌, ◌≡◌, refl, sym, ap, ◌∙◌, List, [], ◌∷◌, map, length, take, arith, flat_map}
use mathlib.Core.List.{map-append}
use Rattle.std.proofs.lemmas.Grind.{common_steps}
use Rattle.bindings.specs.Binding.{Binding, own_binding}
use Rattle.text.specs.frames.Frame.{contents}
use Rattle.text.specs.frames.Verdict.{fine}
use Rattle.text.specs.frames.Answer.{success, BufferOutcome}
use Rattle.charts.specs.Chart.{Chart}
use Rattle.charts.specs.Entry.{read_verdict}
use Rattle.walk.specs.Walk.{signals, Tick, walk}
use Rattle.walk.proofs.OwnBinding.{own-binding}
use Rattle.translator.specs.Entry.{translate}
use Rattle.translator.proofs.Translated.{translated-read, translated-fine}
use Rattle.state.specs.declared.State.{State as Kept}
use Rattle.state.specs.State.{State, fresh_state}
use Rattle.runs.specs.Run.{RunOutcome, run}
use Rattle.rebinding.specs.Rebind.{rebind}
use Rattle.agreement.specs.Agreement.{Translator, Maker, Runner, Rebinder, RunInput, RunOutput, output_of, to_run, CallOutput, by_run}
use Rattle.agreement.specs.Agreement.{by_rebinding, call_outputs, joined_words, bound}
use Rattle.agreement.specs.Agreement.{expected_outputs, walk_outputs, Agreement, Translates}
use Rattle.agreement.proofs.Expected.{all-short, all-long}
use Rattle.agreement.proofs.Demand.{theorem}
use Rattle.agreement.proofs.Delivered.{delivered}
use Rattle.agreement.proofs.ForC.{returned-0, delivered-c}
use Rattle.agreement.specs.Unswapped as unswapped
use Rattle.agreement.specs.Calls as calls
use Rattle.agreement.specs.ForC as c
use Rattle.agreement.specs.RunsAlone as alone

-- ---- each part of the statement
pub chain-alone : (run : Runner) (rebind : Rebinder) (image : List ℕ) (s : State) (asked : List RunInput)
    → call_outputs run rebind image s (map to_run asked) ≡ map by_run (unswapped.run_outputs run image s asked)
unfolding call_outputs unswapped.run_outputs
chain-alone run rebind image s [] = refl
chain-alone run rebind image s (a ∷ rest) =
    let r : RunOutcome = run image s a.words a.masks a.codes in
    ap (λ (l : List CallOutput). by_run (output_of r) ∷ l) (chain-alone run rebind image r.state rest)

pub joined-alone : (c : Chart) (s : Binding) (asked : List RunInput)
    → joined_words c s (map to_run asked) ≡ signals s (unswapped.joined_run_words asked)
unfolding joined_words
joined-alone c s [] = grind (arith, common_steps)
joined-alone c s (a ∷ rest) = grind (arith, common_steps, joined-alone c s rest, map-append)

pub expected-alone : (c : Chart) (b : ℕ) (ts : List Tick) (p : ℕ) (asked : List RunInput)
    → expected_outputs c b ts p (map to_run asked) ≡ map by_run (unswapped.expected_runs b ts p asked)
unfolding expected_outputs unswapped.expected_runs
expected-alone c b ts p [] = search (arith)
expected-alone c b ts p (a ∷ rest) = search (arith, expected-alone c b ts p rest, expected-alone c b ts (p + length a.words) rest, all-long, all-short)

-- of every accepted chart
pub walked-alone : (text : List ℕ) → read_verdict text ≡ fine → (size : ℕ) (asked : List RunInput)
    → walk_outputs size (contents text) (map to_run asked) ≡ map by_run (unswapped.walk_runs size (contents text) asked)
walked-alone text read size asked =
    let c : Chart = contents text in
    ap (λ (ts : List Tick). expected_outputs c (bound size ts) ts 0 (map to_run asked))
    (ap (walk size c) (joined-alone c own_binding asked) ∙ own-binding text read size (unswapped.joined_run_words asked))
    ∙ expected-alone c _ _ 0 asked

-- ---- the statement itself
-- what runs handed back, and lists of it that are equal as what calls hand back
abbrev outputs_of_run : CallOutput → List RunOutput
outputs_of_run (by_run t) = t ∷ []
outputs_of_run (by_rebinding r) = []

told-back : (ts : List RunOutput) → flat_map outputs_of_run (map by_run ts) ≡ ts
told-back [] = refl
told-back (t ∷ ts) = ap (λ (l : List RunOutput). t ∷ l) (told-back ts)

pub same-told : (ts us : List RunOutput) → map by_run ts ≡ map by_run us → ts ≡ us
same-told ts us e = sym (told-back ts) ∙ ap (flat_map outputs_of_run) e ∙ told-back us

pub agreement-alone : (translator : Translator) (fresh : Maker) (run : Runner) (rebind : Rebinder) → Translates translator
    → Agreement translator fresh run rebind → unswapped.RunAgreement translator fresh run
unfolding Agreement unswapped.RunAgreement
agreement-alone translator fresh run rebind translates agrees text out n done size some most asked =
    let image : List ℕ = take n (translator text out).buffer in
    let s : State = (fresh size).state in
    let made : (translate text out).reply ≡ success n = sym (ap (λ (x : BufferOutcome). x.reply) (translates text out)) ∙ done in
    same-told (unswapped.run_outputs run image s asked) (unswapped.walk_runs size (contents text) asked)
    (sym (chain-alone run rebind image s asked) ∙ agrees text out n done size some most (map to_run asked)
    ∙ walked-alone text (translated-read text (translated-fine text out n made)) size asked)

pub runs-alone : unswapped.RunAgreement translate fresh_state run
runs-alone = agreement-alone translate fresh_state run rebind (λ text out. refl) theorem

-- ---- over the functions
pub delivered-alone : alone.DeliveredAlone
unfolding alone.DeliveredAlone calls.Delivered
delivered-alone text before after answer l n e size low high made m asked handed cs =
    delivered text before after answer l n e size low high made m (map to_run asked) handed cs
    ∙ walked-alone text (translated-read text (translated-fine text before n (sym l.answered ∙ e))) size asked

-- are among the lists of calls: no call of prepare is asked for
pub runs-are-calls : {image : List ℕ} {s : Kept} {asked : List RunInput} {tolds : List RunOutput} → alone.RunCalls image s asked tolds
    → calls.CallsInTurn image s (map to_run asked) (map by_run tolds)
runs-are-calls alone.none = calls.none
runs-are-calls (alone.more answer after masks codes r rs) = calls.more (calls.run_call r) (runs-are-calls rs)

pub runs-delivered : alone.RunsDelivered
unfolding alone.RunsDelivered alone.DeliveredAlone
runs-delivered text before after answer l n e size low high made m asked tolds rs = search (arith, same-told, delivered-alone, runs-are-calls)

-- ---- the same for C
handed-told : (ts : List RunOutput) → map c.call_output_c (map by_run ts) ≡ map c.by_run_c (map c.run_output_c ts)
handed-told [] = refl
handed-told (t ∷ ts) = ap (λ (l : List c.CallOutputC). c.by_run_c (c.run_output_c t) ∷ l) (handed-told ts)

pub delivered-alone-c : alone.DeliveredAloneC
unfolding alone.DeliveredAloneC c.DeliveredC
delivered-alone-c text before after at n l size low high returned at' made s m asked handed cs =
    delivered-c text before after at n l size low high returned at' made s m (map to_run asked) handed cs
    ∙ ap (map c.call_output_c)
    (walked-alone text (translated-read text (translated-fine text before n (returned-0 text before after at n l))) size asked)
    ∙ handed-told (unswapped.walk_runs size (contents text) asked)

pub runs-are-calls-c : {image : List ℕ} {s : Kept} {asked : List RunInput} {tolds : List c.RunOutputC} → alone.RunCallsC image s asked tolds
    → c.CallsInTurnC image s (map to_run asked) (map c.by_run_c tolds)
runs-are-calls-c alone.none = c.none
runs-are-calls-c (alone.more after r rs) = c.more (c.run_call r) (runs-are-calls-c rs)

abbrev outputs_of_run_c : c.CallOutputC → List c.RunOutputC
outputs_of_run_c (c.by_run_c t) = t ∷ []
outputs_of_run_c (c.by_rebinding_c number index count) = []

told-back-c : (ts : List c.RunOutputC) → flat_map outputs_of_run_c (map c.by_run_c ts) ≡ ts
told-back-c [] = refl
told-back-c (t ∷ ts) = ap (λ (l : List c.RunOutputC). t ∷ l) (told-back-c ts)

pub runs-delivered-c : alone.RunsDeliveredC
unfolding alone.RunsDeliveredC alone.DeliveredAloneC
runs-delivered-c text before after at n l size low high returned at' made s m asked tolds rs =
    sym (told-back-c tolds)
    ∙ ap (flat_map outputs_of_run_c) (delivered-alone-c text before after at n l size low high returned at' made s m asked
    (map c.by_run_c tolds)
    (runs-are-calls-c rs))
    ∙ told-back-c (map c.run_output_c (unswapped.walk_runs size (contents text) asked))
