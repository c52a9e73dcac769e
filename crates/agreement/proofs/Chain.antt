-- A list of runs and rebindings on the image of a chart hands back what the walk of the joined words gives.
use Rattle.std.proofs.Common.{if◌then◌else◌, ℕ, ◌≤◌, Bool, true, false, ◌≡◌, refl, ap, ap₂, ◌∙◌, sym, subst, List, [], ◌∷◌, map, nat_lt, inl, inr}
use Rattle.std.proofs.Common.{length, take, arith}
use Rattle.std.proofs.lemmas.Grind.{common_steps}
use Rattle.words.proofs.lists.Tests.{cases}
use Rattle.words.specs.lists.Sequences.{over}
use Rattle.results.specs.Results.{no_results}
use Rattle.bindings.specs.Binding.{Binding, own_binding, rebound_binding, is_bad_rebinding}
use Rattle.text.specs.frames.Frame.{contents}
use Rattle.text.specs.frames.Verdict.{fine, refused, when}
use Rattle.text.specs.frames.Answer.{Reply, success, refusal, counted_reply}
use Rattle.charts.specs.Chart.{Chart, handler}
use Rattle.walk.specs.Walk.{Signal, signals, Tick, walk}
use Rattle.walk.proofs.Facts.{Facts}
use Rattle.walk.proofs.Trace.{WalkPosition, trace, position_at_home, Serves, home-good}
use Rattle.walk.proofs.Recursion.{walk-trace}
use Rattle.image.specs.Image.{Image}
use Rattle.image.specs.Decode.{decoded_image}
use Rattle.image.specs.Check.{image_verdict}
use Rattle.image.specs.inner.Sound.{SoundImage}
use Rattle.image.proofs.Accepted.{image-sound}
use Rattle.translator.specs.Table.{table}
use Rattle.translator.proofs.LabelLaws.{length-entries}
use Rattle.state.specs.State.{State, fresh, fresh_state}
use Rattle.runs.specs.Run.{MachineRun, ticks, has_no_room, run_on, run}
use Rattle.rebinding.specs.Rebind.{rebind_on, rebind}
use Rattle.fitness.proofs.Fitness.{Fits, fits, fits-serves}
use Rattle.ticks.proofs.Keeps.{fresh-fits}
use Rattle.runs.proofs.Keeps.{ticks-keep}
use Rattle.rebinding.proofs.Keeps.{rebinding-fits}
use Rattle.agreement.specs.Agreement.{RunInput, output_of, CallInput, to_run, to_rebind, CallOutput, by_run, by_rebinding, call_outputs}
use Rattle.agreement.specs.Agreement.{is_short, is_barred_rebinding, joined_words, bound, output_refused_short, expected_outputs}
use Rattle.agreement.proofs.TableFacts.{TableFacts}
use Rattle.agreement.proofs.StopLabels.{label-home}
use Rattle.agreement.proofs.Places.{below, holding, state_of_position}
use Rattle.agreement.proofs.Bounds.{stand}
use Rattle.agreement.proofs.Ticks.{run_from_position, StandsWell, stand-stands, ticks-are}
use Rattle.agreement.proofs.Joins.{joined-short, joined-long, Due, joins}
use Rattle.agreement.proofs.Images.{run-image, rebind-image}
use Rattle.agreement.proofs.Expected.{all-short}
use Rattle.std.proofs.lemmas.Bool.Decides.{nat_tests}

-- ---- one run on an image that is accepted and decodes to i, from a state that fits
module _ (text : List ℕ) (i : Image) (passes : image_verdict text ≡ fine) (decodes : decoded_image (contents text) ≡ i) where
  pub run-is : (s : State) (ws ms ks : List ℕ) → Fits i s
      → run text s ws ms ks ≡ run_on (when 16 (has_no_room ws ms ks)) (λ _. ticks i s ws) s ms ks
  run-is s ws ms ks f = grind (arith, common_steps, fits, run-image)

  chain-short : (s : State) (a : RunInput) (rest : List CallInput) → Fits i s → is_short a ≡ true
      → call_outputs run rebind text s (to_run a ∷ rest) ≡ by_run (output_refused_short a) ∷ call_outputs run rebind text s rest
  unfolding call_outputs
  chain-short s a rest f e = grind (arith, common_steps, run-is)

  chain-long : (s : State) (a : RunInput) (rest : List CallInput) → Fits i s → is_short a ≡ false → {r : MachineRun} → ticks i s a.words ≡ r
      → call_outputs run rebind text s (to_run a ∷ rest) ≡ by_run (output_of (run_on fine (λ _. r) s a.masks a.codes)) ∷ call_outputs
      run rebind text r.state rest
  unfolding call_outputs
  chain-long s a rest f e q = grind (arith, common_steps, run-is)

  -- ---- one rebinding, which 22 refuses where t is true
  pub rebind-is : (s : State) (h k : ℕ) → Fits i s → {t : Bool} → is_bad_rebinding (length i.entries) i.handler h k ≡ t
      → rebind text s h k ≡ rebind_on (when 22 t) s h k
  rebind-is s h k f e = grind (arith, common_steps, rebind-image, fits)

  chain-rebinds : (s : State) (h k : ℕ) (rest : List CallInput) → Fits i s → {t : Bool}
      → is_bad_rebinding (length i.entries) i.handler h k ≡ t
      → call_outputs run rebind text s (to_rebind h k ∷ rest)
      ≡ (let r = rebind_on (when 22 t) s h k in by_rebinding r.reply ∷ call_outputs run rebind text r.state rest)
  unfolding call_outputs
  chain-rebinds s h k rest f e = grind (arith, common_steps, rebind-is)

replied-by : (t : Bool) (k : ℕ) → counted_reply (if t then refused 17 0 else fine) k ≡ (if t then refusal 17 0 k else success k)
replied-by t k = grind (arith, nat_tests)

-- the fresh state is that of the position where the walk begins
pub fresh-is : (n : ℕ) → 1 ≤ n → n ≤ 32 → (fresh_state n).state ≡ fresh n
unfolding fresh_state
fresh-is n l h = grind (arith, common_steps)

pub home-is : (c : Chart) → Facts c → (n : ℕ) → fresh n ≡ state_of_position c n own_binding (position_at_home c no_results)
unfolding below
home-is c facts n = grind (arith, common_steps, label-home, holding)

module _ (c : Chart) (facts : Facts c) (table_facts : TableFacts c) (text : List ℕ) (passes : image_verdict text ≡ fine)
    (decodes : decoded_image (contents text) ≡ table c) (n : ℕ) (n≤ : n ≤ 32) where
  pub sound : SoundImage (table c)
  sound = subst SoundImage decodes (image-sound text passes)

  -- the table has the chart's schemes and its handler
  pub serves : (s : Binding) (x : WalkPosition) → Fits (table c) (state_of_position c n s x) → Serves c s
  serves s x f h low high = grind (arith, common_steps, length-entries, state_of_position, fits-serves, sound)

  pub same-bar : (h k : ℕ) → is_bad_rebinding (length (table c).entries) (table c).handler h k ≡ is_barred_rebinding c h k
  unfolding table
  same-bar h k = ap (λ (m : ℕ). is_bad_rebinding m (handler c) h k) (length-entries c)

  abbrev ChainIs : List CallInput → Type 0
  ChainIs given = (s : Binding) (x : WalkPosition) → StandsWell c n x → Fits (table c) (state_of_position c n s x)
      → call_outputs run rebind text (state_of_position c n s x) given ≡ Due c n s x given

  after-run : (a : RunInput) (rest : List CallInput) → ChainIs rest → ChainIs (to_run a ∷ rest)
  after-run a rest ih s x z f = elim (cases (is_short a)) [
    | inl e ↦ chain-short text (table c) passes decodes (state_of_position c n s x) a rest f e
        ∙ ap (λ (l : List CallOutput). by_run (output_refused_short a) ∷ l) (ih s x z f)
        ∙ sym (all-short c _ _ 0 a rest e)
        ∙ sym (ap (λ (js : List Signal). let ts = trace n c js x in expected_outputs c (bound n ts) ts 0 (to_run a ∷ rest))
        (joined-short c s a rest e))
    | inr e ↦
        let ws : List Signal = signals s a.words in
        let ts : List Tick = trace n c ws x in
        let b : ℕ = bound n ts in
        let y : WalkPosition = stand c n ws x in
        let served : Serves c s = serves s x f in
        let made : ticks (table c) (state_of_position c n s x) a.words ≡ run_from_position c n s a.words x =
        ticks-are c n s facts served n≤ table_facts a.words x z in
        let kept : Fits (table c) (state_of_position c n s y) =
        subst (λ (r : MachineRun). Fits (table c) r.state) made (ticks-keep (table c) sound a.words (state_of_position c n s x) f) in
        chain-long text (table c) passes decodes (state_of_position c n s x) a rest f e made
        ∙ ap₂ (λ (r : Reply) (l : List CallOutput). by_run (record {
          reply = r;
          masks = over (map (λ (t : Tick). t.mask) (take b ts)) a.masks;
          codes = over (map (λ (t : Tick). t.code) (take b ts)) a.codes;
        }) ∷ l)
        (replied-by (nat_lt b (length a.words)) (length (map (λ (t : Tick). t.code) (take b ts))))
        (ih s y (stand-stands c n s facts served a.words x z) kept)
        ∙ joins c n s a rest x e
        ∙ sym (ap (λ (js : List Signal). let us = trace n c js x in expected_outputs c (bound n us) us 0 (to_run a ∷ rest))
        (joined-long c s a rest e))
  ]

  after-rebinding : (h k : ℕ) (rest : List CallInput) → ChainIs rest → ChainIs (to_rebind h k ∷ rest)
  unfolding joined_words expected_outputs
  after-rebinding h k rest ih s x z f = go (is_barred_rebinding c h k) refl
    where
      -- what is due, with the binding that the rebinding leaves
      due : (t : Bool) → is_barred_rebinding c h k ≡ t
          → by_rebinding (if t then refusal 22 0 0 else success 0) ∷ Due c n (if t then s else rebound_binding h k s)
          x rest ≡ Due c n s x (to_rebind h k ∷ rest)
      due t e = sym (ap (λ (r : Bool). let ts = trace n c (joined_words c (if r then s else rebound_binding h k s) rest) x in
          by_rebinding (if r then refusal 22 0 0 else success 0) ∷ expected_outputs c (bound n ts) ts 0 rest) e)

      go : (t : Bool) → is_barred_rebinding c h k ≡ t
          → call_outputs run rebind text (state_of_position c n s x) (to_rebind h k ∷ rest) ≡ Due c n s x (to_rebind h k ∷ rest)
      go true e =
          chain-rebinds text (table c) passes decodes (state_of_position c n s x) h k rest f (same-bar h k ∙ e)
          ∙ ap (λ (l : List CallOutput). by_rebinding (refusal 22 0 0) ∷ l) (ih s x z f) ∙ due true e
      go false e =
          chain-rebinds text (table c) passes decodes (state_of_position c n s x) h k rest f (same-bar h k ∙ e)
          ∙ ap (λ (l : List CallOutput). by_rebinding (success 0) ∷ l)
          (ih (rebound_binding h k s) x z (rebinding-fits (table c) sound.most (state_of_position c n s x) h k f (same-bar h k ∙ e)))
          ∙ due false e

  chain-is : (given : List CallInput) → ChainIs given
  unfolding call_outputs joined_words expected_outputs
  chain-is [] s x z f = refl
  chain-is (to_run a ∷ rest) s x z f = after-run a rest (chain-is rest) s x z f
  chain-is (to_rebind h k ∷ rest) s x z f = after-rebinding h k rest (chain-is rest) s x z f

  pub calls-agree : 1 ≤ n → (given : List CallInput)
      → let ts = walk n c (joined_words c own_binding given) in
      call_outputs run rebind text (fresh_state n).state given ≡ expected_outputs c (bound n ts) ts 0 given
  calls-agree l given =
      let at-home : fresh n ≡ state_of_position c n own_binding (position_at_home c no_results) = home-is c facts n in
      ap (λ (s : State). call_outputs run rebind text s given) (fresh-is n l n≤ ∙ at-home)
      ∙ chain-is given own_binding (position_at_home c no_results) (record { low = l; good = home-good c facts no_results })
      (subst (Fits (table c)) at-home (fresh-fits (table c) sound n l n≤))
      ∙ sym (ap (λ (ts : List Tick). expected_outputs c (bound n ts) ts 0 given) (walk-trace n c (joined_words c own_binding given)))
