-- Functions that do too little: none that has one of these properties meets the translator's equation or the agreement.
use Rattle.std.proofs.lemmas.Bool.{eqb-false}
use Rattle.std.proofs.Common.{if◌then◌else◌, ◌≡◌, refl, ◌∙◌, ap, sym, true, false, ◌&&◌, List, [], ◌∷◌, ℕ, arith, length, take, nat_le, ◌==◌, slice_index}
use Rattle.std.proofs.Common.{replicate}
use Rattle.words.specs.lists.Sequences.{over}
use Rattle.text.specs.frames.Answer.{BufferOutcome, buffer_on, reply_number, reply_count}
use Rattle.text.proofs.frames.Lent.{lent-told, front}
use Rattle.translator.specs.Entry.{translate_verdict, translate}
use Rattle.state.specs.State.{entry_at, place_at, fresh, fresh_state}
use Rattle.state.specs.Changes.{with_place}
use Rattle.ticks.specs.Tick.{finished, tick}
use Rattle.runs.specs.Run.{RunOutcome}
use Rattle.agreement.specs.Agreement.{Rebinder, Translator, RunOutput, call_outputs, Agreement}
use Rattle.agreement.proofs.Demand.{theorem}
use Rattle.bench.specs.Bench.{chart_p, image_p, bench_words, chart_home}
use Rattle.bench.specs.Handler.{image_handler, drop_words}
use Rattle.bench.specs.Idlers.{is_refusal, WritesOnly, TurnsBackFails, OneImageFails, AlwaysFullFails, AlwaysHomeFails, PlainAfterCallFails}
use Rattle.bench.specs.Idlers.{StaysInHandlerFails, HomeAfterDropFails, WritesNothingFails, KeepsStateFails, MiscountsFails, OnlyThese}
use Rattle.bench.proofs.Computing.{translating, running}
use Rattle.bench.proofs.Tables.{table_p, of-P, image_home, table_handler, of-handler}
use Rattle.bench.proofs.Instances.{at-home, at-deep, at-twice, at-drop}
use Rattle.bench.specs.Variants.{StepRule, ticks_by_rule, run_by}
use Rattle.bench.proofs.Variants.{made, code_at}
use Rattle.std.proofs.lemmas.Grind.{common_steps}

-- ---- translators
pub turns-back-fails : TurnsBackFails
unfolding translating chart_home
turns-back-fails f idle claim =
    let z : false ≡ true = sym (ap (λ (l : BufferOutcome). is_refusal l.reply) (claim chart_home (replicate 92 0)))
    ∙ idle chart_home (replicate 92 0) refl in
    let y : ◌≡◌ {A = ℕ} 0 1 = cc in omega arith

abbrev pub one_image : List ℕ → Translator
one_image x text out = buffer_on (translate_verdict text) 1 (λ _. x) out

pub writes-only : (x : List ℕ) → WritesOnly x (one_image x)
writes-only x text out n done = grind (arith, common_steps, front, lent-told)

pub one-image-fails : OneImageFails
unfolding translating chart_home chart_p
one-image-fails x f idle claim =
    let home = claim chart_home (replicate 92 0) in
    let deep = claim chart_p (replicate 276 0) in
    let few : length x ≡ 92 = sym (ap length (idle chart_home (replicate 92 0) 92 (ap (λ (l : BufferOutcome). l.reply) home)))
    ∙ ap (λ (l : BufferOutcome). length (take 92 l.buffer)) home in
    let many : length x ≡ 276 = sym (ap length (idle chart_p (replicate 276 0) 276 (ap (λ (l : BufferOutcome). l.reply) deep)))
    ∙ ap (λ (l : BufferOutcome). length (take 276 l.buffer)) deep in
    omega arith

pub always-full-fails : AlwaysFullFails
unfolding running image_home
always-full-fails f g idle claim =
    eqb-false 17 0 refl (sym (idle image_home (fresh 1) 0 [] (7 ∷ []) (7 ∷ []) refl)
    ∙ ap (λ (t : RunOutput). reply_number t.reply) (at-home f g claim))

pub always-home-fails : AlwaysHomeFails
unfolding bench_words
always-home-fails f g idle claim = grind (arith, common_steps, eqb-false, at-deep)

pub plain-after-call-fails : PlainAfterCallFails
unfolding bench_words
plain-after-call-fails f g idle claim =
    let told = at-deep f g claim in
    let held : List ℕ = replicate 8 7 in
    let r : RunOutcome = f image_p (fresh 3) bench_words held held in
    let counted : reply_count r.reply ≡ 8 = ap (λ (t : RunOutput). reply_count t.reply) told in
    let called : slice_index r.codes 1 ≡ 18 = ap (code_at 1) told in
    eqb-false 18 0 refl (sym (ap (code_at 3) told) ∙ idle image_p (fresh 3) bench_words held held 1 3 (omega arith) (omega arith) (omega arith))

-- such a run: the machine's ticks as long as one scheme is open, and then plain ones
abbrev pub plain_after_call : StepRule
plain_after_call i s w = if s.depth == 1 then tick i s w else finished 0 0 s

pub plain-run-fails : (g : Rebinder) → Agreement translate fresh_state (run_by plain_after_call) g → ⊥
unfolding running ticks_by_rule table_p bench_words
plain-run-fails g claim = eqb-false 0 18 refl (ap (code_at 3) (made of-P plain_after_call 3 bench_words (at-deep (run_by plain_after_call) g claim)))

pub stays-in-handler-fails : StaysInHandlerFails
unfolding drop_words
stays-in-handler-fails f g idle claim =
    let told = at-drop f g claim in
    let held : List ℕ = replicate 10 7 in
    let r : RunOutcome = f image_handler (fresh 2) drop_words held held in
    let counted : reply_count r.reply ≡ 10 = ap (λ (t : RunOutput). reply_count t.reply) told in
    idle image_handler (fresh 2) drop_words held held 3 6 (omega arith) (omega arith) (ap (code_at 3) told) (ap (code_at 6) told)

-- such a run: the handler's return at the bottom starts the handler again
abbrev pub stays_in_handler : StepRule
stays_in_handler i s w = if nat_le s.depth 1 && place_at s 0 == 1
    then finished 0 3 (with_place s 0 (entry_at i i.handler))
    else tick i s w

pub handler-run-fails : (g : Rebinder) → Agreement translate fresh_state (run_by stays_in_handler) g → ⊥
unfolding running ticks_by_rule table_handler drop_words
handler-run-fails g claim =
    eqb-false 0 4 refl (ap (code_at 6) (made of-handler stays_in_handler 2 drop_words (at-drop (run_by stays_in_handler) g claim)))

pub home-after-drop-fails : HomeAfterDropFails
unfolding drop_words
home-after-drop-fails f g idle claim =
    let told = at-drop f g claim in
    let held : List ℕ = replicate 10 7 in
    let r : RunOutcome = f image_handler (fresh 2) drop_words held held in
    let counted : reply_count r.reply ≡ 10 = ap (λ (t : RunOutput). reply_count t.reply) told in
    eqb-false 0 4 refl (sym (ap (code_at 4) told)
    ∙ idle image_handler (fresh 2) drop_words held held 3 4 (omega arith) (omega arith) (ap (code_at 3) told))

pub writes-nothing-fails : WritesNothingFails
writes-nothing-fails f g idle claim =
    eqb-false 7 4 refl (sym (ap (λ (ks : List ℕ). slice_index ks 0) (idle image_home (fresh 1) (0 ∷ []) (7 ∷ []) (7 ∷ [])))
    ∙ ap (code_at 0) (at-home f g claim))

pub keeps-state-fails : KeepsStateFails
unfolding call_outputs
keeps-state-fails f g idle claim = grind (arith, common_steps, at-twice, eqb-false)

one-written : (ks : List ℕ) → over ks (7 ∷ []) ≡ 4 ∷ [] → length ks ≡ 1
one-written [] e = let z : ◌≡◌ {A = ℕ} 7 4 = ap (λ (xs : List ℕ). slice_index xs 0) e in absurd (omega arith)
one-written (k ∷ []) e = refl
one-written (k ∷ j ∷ ks) e = let z = ap length e in absurd (omega arith)

pub miscounts-fails : MiscountsFails
unfolding running image_home
miscounts-fails f g idle claim =
    let told = at-home f g claim in
    let m = idle image_home (fresh 1) 0 [] (7 ∷ []) (7 ∷ []) refl in
    m.differs (ap (λ (t : RunOutput). reply_count t.reply) told
    ∙ sym (one-written m.written (sym m.buffer ∙ ap (λ (t : RunOutput). t.codes) told)))

-- ---- and no other
pub only-these : OnlyThese
unfolding Agreement
only-these f g claim text out n done size l h given = claim text out n done size l h given ∙ sym (theorem text out n done size l h given)

pub ruleset no_idler_meets_what_is_promised = (
  turns-back-fails,
  one-image-fails,
  always-full-fails,
  always-home-fails,
  plain-after-call-fails,
  stays-in-handler-fails,
  home-after-drop-fails,
  writes-nothing-fails,
  keeps-state-fails,
  miscounts-fails,
  only-these,
)
