-- The cases of a chart with a handler hold, computed.
use Rattle.std.proofs.Common.{◌≡◌, refl, ap, false, List, [], ◌∷◌, ℕ, ◌≤◌, arith}
use Rattle.text.specs.frames.Verdict.{fine}
use Rattle.state.specs.State.{fresh}
use Rattle.runs.specs.Run.{RunOutcome, ticks, run_on}
use Rattle.agreement.proofs.Images.{run_image, run-image}
use Rattle.bench.specs.Bench.{fresh_run}
use Rattle.bench.specs.Handler.{chart_handler, image_handler, drop_words, bottom_words, ordinary_words, handler_state, reply_to_word}
use Rattle.bench.specs.Handler.{HandlerCases}
use Rattle.bench.proofs.Computing.{walking, checking, ticking}
use Rattle.bench.proofs.Tables.{table_handler, of-handler}
use Rattle.bench.proofs.Rounds.{blank, fresh-run, parts}
use Rattle.std.proofs.lemmas.Grind.{common_steps}

-- ---- runs, on the chart's table
run-handler : (size : ℕ) → 1 ≤ size → size ≤ 32 → (ws : List ℕ)
    → fresh_run image_handler size ws ≡ run_on fine (λ _. ticks table_handler (fresh size) ws) (fresh size) (blank ws) (blank ws)
run-handler = fresh-run of-handler

two : (ws : List ℕ) → fresh_run image_handler 2 ws ≡ run_on fine (λ _. ticks table_handler (fresh 2) ws) (fresh 2) (blank ws) (blank ws)
two = run-handler 2 (omega arith) (omega arith)

-- a run of one word, tried on the table too
tried : (d l h above g : ℕ)
    → reply_to_word d l h above g ≡ (run_image table_handler (handler_state d l h above g false false) (0 ∷ []) (0 ∷ []) (0 ∷ [])).reply
tried d l h above g = grind (arith, common_steps, of-handler, run-image)

pub handler-cases : HandlerCases
unfolding walking checking ticking table_handler chart_handler image_handler drop_words bottom_words ordinary_words
handler-cases = record {
  translated = of-handler.translated;
  drop-walk = refl;
  drop-before = ap (λ (r : RunOutcome). r.state) (two _);
  drop-run = two drop_words;
  bottom-walk = refl;
  bottom-run = two bottom_words;
  ordinary-before = ap (λ (r : RunOutcome). r.state) (two _);
  ordinary-after = ap (λ (r : RunOutcome). r.state) (two _);
  ordinary-run = parts (two ordinary_words);
  roomy-walk = refl;
  roomy-run = parts (run-handler 32 (omega arith) (omega arith) drop_words);
  narrow-run = parts (run-handler 1 (omega arith) (omega arith) drop_words);
  fits-handler = tried 1 6 3 0 0;
  fits-return = tried 1 1 3 0 0;
  unfit-other = tried 1 4 2 0 0;
  unfit-above = tried 2 1 3 4 2;
  header-other = refl;
  header-first = refl;
  header-high = refl;
}
