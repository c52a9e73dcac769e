-- The bench sheet holds, as one list.
use Rattle.std.proofs.Common.{◌≡◌, refl, ◌∙◌, ap, List, [], ◌∷◌, ℕ, ◌≤◌, arith, take, replicate}
use Rattle.bindings.specs.Binding.{own_binding}
use Rattle.text.specs.frames.Frame.{contents}
use Rattle.text.specs.frames.Verdict.{fine}
use Rattle.text.specs.frames.Answer.{refusal, BufferOutcome}
use Rattle.walk.specs.Walk.{signals, walk}
use Rattle.translator.specs.Entry.{translate}
use Rattle.state.specs.State.{fresh}
use Rattle.ticks.specs.Tick.{tick}
use Rattle.rows.specs.Rows.{best_row}
use Rattle.runs.specs.Run.{RunOutcome, ticks, run_on}
use Rattle.bench.specs.Bench.{BenchSheet, chart_p, image_p, bench_words, chart_home, chart_small, chart_mixed, chart_circle, chart_function}
use Rattle.bench.specs.Bench.{chart_bore, bore_words, chart_again, chart_stops, image_stops, stops_words, fresh_run, image_of, tick_of}
use Rattle.bench.proofs.Computing.{framing, walking, translating}
use Rattle.bench.proofs.Tables.{table_p, of-P, image_home, of-home, image_function, of-function, table_bore, image_bore, of-bore}
use Rattle.bench.proofs.Tables.{table_again, image_again, of-again, table_stops, of-stops}
use Rattle.bench.proofs.Rounds.{blank, fresh-run, parts, home-walk, home-run, function-run}

refused-texts : (out : List ℕ) → (translate [] out ≡ record { reply = refusal 1 0 0; buffer = out })
    × (translate chart_circle out ≡ record { reply = refusal 8 1 0; buffer = out })
unfolding translating chart_circle
refused-texts out = (refl, refl)

small-texts : (out : List ℕ) → (translate chart_small out ≡ translate chart_home out) × (translate chart_mixed out ≡ translate chart_p out)
unfolding translating chart_home chart_small chart_p chart_mixed
small-texts out = (refl, refl)

-- ---- chart P, run on its table
run-P : (size : ℕ) → 1 ≤ size → size ≤ 32 → (ws : List ℕ)
    → fresh_run image_p size ws ≡ run_on fine (λ _. ticks table_p (fresh size) ws) (fresh size) (blank ws) (blank ws)
run-P = fresh-run of-P

-- ---- the images of the other charts
image-home : image_of 92 chart_home ≡ image_home
unfolding framing image_home
image-home = ap (λ (l : BufferOutcome). l.buffer) (of-home.translated (replicate 92 0))

image-function : image_of 276 chart_function ≡ image_function
unfolding framing image_function
image-function = ap (λ (l : BufferOutcome). l.buffer) (of-function.translated (replicate 276 0))

on-function : (size : ℕ) (ws : List ℕ) → fresh_run (image_of 276 chart_function) size ws ≡ fresh_run image_function size ws
on-function size ws = ap (λ (image : List ℕ). fresh_run image size ws) image-function

-- ---- calls that clear
run-bore : fresh_run (image_of 391 chart_bore) 2 bore_words ≡ run_on fine (λ _. ticks table_bore (fresh 2) bore_words)
    (fresh 2) (blank bore_words) (blank bore_words)
unfolding framing image_bore
run-bore =
    ap (λ (l : BufferOutcome). fresh_run l.buffer 2 bore_words) (of-bore.translated (replicate 391 0))
    ∙ fresh-run of-bore 2 (omega arith) (omega arith) bore_words

run-again : (ws : List ℕ)
    → fresh_run (image_of 253 chart_again) 3 ws ≡ run_on fine (λ _. ticks table_again (fresh 3) ws) (fresh 3) (blank ws) (blank ws)
unfolding framing image_again
run-again ws =
    ap (λ (l : BufferOutcome). fresh_run l.buffer 3 ws) (of-again.translated (replicate 253 0))
    ∙ fresh-run of-again 3 (omega arith) (omega arith) ws

-- ---- which nodes stop
walk-stops : walk 2 (contents chart_stops) (signals own_binding stops_words)
    ≡ tick_of 4 1 0 4 1 ∷ tick_of 1 1 0 66 1 ∷ tick_of 9 2 0 0 2 ∷ tick_of 6 2 4 0 2 ∷ tick_of 7 2 8 0 2 ∷ tick_of 8 2 0 3 2
    ∷ tick_of 2 1 2 0 1 ∷ tick_of 4 1 0 4 1 ∷ []
unfolding walking chart_stops stops_words
walk-stops = refl

run-stops : (ws : List ℕ)
    → fresh_run image_stops 2 ws ≡ run_on fine (λ _. ticks table_stops (fresh 2) ws) (fresh 2) (blank ws) (blank ws)
run-stops = fresh-run of-stops 2 (omega arith) (omega arith)

pub bench-sheet : BenchSheet
unfolding ticks tick best_row table_p bench_words table_bore bore_words table_again table_stops stops_words
bench-sheet = record {
  b1 = of-P.translated;
  b2 = parts (run-P 3 (omega arith) (omega arith) bench_words);
  b3 = ap (λ (r : RunOutcome). r.reply) (run-P 2 (omega arith) (omega arith) bench_words);
  b4 = ap (λ (r : RunOutcome). r.reply) (run-P 1 (omega arith) (omega arith) bench_words);
  b5 = λ size l h. ap (λ (r : RunOutcome). r.reply) (run-P size l h []);
  b6-walk = home-walk;
  b6-run = λ size l h ws. ap (λ (image : List ℕ). fresh_run image size ws) image-home ∙ home-run size l h ws;
  b7-empty = λ out. (refused-texts out).0;
  b7-small = λ out. (small-texts out).0;
  b7-mixed = λ out. (small-texts out).1;
  b8 = λ out. (refused-texts out).1;
  b10 = ap (λ (r : RunOutcome). r.codes) (on-function 2 (replicate 6 0)) ∙ (function-run 2 (omega arith) (omega arith) (replicate 6 0)).1;
  b10-always = λ size l h ws. let e = parts (on-function size ws) in let r = function-run size l h ws in (e.0 ∙ r.0, e.1 ∙ r.1, e.2 ∙ r.2);
  bore = parts run-bore;
  own-call = ap (λ (r : RunOutcome). r.state.bits) (run-again (replicate 4 0));
  full-call = let e = run-again (replicate 6 0) in (ap (λ (r : RunOutcome). r.reply) e, ap (λ (r : RunOutcome). r.state.bits) e);
  stops-image = of-stops.translated;
  stops-walk = walk-stops;
  stops-run = parts (run-stops stops_words);
  writes-one = ap (λ (r : RunOutcome). r.state.bits) (run-stops (take 4 stops_words));
  writes-zero = ap (λ (r : RunOutcome). r.state.bits) (run-stops (take 5 stops_words));
}
