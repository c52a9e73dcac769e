-- The agreement at a few charts and words, for any run that meets it: what runs from a fresh state must then hand back.
use Rattle.std.proofs.Common.{◌≡◌, refl, ◌∙◌, ap, ap₂, sym, List, [], ◌∷◌, ℕ, ◌/◌, ◌≤◌, arith, length, take, replicate}
use Rattle.std.proofs.Math.ListN.{length-replicate}
use Rattle.text.specs.frames.Frame.{contents}
use Rattle.text.specs.frames.Answer.{success, refusal, BufferOutcome, buffer_filled_with}
use Rattle.text.proofs.frames.Lent.{lent-fits, front}
use Rattle.bindings.specs.Binding.{own_binding}
use Rattle.walk.specs.Walk.{Tick, walk}
use Rattle.image.specs.Image.{Image}
use Rattle.translator.specs.Entry.{translate}
use Rattle.state.specs.State.{State, fresh, fresh_state}
use Rattle.agreement.specs.Agreement.{Runner, Rebinder, RunInput, RunOutput, output_of, CallInput, to_run, to_rebind, CallOutput, by_run}
use Rattle.agreement.specs.Agreement.{by_rebinding, joined_words, call_outputs, bound, expected_outputs, Agreement}
use Rattle.agreement.proofs.Chain.{fresh-is}
use Rattle.bench.specs.Bench.{chart_p, image_p, bench_words, chart_home, chart_function, chart_bore, bore_words}
use Rattle.bench.specs.Handler.{chart_handler, image_handler, drop_words, bottom_words, ordinary_words}
use Rattle.bench.specs.Swap.{chart_swap, image_swap}
use Rattle.bench.proofs.Computing.{walking}
use Rattle.bench.proofs.Tables.{TranslatesTo, of-P, image_home, of-home, image_function, of-function, chart_choice, image_choice, of-choice}
use Rattle.bench.proofs.Tables.{image_bore, of-bore, of-handler, of-swap, chart_inner, image_inner, of-inner}

-- one run with just room for its words; 7 is no code
abbrev pub alone_input : List ℕ → RunInput
alone_input ws = record { words = ws; masks = replicate (length ws) 7; codes = replicate (length ws) 7 }

abbrev pub one_run_output : Runner → List ℕ → ℕ → List ℕ → RunOutput
one_run_output run image size ws = output_of (run image (fresh size) ws (alone_input ws).masks (alone_input ws).codes)

abbrev pub run_alone : List ℕ → CallInput
run_alone ws = to_run (alone_input ws)

-- all the words are run, or 17 comes after n of them
abbrev pub done : ℕ → List ℕ → List ℕ → RunOutput
done n ms ks = record { reply = success n; masks = ms; codes = ks }

abbrev pub full_after : ℕ → List ℕ → List ℕ → RunOutput
full_after n ms ks = record { reply = refusal 17 0 n; masks = ms; codes = ks }

-- what the first call of a chain hands back and the second, and nothing where there is none
abbrev pub first_output : List CallOutput → RunOutput
first_output [] = done 0 [] []
first_output (by_run t ∷ ds) = t
first_output (by_rebinding r ∷ ds) = record { reply = r; masks = []; codes = [] }

abbrev pub second_output : List CallOutput → RunOutput
second_output [] = first_output []
second_output (d ∷ ds) = first_output ds

abbrev pub third : List CallOutput → RunOutput
third [] = first_output []
third (d ∷ ds) = second_output ds

module _ (run : Runner) (rebind : Rebinder) (claim : Agreement translate fresh_state run rebind) where
  -- on the image of a chart, by the walk's ticks
  pub at-chart : {chart image : List ℕ} {i : Image} → TranslatesTo chart image i → (size : ℕ) → 1 ≤ size → size ≤ 32
      → (given : List CallInput) (ts : List Tick) → walk size (contents chart) (joined_words (contents chart) own_binding given) ≡ ts
      → call_outputs run rebind image (fresh size) given ≡ expected_outputs (contents chart) (bound size ts) ts 0 given
  unfolding Agreement
  at-chart {chart} {image} known size l h given ts e =
      let n : ℕ = length image in
      let out : List ℕ = replicate n 0 in
      let fits : n ≤ length out = simp length-replicate (omega arith) in
      let whole : n / 1 ≡ n = omega arith in
      let made : translate chart out ≡ buffer_filled_with 1 image out = known.translated out ∙ lent-fits 1 (λ _. image) out fits in
      let written : take n (translate chart out).buffer ≡ image = ap (λ (x : BufferOutcome). take n x.buffer) made
      ∙ front n image out refl in
      sym (ap₂ (λ (x : List ℕ) (s : State). call_outputs run rebind x s given) written (fresh-is size l h))
      ∙ claim chart out n (ap (λ (x : BufferOutcome). x.reply) made ∙ ap success whole) size l h given
      ∙ ap (λ (us : List Tick). expected_outputs (contents chart) (bound size us) us 0 given) e

  -- chart P with stack size 3, and with 2
  pub at-deep : one_run_output run image_p 3 bench_words ≡ done 8 (0 ∷ 1 ∷ 0 ∷ 2 ∷ 0 ∷ 0 ∷ 0 ∷ 0 ∷ []) (4 ∷ 18 ∷ 0 ∷ 18 ∷ 0 ∷ 3 ∷ 3 ∷ 4 ∷ [])
  unfolding walking chart_p bench_words call_outputs joined_words bound expected_outputs
  at-deep = ap first_output (at-chart of-P 3 (omega arith) (omega arith) (run_alone bench_words ∷ []) _ refl)

  pub at-shallow : one_run_output run image_p 2 bench_words ≡ full_after 3 (0 ∷ 1 ∷ 0 ∷ 7 ∷ 7 ∷ 7 ∷ 7 ∷ 7 ∷ []) (4 ∷ 18 ∷ 0 ∷ 7 ∷ 7 ∷ 7 ∷ 7 ∷ 7 ∷ [])
  unfolding walking chart_p bench_words call_outputs joined_words bound expected_outputs
  at-shallow = ap first_output (at-chart of-P 2 (omega arith) (omega arith) (run_alone bench_words ∷ []) _ refl)

  -- two runs of one word each
  pub at-twice : call_outputs run rebind image_p (fresh 3) (run_alone (0 ∷ []) ∷ run_alone (0 ∷ []) ∷ [])
      ≡ by_run (done 1 (0 ∷ []) (4 ∷ [])) ∷ by_run (done 1 (1 ∷ []) (18 ∷ [])) ∷ []
  unfolding walking chart_p call_outputs joined_words bound expected_outputs
  at-twice = at-chart of-P 3 (omega arith) (omega arith) (run_alone (0 ∷ []) ∷ run_alone (0 ∷ []) ∷ []) _ refl

  pub at-home : one_run_output run image_home 1 (0 ∷ []) ≡ done 1 (0 ∷ []) (4 ∷ [])
  unfolding walking chart_home call_outputs joined_words bound expected_outputs
  at-home = ap first_output (at-chart of-home 1 (omega arith) (omega arith) (run_alone (0 ∷ []) ∷ []) _ refl)

  pub at-function : one_run_output run image_function 2 (replicate 6 0) ≡ done 6 (0 ∷ 0 ∷ 0 ∷ 0 ∷ 1 ∷ 0 ∷ []) (4 ∷ 66 ∷ 0 ∷ 3 ∷ 0 ∷ 4 ∷ [])
  unfolding walking chart_function call_outputs joined_words bound expected_outputs
  at-function = ap first_output (at-chart of-function 2 (omega arith) (omega arith) (run_alone (replicate 6 0) ∷ []) _ refl)

  pub at-choice : one_run_output run image_choice 2 (0 ∷ 0 ∷ 0 ∷ 1 ∷ 0 ∷ []) ≡ done 5 (0 ∷ 0 ∷ 0 ∷ 0 ∷ 1 ∷ []) (4 ∷ 18 ∷ 0 ∷ 3 ∷ 0 ∷ [])
  unfolding walking chart_choice call_outputs joined_words bound expected_outputs
  at-choice = ap first_output (at-chart of-choice 2 (omega arith) (omega arith) (run_alone (0 ∷ 0 ∷ 0 ∷ 1 ∷ 0 ∷ []) ∷ []) _ refl)

  pub at-bore : one_run_output run image_bore 2 bore_words
      ≡ done 12 (0 ∷ 0 ∷ 0 ∷ 0 ∷ 0 ∷ 1 ∷ 0 ∷ 0 ∷ 0 ∷ 0 ∷ 2 ∷ 0 ∷ []) (4 ∷ 66 ∷ 0 ∷ 0 ∷ 3 ∷ 0 ∷ 4 ∷ 66 ∷ 0 ∷ 3 ∷ 0 ∷ 4 ∷ [])
  unfolding walking chart_bore bore_words call_outputs joined_words bound expected_outputs
  at-bore = ap first_output (at-chart of-bore 2 (omega arith) (omega arith) (run_alone bore_words ∷ []) _ refl)

  -- the chart with a handler and two places: two drops, 17 with the handler at the bottom, and a drop where the handler's scheme was called
  pub at-drop : one_run_output run image_handler 2 drop_words
      ≡ done 10 (0 ∷ 0 ∷ 0 ∷ 2 ∷ 4 ∷ 0 ∷ 0 ∷ 0 ∷ 0 ∷ 2 ∷ []) (4 ∷ 66 ∷ 0 ∷ 96 ∷ 0 ∷ 3 ∷ 4 ∷ 66 ∷ 0 ∷ 96 ∷ [])
  unfolding walking chart_handler drop_words call_outputs joined_words bound expected_outputs
  at-drop = ap first_output (at-chart of-handler 2 (omega arith) (omega arith) (run_alone drop_words ∷ []) _ refl)

  pub at-bottom : one_run_output run image_handler 2 bottom_words
      ≡ full_after 7 (0 ∷ 0 ∷ 0 ∷ 2 ∷ 4 ∷ 8 ∷ 0 ∷ 7 ∷ 7 ∷ []) (4 ∷ 66 ∷ 0 ∷ 96 ∷ 0 ∷ 18 ∷ 0 ∷ 7 ∷ 7 ∷ [])
  unfolding walking chart_handler bottom_words call_outputs joined_words bound expected_outputs
  at-bottom = ap first_output (at-chart of-handler 2 (omega arith) (omega arith) (run_alone bottom_words ∷ []) _ refl)

  pub at-ordinary : one_run_output run image_handler 2 ordinary_words
      ≡ done 10 (0 ∷ 0 ∷ 0 ∷ 0 ∷ 1 ∷ 4 ∷ 8 ∷ 4 ∷ 0 ∷ 0 ∷ []) (4 ∷ 66 ∷ 0 ∷ 3 ∷ 19 ∷ 0 ∷ 96 ∷ 0 ∷ 3 ∷ 4 ∷ [])
  unfolding walking chart_handler ordinary_words call_outputs joined_words bound expected_outputs
  at-ordinary = ap first_output (at-chart of-handler 2 (omega arith) (omega arith) (run_alone ordinary_words ∷ []) _ refl)

  -- a run that ends with the drop, and one of a word after it
  pub at-parted : call_outputs run rebind image_handler (fresh 2) (run_alone (0 ∷ 0 ∷ 1 ∷ 0 ∷ []) ∷ run_alone (0 ∷ []) ∷ [])
      ≡ by_run (done 4 (0 ∷ 0 ∷ 0 ∷ 2 ∷ []) (4 ∷ 66 ∷ 0 ∷ 96 ∷ [])) ∷ by_run (done 1 (4 ∷ []) (0 ∷ [])) ∷ []
  unfolding walking chart_handler call_outputs joined_words bound expected_outputs
  at-parted = at-chart of-handler 2 (omega arith) (omega arith) (run_alone (0 ∷ 0 ∷ 1 ∷ 0 ∷ []) ∷ run_alone (0 ∷ []) ∷ []) _ refl

  -- the chart whose schemes are swapped, with two places: no rebinding, number 2 served by scheme 3, the same while scheme 2 is open, and
  -- rebindings that are refused
  pub at-own : one_run_output run image_swap 2 (replicate 3 0)
      ≡ done 3 (0 ∷ 1 ∷ 4 ∷ []) (4 ∷ 18 ∷ 0 ∷ [])
  unfolding walking chart_swap call_outputs joined_words bound expected_outputs
  at-own = ap first_output (at-chart of-swap 2 (omega arith) (omega arith) (run_alone (replicate 3 0) ∷ []) _ refl)

  pub at-served : second_output (call_outputs run rebind image_swap (fresh 2) (to_rebind 2 3 ∷ run_alone (replicate 3 0) ∷ []))
      ≡ done 3 (0 ∷ 1 ∷ 8 ∷ []) (4 ∷ 18 ∷ 0 ∷ [])
  unfolding walking chart_swap call_outputs joined_words bound expected_outputs
  at-served = ap second_output (at-chart of-swap 2 (omega arith) (omega arith) (to_rebind 2 3 ∷ run_alone (replicate 3 0) ∷ []) _ refl)

  pub at-answer : second_output (call_outputs run rebind image_swap (fresh 2) (to_rebind 2 3 ∷ run_alone (replicate 8 0) ∷ []))
      ≡ done 8 (0 ∷ 1 ∷ 8 ∷ 0 ∷ 0 ∷ 8 ∷ 0 ∷ 2 ∷ []) (4 ∷ 18 ∷ 0 ∷ 3 ∷ 66 ∷ 0 ∷ 3 ∷ 0 ∷ [])
  unfolding walking chart_swap call_outputs joined_words bound expected_outputs
  at-answer = ap second_output (at-chart of-swap 2 (omega arith) (omega arith) (to_rebind 2 3 ∷ run_alone (replicate 8 0) ∷ []) _ refl)

  pub at-within : third (call_outputs run rebind image_swap (fresh 2) (run_alone (0 ∷ 0 ∷ []) ∷ to_rebind 2 3 ∷ run_alone (0 ∷ []) ∷ []))
      ≡ done 1 (4 ∷ []) (0 ∷ [])
  unfolding walking chart_swap call_outputs joined_words bound expected_outputs
  at-within = ap third (at-chart of-swap 2 (omega arith) (omega arith)
      (run_alone (0 ∷ 0 ∷ []) ∷ to_rebind 2 3 ∷ run_alone (0 ∷ []) ∷ []) _ refl)

  pub at-barred : second_output (call_outputs run rebind image_swap (fresh 2) (to_rebind 2 1 ∷ run_alone (0 ∷ []) ∷ []))
      ≡ done 1 (0 ∷ []) (4 ∷ [])
  unfolding walking chart_swap call_outputs joined_words bound expected_outputs
  at-barred = ap second_output (at-chart of-swap 2 (omega arith) (omega arith) (to_rebind 2 1 ∷ run_alone (0 ∷ []) ∷ []) _ refl)

  pub at-handler : (rebind image_swap (fresh 2) 4 2).reply ≡ refusal 22 0 0
  unfolding walking chart_swap call_outputs joined_words bound expected_outputs
  at-handler = ap (λ (ds : List CallOutput). (first_output ds).reply)
      (at-chart of-swap 2 (omega arith) (omega arith) (to_rebind 4 2 ∷ []) _ refl)

  -- scheme 2 is open and calls its own number, which scheme 3 serves by then
  pub at-inner : third (call_outputs run rebind image_inner (fresh 3)
      (run_alone (0 ∷ 0 ∷ []) ∷ to_rebind 2 3 ∷ run_alone (replicate 5 0) ∷ []))
      ≡ done 5 (2 ∷ 4 ∷ 0 ∷ 0 ∷ 1 ∷ []) (18 ∷ 0 ∷ 3 ∷ 3 ∷ 0 ∷ [])
  unfolding walking chart_inner call_outputs joined_words bound expected_outputs
  at-inner = ap third (at-chart of-inner 3 (omega arith) (omega arith)
      (run_alone (0 ∷ 0 ∷ []) ∷ to_rebind 2 3 ∷ run_alone (replicate 5 0) ∷ []) _ refl)
