-- One small chart, image or state, made by hand, for each refusal 1 to 20; those of 21 stand in Causes, those of 22 in Swap.
use Rattle.std.specs.Prelude.{ℕ, ◌+◌, ◌*◌, false, ◌≡◌, List, [], ◌∷◌, ◌++◌, length, replicate, set, take, flat_map}
use Rattle.words.specs.lists.Numbers.{range}
use Rattle.bindings.specs.Binding.{own_binding}
use Rattle.text.specs.frames.Verdict.{fine, refused}
use Rattle.text.specs.frames.Answer.{success, refusal}
use Rattle.text.specs.frames.Frame.{quad, contents, text_of}
use Rattle.charts.specs.Chart.{Chart}
use Rattle.charts.specs.Entry.{read_verdict, read_chart, write_verdict}
use Rattle.chart_rows.specs.Rows.{rows}
use Rattle.translator.specs.Entry.{translate_verdict}
use Rattle.places.specs.Entry.{places_needed}
use Rattle.image.specs.Check.{image_verdict}
use Rattle.state.specs.State.{State, fresh_state, fresh, no_state}
use Rattle.runs.specs.Run.{RunOutcome, run}
use Rattle.bench.specs.Bench.{chart_p, image_p, bench_words, chart_function, fresh_run, beside}

-- ---- node records by kind, with the fields that the kind uses
abbrev pub begins : ℕ → ℕ → List ℕ
begins h u = 0 ∷ h ∷ 0 ∷ u ∷ replicate 6 0

-- a Begin that marks its scheme as the handler
abbrev pub marks : ℕ → ℕ → List ℕ
marks h u = 0 ∷ h ∷ 1 ∷ u ∷ replicate 6 0

abbrev pub ends_with : ℕ → List ℕ
ends_with h = 1 ∷ h ∷ replicate 8 0

-- an operation of scheme h: scheme called, next node, mask
abbrev pub operation : ℕ → ℕ → ℕ → ℕ → List ℕ
operation h called u m = 2 ∷ h ∷ called ∷ u ∷ 0 ∷ 0 ∷ quad m

-- a condition of scheme h: its number, next on a 0, next on a 1
abbrev pub condition : ℕ → ℕ → ℕ → ℕ → List ℕ
condition h i u₀ u₁ = 3 ∷ h ∷ i ∷ u₀ ∷ u₁ ∷ replicate 5 0

abbrev pub chart : List (List ℕ) → Chart
chart = flat_map (λ r. r)

-- an operation and n conditions of different numbers, each with both arcs to the next: 2 to the power n rows
abbrev pub doubling_chart : ℕ → Chart
doubling_chart n = begins 1 1 ++ (operation 1 0 2 1 ++ (flat_map (λ i. condition 1 i (i + 3) (i + 3)) (range 0 n) ++ ends_with 1))

-- the same with one more plain operation before it
abbrev pub one_more_row : ℕ → Chart
one_more_row n =
    begins 1 1 ++ (operation 1 0 2 1 ++ (operation 1 0 3 1
    ++ (flat_map (λ i. condition 1 i (i + 4) (i + 4)) (range 0 n) ++ ends_with 1)))

-- ---- chart P and its image with byte k of frame f changed to x, sums made right
abbrev pub changed_chart : ℕ → ℕ → ℕ → List ℕ
changed_chart f k x = text_of (set (contents chart_p) (10 * f + k) x)

abbrev pub changed_image : ℕ → ℕ → ℕ → List ℕ
changed_image f k x = text_of (set (contents image_p) (10 * f + k) x)

-- the records of chart P with a mark on scheme 1, and its image with scheme 2 as the handler
abbrev pub marked_first : Chart
marked_first = set (contents chart_p) 2 1

abbrev pub handler_two : List ℕ
handler_two = changed_image 0 5 2

-- a state of three places with these labels, and beside the lowest d of them these numbers, each of which served itself
abbrev pub state_called_by : List ℕ → ℕ → List ℕ → State
state_called_by numbers d labels = record {
  size = 3;
  depth = d;
  places = labels ++ replicate 29 0;
  bits = replicate 16 false;
  serving = own_binding;
  numbers = beside d numbers;
  servers = beside d numbers;
}

-- scheme 1 at the bottom and above it scheme 2; scheme 2 at the bottom too, as the handler; and the run that is given a state
abbrev pub state_with_labels : ℕ → List ℕ → State
state_with_labels = state_called_by (1 ∷ 2 ∷ 2 ∷ [])

abbrev pub handling_state : ℕ → List ℕ → State
handling_state = state_called_by (2 ∷ 2 ∷ 2 ∷ [])

abbrev pub run_from : State → RunOutcome
run_from s = run image_p s bench_words (replicate 8 7) (replicate 8 7)

-- the same run with scheme 2 as the handler
abbrev pub handler_from : State → RunOutcome
handler_from s = run handler_two s bench_words (replicate 8 7) (replicate 8 7)

-- a run that is refused with 15 and changes nothing
abbrev pub unfit_run : State → RunOutcome
unfit_run s = record { reply = refusal 15 0 0; state = s; masks = replicate 8 7; codes = replicate 8 7 }

pub record RefusalCases : Type 0 where
  -- a text that is one character short, and records that are one byte short
  pub r1-short : read_verdict (take 160 chart_p) ≡ refused 1 0
  pub r1-records : write_verdict (take 69 (contents chart_p)) ≡ refused 1 0
  -- the last digit of the last frame, and a line feed
  pub r2-digit : read_verdict (set chart_p 159 71) ≡ refused 2 6
  pub r2-feed : read_verdict (set chart_p 22 48) ≡ refused 2 0
  pub r3 : read_verdict (set chart_p 44 57) ≡ refused 3 1
  -- a kind 5, scheme 0 and 17, result 3, a condition 16, a mark 2, a byte without a use
  pub r4-kind : read_verdict (changed_chart 6 0 5) ≡ refused 4 6
  pub r4-scheme : read_verdict (changed_chart 2 1 0) ≡ refused 4 2
  pub r4-high : read_verdict (changed_chart 2 1 17) ≡ refused 4 2
  pub r4-result : read_verdict (changed_chart 1 5 3) ≡ refused 4 1
  pub r4-condition : read_verdict (changed_chart 4 2 16) ≡ refused 4 4
  pub r4-mark : read_verdict (changed_chart 3 2 2) ≡ refused 4 3
  pub r4-needless : read_verdict (changed_chart 5 9 1) ≡ refused 4 5
  -- two Ends of scheme 1 and none of scheme 2; a scheme that is left out
  pub r5-ends : read_verdict (changed_chart 5 1 1) ≡ refused 5 0
  pub r5-gap : read_verdict (text_of (chart (begins 1 1 ∷ ends_with 1 ∷ begins 3 3 ∷ ends_with 3 ∷ []))) ≡ refused 5 0
  -- an arc that leads nowhere, into another scheme, to a Begin
  pub r6-none : read_verdict (changed_chart 1 3 7) ≡ refused 6 1
  pub r6-other : read_verdict (changed_chart 1 3 5) ≡ refused 6 1
  pub r6-begin : read_verdict (changed_chart 4 4 3) ≡ refused 6 4
  pub r7-first : read_verdict (changed_chart 1 2 1) ≡ refused 7 1
  pub r7-high : read_verdict (changed_chart 6 2 3) ≡ refused 7 6
  -- node 1 only leads to the circle of nodes 2 and 3
  pub r8 : read_verdict (text_of (chart (begins 1 1 ∷ condition 1 0 2 4 ∷ condition 1 1 3 4 ∷ condition 1 2 4 2 ∷ ends_with 1 ∷ [])))
      ≡ refused 8 2
  pub r9 : read_verdict (text_of (chart (begins 1 1 ∷ ends_with 1 ∷ operation 1 0 1 5 ∷ []))) ≡ refused 9 2
  pub r10-most : length (rows (doubling_chart 10)) ≡ 1024
  pub r10 : translate_verdict (text_of (one_more_row 10)) ≡ refused 10 0
  -- the header's mark, the two ends of the bytes without a use, no scheme, no label above 0, a frame too few
  pub r11-mark : image_verdict (changed_image 0 0 16) ≡ refused 11 0
  pub r11-needless : image_verdict (changed_image 0 9 1) ≡ refused 11 0
  pub r11-next : image_verdict (changed_image 0 6 2) ≡ refused 11 0
  pub r11-schemes : image_verdict (changed_image 0 1 0) ≡ refused 11 0
  pub r11-labels : image_verdict (changed_image 0 2 0) ≡ refused 11 0
  pub r11-rows : image_verdict (changed_image 0 4 5) ≡ refused 11 0
  -- scheme 1 as the handler, and one above H; scheme 2 is H here
  pub r11-handler-1 : image_verdict (changed_image 0 5 1) ≡ refused 11 0
  pub r11-handler-high : image_verdict (changed_image 0 5 3) ≡ refused 11 0
  pub r11-handler-fits : image_verdict handler_two ≡ fine
  -- an entry and a label out of their places, a row below the one before
  pub r12-entry : image_verdict (changed_image 1 1 2) ≡ refused 12 1
  pub r12-label : image_verdict (changed_image 7 1 5) ≡ refused 12 7
  pub r12-row : image_verdict (changed_image 11 1 2) ≡ refused 12 11
  -- an entry of another scheme, a label 0 that is no home, a call of scheme 1, values outside the care mask, a function bit, a next label
  -- of another scheme
  pub r13-entry : image_verdict (changed_image 1 2 3) ≡ refused 13 1
  pub r13-home : image_verdict (changed_image 3 2 0) ≡ refused 13 3
  pub r13-call : image_verdict (changed_image 5 3 1) ≡ refused 13 5
  pub r13-values : image_verdict (changed_image 9 5 2) ≡ refused 13 9
  pub r13-bit : image_verdict (changed_image 9 6 1) ≡ refused 13 9
  pub r13-next : image_verdict (changed_image 11 7 2) ≡ refused 13 11
  pub r14-none : fresh_state 0 ≡ record { reply = refusal 14 0 0; state = no_state }
  pub r14-high : fresh_state 33 ≡ record { reply = refusal 14 0 0; state = no_state }
  -- depth 0, a label above M, a bottom of scheme 2, a kept label that is no call, a label of another scheme above a call, a place above
  -- the depth
  pub r15-depth : run_from (state_with_labels 0 (0 ∷ 0 ∷ 0 ∷ [])) ≡ unfit_run (state_with_labels 0 (0 ∷ 0 ∷ 0 ∷ []))
  pub r15-label : run_from (state_with_labels 1 (5 ∷ 0 ∷ 0 ∷ [])) ≡ unfit_run (state_with_labels 1 (5 ∷ 0 ∷ 0 ∷ []))
  pub r15-bottom : run_from (handling_state 1 (3 ∷ 0 ∷ 0 ∷ [])) ≡ unfit_run (handling_state 1 (3 ∷ 0 ∷ 0 ∷ []))
  pub r15-kept : run_from (state_with_labels 2 (0 ∷ 3 ∷ 0 ∷ [])) ≡ unfit_run (state_with_labels 2 (0 ∷ 3 ∷ 0 ∷ []))
  pub r15-above : run_from (state_with_labels 2 (2 ∷ 2 ∷ 0 ∷ [])) ≡ unfit_run (state_with_labels 2 (2 ∷ 2 ∷ 0 ∷ []))
  pub r15-filled : run_from (state_with_labels 1 (0 ∷ 0 ∷ 1 ∷ [])) ≡ unfit_run (state_with_labels 1 (0 ∷ 0 ∷ 1 ∷ []))
  -- label 1 at the bottom, which fits where there is a handler and nothing stands above; so does a label of the handler
  pub r15-return : run_from (state_with_labels 1 (1 ∷ 0 ∷ 0 ∷ [])) ≡ unfit_run (state_with_labels 1 (1 ∷ 0 ∷ 0 ∷ []))
  pub r15-return-above : handler_from (handling_state 2 (1 ∷ 3 ∷ 0 ∷ [])) ≡ unfit_run (handling_state 2 (1 ∷ 3 ∷ 0 ∷ []))
  pub r15-return-fits : (handler_from (handling_state 1 (1 ∷ 0 ∷ 0 ∷ []))).codes ≡ 3 ∷ 4 ∷ 18 ∷ 0 ∷ 3 ∷ 4 ∷ 18 ∷ 0 ∷ []
  pub r15-handler-fits : (handler_from (handling_state 1 (3 ∷ 0 ∷ 0 ∷ []))).codes ≡ 0 ∷ 3 ∷ 4 ∷ 18 ∷ 0 ∷ 3 ∷ 4 ∷ 18 ∷ []
  pub r16-read : read_chart chart_p (replicate 69 7) ≡ record { reply = refusal 16 0 0; buffer = replicate 69 7 }
  pub r16-run : run image_p (fresh 1) bench_words (replicate 8 7) (replicate 7 7) ≡ record {
    reply = refusal 16 0 0;
    state = fresh 1;
    masks = replicate 8 7;
    codes = replicate 7 7;
  }
  -- three ticks are written, and the rest is as it was
  pub r17 : run image_p (fresh 2) bench_words (replicate 8 7) (replicate 8 7) ≡ record {
    reply = refusal 17 0 3;
    state = record {
      size = 2;
      depth = 2;
      places = 2 ∷ 4 ∷ replicate 30 0;
      bits = replicate 16 false;
      serving = own_binding;
      numbers = 1 ∷ 2 ∷ replicate 30 0;
      servers = 1 ∷ 2 ∷ replicate 30 0;
    };
    masks = 0 ∷ 1 ∷ 0 ∷ replicate 5 7;
    codes = 4 ∷ 18 ∷ 0 ∷ replicate 5 7;
  }
  -- the handler at the bottom of a full stack
  pub r17-handler : handler_from (handling_state 3 (4 ∷ 4 ∷ 4 ∷ [])) ≡ record {
    reply = refusal 17 0 0;
    state = handling_state 3 (4 ∷ 4 ∷ 4 ∷ []);
    masks = replicate 8 7;
    codes = replicate 8 7;
  }
  -- the row of label 4 is taken out, and the return to it finds none
  pub r18 : (fresh_run (text_of (take 110 (set (contents image_p) 4 3))) 3 bench_words).reply ≡ refusal 18 0 5
  -- a mark on scheme 1, in each of the three calls, and two marks
  pub r19-first : read_verdict (text_of marked_first) ≡ refused 19 0
  pub r19-write : write_verdict marked_first ≡ refused 19 0
  pub r19-translate : translate_verdict (text_of marked_first) ≡ refused 19 0
  pub r19-second : read_verdict (text_of (chart (begins 1 1 ∷ ends_with 1 ∷ marks 2 3 ∷ ends_with 2 ∷ marks 3 5 ∷ ends_with 3 ∷ [])))
      ≡ refused 19 0
  -- with an End missing too, and with an arc to no node
  pub r19-after-5 : read_verdict (text_of (set marked_first 51 1)) ≡ refused 5 0
  pub r19-before-6 : read_verdict (text_of (set marked_first 13 7)) ≡ refused 19 0
  -- scheme 2 of chart P calls itself; a wrong mark is told first
  pub r20 : places_needed chart_p ≡ refusal 20 0 0
  pub r20-after-19 : places_needed (text_of marked_first) ≡ refusal 19 0 0
  -- a function of scheme 1 calls scheme 2, which calls none
  pub r20-none : places_needed chart_function ≡ success 2
