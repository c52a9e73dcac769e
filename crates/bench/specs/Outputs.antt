-- What the two programs print, on charts and images small enough to be computed.
use Rattle.std.specs.Prelude.{ℕ, ◌≡◌, List, [], ◌∷◌, ◌++◌, replicate, flat_map}
use Rattle.text.specs.frames.Frame.{text_of}
use Rattle.output.specs.Lines.{refusal_line}
use Rattle.output.specs.TranslateProgram.{translate_output}
use Rattle.output.specs.RunProgram.{run_output}
use Rattle.bench.specs.Bench.{lines, chart_p, image_p, chart_circle}
use Rattle.bench.specs.RefusalCases.{marked_first}

-- Begin, an operation that calls scheme 2, End; scheme 2 the same, so that it calls itself for ever
unfoldable pub chart_endless : List ℕ
chart_endless = lines (
    "00010001000000000000FE" ∷ "02010202000000000001F8" ∷ "01010000000000000000FE"
    ∷ "00020004000000000000FA" ∷ "02020205000000000002F3" ∷ "01020000000000000000FD" ∷ [])

-- the same with a handler, which makes one plain tick
unfoldable pub chart_dropped : List ℕ
chart_dropped = lines (
    "00010001000000000000FE" ∷ "02010202000000000001F8" ∷ "01010000000000000000FE" ∷ "00020004000000000000FA"
    ∷ "02020205000000000002F3" ∷ "01020000000000000000FD" ∷ "00030107000000000000F5" ∷ "02030008000000000004EF"
    ∷ "01030000000000000000FC" ∷ [])

-- Begin, an operation, condition 5 (on 0 End, on 1 the operation again), End
unfoldable pub chart_held : List ℕ
chart_held = lines ("00010001000000000000FE" ∷ "02010002000000000001FA" ∷ "03010503010000000000F3" ∷ "01010000000000000000FE" ∷ [])

pub record PrintedCases : Type 0 where
  -- the image, or one frame FF
  pub translate-p : translate_output chart_p ≡ image_p
  pub translate-empty : translate_output [] ≡ lines ("FF01000000000000000000" ∷ [])
  pub translate-circle : translate_output chart_circle ≡ lines ("FF080001000000000000F8" ∷ [])
  pub translate-mark : translate_output (text_of marked_first) ≡ lines ("FF130000000000000000EE" ∷ [])
  -- a frame index of more than one byte
  pub high-index : refusal_line 13 1290 ≡ lines ("FF0D050A000000000000E5" ∷ [])
  -- sixteen turns of four ticks
  pub run-p : run_output image_p ≡ lines (flat_map (λ r. r) (replicate 16 ("04" ∷ "12" ∷ "00" ∷ "03" ∷ [])))
  -- the words from 32 on have bit 5
  pub run-held : run_output (translate_output chart_held)
      ≡ lines (flat_map (λ r. r) (replicate 16 ("04" ∷ "00" ∷ [])) ++ ("04" ∷ replicate 31 "00"))
  -- a home tick and 31 calls fill the stack, and 17 follows
  pub run-endless : run_output (translate_output chart_endless) ≡ lines ("04" ∷ replicate 31 "12" ++ ("FF110000000000000000F0" ∷ []))
  -- with a handler a drop follows them, the handler with its return, and home again
  pub run-dropped : run_output (translate_output chart_dropped)
      ≡ lines ("04" ∷ replicate 31 "12" ++ ("60" ∷ "00" ∷ "03" ∷ "04" ∷ replicate 28 "12"))
  -- no image: empty, and a chart
  pub run-empty : run_output [] ≡ lines ("FF01000000000000000000" ∷ [])
  pub run-chart : run_output chart_p ≡ lines ("FF0B0000000000000000F6" ∷ [])
