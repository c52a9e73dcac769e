-- The bench sheet: its charts, words and answers, B1 to B8 and B10, said about the definitions, calls that clear a result bit, and a chart
-- that tells which nodes stop.
-- (B9 is run by a program.)
use Rattle.std.specs.Prelude.{ℕ, ◌-◌, ◌%◌, ◌≤◌, true, false, ◌≡◌, List, [], ◌∷◌, ◌++◌, map, length, take, replicate, slice_index, flat_map}
use Prim.Native.Char.{code}
use Prim.Native.String.{String, [] as none, ◌∷◌ as more}
use Rattle.text.specs.frames.Verdict.{fine}
use Rattle.text.specs.frames.Answer.{success, refusal, buffer_on}
use Rattle.words.specs.lists.Numbers.{range}
use Rattle.text.specs.frames.Frame.{contents}
use Rattle.results.specs.Results.{no_results}
use Rattle.bindings.specs.Binding.{own_binding}
use Rattle.walk.specs.Walk.{Signal, signals, Tick, walk}
use Rattle.translator.specs.Entry.{translate}
use Rattle.state.specs.State.{fresh, fresh_state}
use Rattle.runs.specs.Run.{RunOutcome, run}

unfoldable pub characters : String → List ℕ
characters none = []
characters (more c s) = code c ∷ characters s

-- a text by its lines
abbrev pub lines : List String → List ℕ
lines = flat_map (λ s. characters s ++ (10 ∷ []))

unfoldable pub chart_p : List ℕ
chart_p = lines (
    "00010001000000000000FE" ∷ "02010202000000000001F8" ∷ "01010000000000000000FE" ∷ "00020004000000000000FA"
    ∷ "03020005060000000000F0" ∷ "01020000000000000000FD" ∷ "02020205000000000002F3" ∷ [])

unfoldable pub image_p : List ℕ
image_p = lines (
    "0F020400040000000000E7" ∷ "10010200000000000000ED" ∷ "10020300000000000000EB" ∷ "11000400010000000000EA"
    ∷ "11010300000000000000EB" ∷ "11020102010000000001E8" ∷ "11030000020000000000EA" ∷ "11040102020000000002E4"
    ∷ "12020000000002000000EA" ∷ "12030001000002010000E7" ∷ "12030001000102040000E3" ∷ "12040000000002010000E7" ∷ [])

unfoldable pub bench_words : List ℕ
bench_words = 0 ∷ 0 ∷ 1 ∷ 0 ∷ 0 ∷ 0 ∷ 0 ∷ 0 ∷ []

-- Begin to End alone
unfoldable pub chart_home : List ℕ
chart_home = lines ("00010001000000000000FE" ∷ "01010000000000000000FE" ∷ [])

-- the same with the first sum in small letters
unfoldable pub chart_small : List ℕ
chart_small = lines ("00010001000000000000fe" ∷ "01010000000000000000FE" ∷ [])

-- chart P with letters of both sizes
unfoldable pub chart_mixed : List ℕ
chart_mixed = lines (
    "00010001000000000000fE" ∷ "02010202000000000001f8" ∷ "01010000000000000000Fe" ∷ "00020004000000000000fa"
    ∷ "03020005060000000000F0" ∷ "01020000000000000000Fd" ∷ "02020205000000000002f3" ∷ [])

-- Begin, a condition with both arcs to itself, End
unfoldable pub chart_circle : List ℕ
chart_circle = lines ("00010001000000000000FE" ∷ "03010001010000000000FA" ∷ "01010000000000000000FE" ∷ [])

-- Begin; function 2, whose 0 leads to End and whose 1 leads to mask 1 and then End. Scheme 2: one operation that writes 1
unfoldable pub chart_function : List ℕ
chart_function = lines (
    "00010001000000000000FE" ∷ "04010203020000000000F4" ∷ "02010003000000000001F9" ∷ "01010000000000000000FE"
    ∷ "00020005000000000000F9" ∷ "02020006000200000000F4" ∷ "01020000000000000000FD" ∷ [])

-- the bore test: function 2, on 1 mask 1, on 0 mask 2; scheme 2 writes 1 where condition 0 is set, and writes nothing otherwise
unfoldable pub chart_bore : List ℕ
chart_bore = lines (
    "00010001000000000000FE" ∷ "04010202030000000000F4" ∷ "02010004000000000002F7" ∷ "02010004000000000001F8"
    ∷ "01010000000000000000FE" ∷ "00020006000000000000F8" ∷ "03020008070000000000EC" ∷ "02020008000200000000F2"
    ∷ "01020000000000000000FD" ∷ [])

-- two blocks of it: a bore is found in the first alone
unfoldable pub bore_words : List ℕ
bore_words = 0 ∷ 0 ∷ 1 ∷ 0 ∷ 0 ∷ 0 ∷ 0 ∷ 0 ∷ 0 ∷ 0 ∷ 0 ∷ 0 ∷ []

-- an operation that calls scheme 2; scheme 2: an operation that writes 1, and then one that writes 1 and calls scheme 2
unfoldable pub chart_again : List ℕ
chart_again = lines (
    "00010001000000000000FE" ∷ "02010202000000000000F9" ∷ "01010000000000000000FE" ∷ "00020004000000000000FA"
    ∷ "02020005000200000000F5" ∷ "02020206000200000000F2" ∷ "01020000000000000000FD" ∷ [])

-- it tells which nodes stop: function 2, on 1 mask 1, on 0 mask 2; scheme 2, its Begin the last frame: condition 0, on 0 an operation that
-- writes 1 and leads to the condition again, on 1 one that writes 0
unfoldable pub chart_stops : List ℕ
chart_stops = lines (
    "00010001000000000000FE" ∷ "04010202030000000000F4" ∷ "02010004000000000002F7" ∷ "02010004000000000001F8"
    ∷ "01010000000000000000FE" ∷ "03020006070000000000EE" ∷ "02020005000200000004F1" ∷ "02020008000100000008EB"
    ∷ "01020000000000000000FD" ∷ "00020005000000000000F9" ∷ [])

unfoldable pub image_stops : List ℕ
image_stops = lines (
    "0F020700090000000000DF" ∷ "10010200000000000000ED" ∷ "10020700000000000000E7" ∷ "11000400010000000000EA"
    ∷ "11010300000000000000EB" ∷ "11020202010000000000E8" ∷ "11030000010000000002E9" ∷ "11040000010000000001E9"
    ∷ "11050000020200000004E2" ∷ "11060000020100000008DE" ∷ "11070000020000000000E6" ∷ "12020000000000030000E9"
    ∷ "12020000000001040000E7" ∷ "12030000000002000000E9" ∷ "12040000000002000000E8" ∷ "12050001000002050000E1"
    ∷ "12050001000102060000DF" ∷ "12060000000002010000E5" ∷ "12070001000002050000DF" ∷ "12070001000102060000DD" ∷ [])

-- on 0 the operation that writes 1, and from it on 1 the one that writes 0
unfoldable pub stops_words : List ℕ
stops_words = 0 ∷ 0 ∷ 0 ∷ 1 ∷ 0 ∷ 0 ∷ 0 ∷ 0 ∷ []

-- what the translator writes to a buffer of that many characters
abbrev pub image_of : ℕ → List ℕ → List ℕ
image_of n text = (translate text (replicate n 0)).buffer

-- a run on an image from a fresh state, with room for just its words
abbrev pub fresh_run : List ℕ → ℕ → List ℕ → RunOutcome
fresh_run image size words = run image (fresh_state size).state words (replicate (length words) 0) (replicate (length words) 0)

-- a tick of the walk by its node, the number of its scheme, mask, code and open schemes
abbrev pub tick_of : ℕ → ℕ → ℕ → ℕ → ℕ → Tick
tick_of v g m k o = record { node = v; number = g; mask = m; code = k; opened = o }

-- what stands beside 32 places of which d are in use: the first d of xs, and 0 above them
abbrev pub beside : ℕ → List ℕ → List ℕ
beside d xs = take d xs ++ replicate (32 - d) 0

-- the first n of xs repeated without end
abbrev pub repeated_list : List ℕ → ℕ → List ℕ
repeated_list xs n = map (λ k. slice_index xs (k % length xs)) (range 0 n)

pub record BenchSheet : Type 0 where
  -- chart P gives its image, whatever buffer is lent
  pub b1 : (out : List ℕ) → translate chart_p out ≡ buffer_on fine 1 (λ _. image_p) out
  pub b2 : ((fresh_run image_p 3 bench_words).reply ≡ success 8)
      × ((fresh_run image_p 3 bench_words).codes ≡ 4 ∷ 18 ∷ 0 ∷ 18 ∷ 0 ∷ 3 ∷ 3 ∷ 4 ∷ [])
      × ((fresh_run image_p 3 bench_words).masks ≡ 0 ∷ 1 ∷ 0 ∷ 2 ∷ 0 ∷ 0 ∷ 0 ∷ 0 ∷ [])
  pub b3 : (fresh_run image_p 2 bench_words).reply ≡ refusal 17 0 3
  pub b4 : (fresh_run image_p 1 bench_words).reply ≡ refusal 17 0 1
  pub b5 : (size : ℕ) → 1 ≤ size → size ≤ 32 → (fresh_run image_p size []).reply ≡ success 0
  -- every tick of the walk and of the machine is a home tick, whatever the words and the stack size, and whatever serves
  pub b6-walk : (n : ℕ) (ws : List Signal) → walk n (contents chart_home) ws ≡ map (λ w. tick_of 1 1 0 4 1) ws
  pub b6-run : (size : ℕ) → 1 ≤ size → size ≤ 32 → (ws : List ℕ) → fresh_run (image_of 92 chart_home) size ws ≡ record {
    reply = success (length ws);
    state = fresh size;
    masks = map (λ w. 0) ws;
    codes = map (λ w. 4) ws;
  }
  pub b7-empty : (out : List ℕ) → translate [] out ≡ record { reply = refusal 1 0 0; buffer = out }
  -- small letters are read, each letter by itself, so that B7's second half no longer holds
  pub b7-small : (out : List ℕ) → translate chart_small out ≡ translate chart_home out
  pub b7-mixed : (out : List ℕ) → translate chart_mixed out ≡ translate chart_p out
  pub b8 : (out : List ℕ) → translate chart_circle out ≡ record { reply = refusal 8 1 0; buffer = out }
  pub b10 : (fresh_run (image_of 276 chart_function) 2 (replicate 6 0)).codes ≡ 4 ∷ 66 ∷ 0 ∷ 3 ∷ 0 ∷ 4 ∷ []
  -- no word matters to it, so the five ticks come again and again
  pub b10-always : (size : ℕ) → 2 ≤ size → size ≤ 32 → (ws : List ℕ) → let r = fresh_run (image_of 276 chart_function) size ws in
      (r.reply ≡ success (length ws))
      × (r.codes ≡ repeated_list (4 ∷ 66 ∷ 0 ∷ 3 ∷ 0 ∷ []) (length ws))
      × (r.masks ≡ repeated_list (0 ∷ 0 ∷ 0 ∷ 0 ∷ 1 ∷ []) (length ws))
  -- mask 1 in the first block and mask 2 in the second: no yes is left over
  pub bore : let r = fresh_run (image_of 391 chart_bore) 2 bore_words in
      (r.reply ≡ success 12)
      × (r.codes ≡ 4 ∷ 66 ∷ 0 ∷ 0 ∷ 3 ∷ 0 ∷ 4 ∷ 66 ∷ 0 ∷ 3 ∷ 0 ∷ 4 ∷ [])
      × (r.masks ≡ 0 ∷ 0 ∷ 0 ∷ 0 ∷ 0 ∷ 1 ∷ 0 ∷ 0 ∷ 0 ∷ 0 ∷ 2 ∷ 0 ∷ [])
  -- the fourth tick writes 1 to the bit of scheme 2 and calls scheme 2, which leaves a 0
  pub own-call : (fresh_run (image_of 253 chart_again) 3 (replicate 4 0)).state.bits ≡ no_results
  -- the sixth would do so again, but gets 17 and leaves the 1 that the fifth wrote
  pub full-call : let r = fresh_run (image_of 253 chart_again) 3 (replicate 6 0) in
      (r.reply ≡ refusal 17 0 5) × (r.state.bits ≡ false ∷ true ∷ replicate 14 false)
  -- of scheme 2 the Begin stops and its condition does not, whence it is met again too: labels and entries go by that
  pub stops-image : (out : List ℕ) → translate chart_stops out ≡ buffer_on fine 1 (λ _. image_stops) out
  pub stops-walk : walk 2 (contents chart_stops) (signals own_binding stops_words)
      ≡ tick_of 4 1 0 4 1 ∷ tick_of 1 1 0 66 1 ∷ tick_of 9 2 0 0 2 ∷ tick_of 6 2 4 0 2 ∷ tick_of 7 2 8 0 2 ∷ tick_of 8 2 0 3 2
      ∷ tick_of 2 1 2 0 1 ∷ tick_of 4 1 0 4 1 ∷ []
  pub stops-run : let r = fresh_run image_stops 2 stops_words in
      (r.reply ≡ success 8)
      × (r.codes ≡ 4 ∷ 66 ∷ 0 ∷ 0 ∷ 0 ∷ 3 ∷ 0 ∷ 4 ∷ [])
      × (r.masks ≡ 0 ∷ 0 ∷ 0 ∷ 4 ∷ 8 ∷ 0 ∷ 2 ∷ 0 ∷ [])
  -- its fifth tick writes 0 to a bit that the fourth has made 1, so the function then takes its 0 arc
  pub writes-one : (fresh_run image_stops 2 (take 4 stops_words)).state.bits ≡ false ∷ true ∷ replicate 14 false
  pub writes-zero : (fresh_run image_stops 2 (take 5 stops_words)).state.bits ≡ no_results
