-- A chart with a handler: its image, walks and runs on it that drop the open schemes, and states with the handler at the bottom.
use Rattle.std.specs.Prelude.{ℕ, Bool, true, false, ◌≡◌, List, [], ◌∷◌, map, replicate, take, set}
use Rattle.bindings.specs.Binding.{own_binding}
use Rattle.text.specs.frames.Verdict.{fine, refused}
use Rattle.text.specs.frames.Answer.{Reply, success, refusal, buffer_on}
use Rattle.text.specs.frames.Frame.{contents, text_of}
use Rattle.walk.specs.Walk.{signals, Tick, walk}
use Rattle.image.specs.Check.{image_verdict}
use Rattle.translator.specs.Entry.{translate}
use Rattle.state.specs.State.{State}
use Rattle.runs.specs.Run.{run}
use Rattle.bench.specs.Bench.{lines, tick_of, fresh_run}

-- scheme 1: function 2 and then, where condition 1 is set, an operation that calls scheme 3; scheme 2: where condition 0 is set, an
-- operation that writes 1 and calls scheme 2; scheme 3, the handler:
-- an operation that writes 1 and then, where condition 0 is set, one that writes 1 and calls scheme 2
unfoldable pub chart_handler : List ℕ
chart_handler = lines (
    "00010001000000000000FE" ∷ "04010202020000000000F5" ∷ "03010104030000000000F4" ∷ "02010304000000000001F5"
    ∷ "01010000000000000000FE" ∷ "00020006000000000000F8" ∷ "03020008070000000000EC" ∷ "02020208000200000002EE"
    ∷ "01020000000000000000FD" ∷ "0003010A000000000000F2" ∷ "0203000B000200000004EA" ∷ "0303000D0C0000000000E1"
    ∷ "0203020D000200000008E2" ∷ "01030000000000000000FC" ∷ [])

unfoldable pub image_handler : List ℕ
image_handler = lines (
    "0F0307000B0300000000D9" ∷ "10010200000000000000ED" ∷ "10020400000000000000EA" ∷ "10030600000000000000E7"
    ∷ "11000400010000000000EA" ∷ "11010300000000000000EB" ∷ "11020202010000000000E8" ∷ "11030103010000000001E6"
    ∷ "11040000020000000000E9" ∷ "11050102020200000002E1" ∷ "11060000030200000004E0" ∷ "11070102030200000008D8"
    ∷ "12020002000000000000EA" ∷ "12020002000200030000E5" ∷ "12020002000001000000E9" ∷ "12020002000201030000E4"
    ∷ "12030000000002000000E9" ∷ "12040001000002010000E6" ∷ "12040001000102050000E1" ∷ "12050000000002010000E6"
    ∷ "12060001000002010000E4" ∷ "12060001000102070000DD" ∷ "12070000000002010000E4" ∷ [])

-- with two places: a drop, the handler, home, and a drop again; the word 2 of the handler's return has condition 1 set, but is not read
unfoldable pub drop_words : List ℕ
drop_words = 0 ∷ 0 ∷ 1 ∷ 0 ∷ 0 ∷ 2 ∷ 0 ∷ 0 ∷ 1 ∷ 0 ∷ []

-- a drop, and the handler calls scheme 2, which calls itself
unfoldable pub bottom_words : List ℕ
bottom_words = 0 ∷ 0 ∷ 1 ∷ 0 ∷ 1 ∷ 0 ∷ 1 ∷ 0 ∷ 0 ∷ []

-- scheme 1 calls scheme 3, which calls scheme 2
unfoldable pub ordinary_words : List ℕ
ordinary_words = 0 ∷ 0 ∷ 0 ∷ 2 ∷ 0 ∷ 1 ∷ 0 ∷ 0 ∷ 0 ∷ 0 ∷ []

-- a state of two places by its depth, the label and the number of each, which served itself, and the bits of numbers 2 and 3
abbrev pub handler_state : ℕ → ℕ → ℕ → ℕ → ℕ → Bool → Bool → State
handler_state d l h above g b₂ b₃ = record {
  size = 2;
  depth = d;
  places = l ∷ above ∷ replicate 30 0;
  bits = false ∷ b₂ ∷ b₃ ∷ replicate 13 false;
  serving = own_binding;
  numbers = h ∷ g ∷ replicate 30 0;
  servers = h ∷ g ∷ replicate 30 0;
}

-- what a run of one word answers on such a state, its bits 0
abbrev pub reply_to_word : ℕ → ℕ → ℕ → ℕ → ℕ → Reply
reply_to_word d l h above g = (run image_handler (handler_state d l h above g false false) (0 ∷ []) (0 ∷ []) (0 ∷ [])).reply

-- the walk with each number served by its own scheme
abbrev pub walked_handler : ℕ → List ℕ → List Tick
walked_handler size ws = walk size (contents chart_handler) (signals own_binding ws)

pub record HandlerCases : Type 0 where
  pub translated : (out : List ℕ) → translate chart_handler out ≡ buffer_on fine 1 (λ _. image_handler) out
  -- a drop finds two schemes open and the tick after it one, and the handler's return leads home
  pub drop-walk : walked_handler 2 drop_words
      ≡ tick_of 4 1 0 4 1 ∷ tick_of 1 1 0 66 1 ∷ tick_of 5 2 0 0 2 ∷ tick_of 7 2 2 96 2
      ∷ tick_of 10 3 4 0 1 ∷ tick_of 13 3 0 3 1 ∷ tick_of 4 1 0 4 1 ∷ tick_of 1 1 0 66 1
      ∷ tick_of 5 2 0 0 2 ∷ tick_of 7 2 2 96 2 ∷ []
  -- the last tick, a drop, writes the caller's 1, does not clear it though scheme 2 is called too, and clears the handler's 1
  pub drop-before : (fresh_run image_handler 2 (take 9 drop_words)).state ≡ handler_state 2 2 1 5 2 false true
  pub drop-run : fresh_run image_handler 2 drop_words ≡ record {
    reply = success 10;
    state = handler_state 1 6 3 0 0 true false;
    masks = 0 ∷ 0 ∷ 0 ∷ 2 ∷ 4 ∷ 0 ∷ 0 ∷ 0 ∷ 0 ∷ 2 ∷ [];
    codes = 4 ∷ 66 ∷ 0 ∷ 96 ∷ 0 ∷ 3 ∷ 4 ∷ 66 ∷ 0 ∷ 96 ∷ [];
  }
  -- with the handler first the walk makes the call that finds two schemes open, and the machine refuses it
  pub bottom-walk : walked_handler 2 bottom_words
      ≡ tick_of 4 1 0 4 1 ∷ tick_of 1 1 0 66 1 ∷ tick_of 5 2 0 0 2 ∷ tick_of 7 2 2 96 2
      ∷ tick_of 10 3 4 0 1 ∷ tick_of 12 3 8 18 1 ∷ tick_of 5 2 0 0 2 ∷ tick_of 7 2 2 18 2
      ∷ tick_of 5 2 0 0 3 ∷ []
  pub bottom-run : fresh_run image_handler 2 bottom_words ≡ record {
    reply = refusal 17 0 7;
    state = handler_state 2 7 3 5 2 false true;
    masks = 0 ∷ 0 ∷ 0 ∷ 2 ∷ 4 ∷ 8 ∷ 0 ∷ 0 ∷ 0 ∷ [];
    codes = 4 ∷ 66 ∷ 0 ∷ 96 ∷ 0 ∷ 18 ∷ 0 ∷ 0 ∷ 0 ∷ [];
  }
  -- a scheme 3 that was called is dropped with the rest; the 1 that it writes as the caller is cleared as the handler's
  pub ordinary-before : (fresh_run image_handler 2 (take 6 ordinary_words)).state ≡ handler_state 2 3 1 7 3 false true
  pub ordinary-after : (fresh_run image_handler 2 (take 7 ordinary_words)).state ≡ handler_state 1 6 3 0 0 false false
  pub ordinary-run : let r = fresh_run image_handler 2 ordinary_words in
      (r.reply ≡ success 10)
      × (r.codes ≡ 4 ∷ 66 ∷ 0 ∷ 3 ∷ 19 ∷ 0 ∷ 96 ∷ 0 ∷ 3 ∷ 4 ∷ [])
      × (r.masks ≡ 0 ∷ 0 ∷ 0 ∷ 0 ∷ 1 ∷ 4 ∷ 8 ∷ 4 ∷ 0 ∷ 0 ∷ [])
  -- with 32 places nothing is dropped
  pub roomy-walk : map (λ (t : Tick). t.code) (walked_handler 32 drop_words) ≡ 4 ∷ 66 ∷ 0 ∷ 18 ∷ 0 ∷ 3 ∷ 3 ∷ 4 ∷ 66 ∷ 0 ∷ []
  pub roomy-run : let r = fresh_run image_handler 32 drop_words in
      (r.reply ≡ success 10)
      × (r.codes ≡ 4 ∷ 66 ∷ 0 ∷ 18 ∷ 0 ∷ 3 ∷ 3 ∷ 4 ∷ 66 ∷ 0 ∷ [])
      × (r.masks ≡ 0 ∷ 0 ∷ 0 ∷ 2 ∷ 0 ∷ 0 ∷ 0 ∷ 0 ∷ 0 ∷ 0 ∷ [])
  -- with one place the function's call is a drop, and the handler's own call gets 17
  pub narrow-run : let r = fresh_run image_handler 1 drop_words in
      (r.reply ≡ refusal 17 0 3)
      × (r.codes ≡ 4 ∷ 96 ∷ 0 ∷ replicate 7 0)
      × (r.masks ≡ 0 ∷ 0 ∷ 4 ∷ replicate 7 0)
  -- at the bottom a label of the handler or label 1, but none of scheme 2, and nothing above label 1
  pub fits-handler : reply_to_word 1 6 3 0 0 ≡ success 1
  pub fits-return : reply_to_word 1 1 3 0 0 ≡ success 1
  pub unfit-other : reply_to_word 1 4 2 0 0 ≡ refusal 15 0 0
  pub unfit-above : reply_to_word 2 1 3 4 2 ≡ refusal 15 0 0
  -- another scheme from 2 up in the header's byte 5, scheme 1, and one above H
  pub header-other : image_verdict (text_of (set (contents image_handler) 5 2)) ≡ fine
  pub header-first : image_verdict (text_of (set (contents image_handler) 5 1)) ≡ refused 11 0
  pub header-high : image_verdict (text_of (set (contents image_handler) 5 4)) ≡ refused 11 0
