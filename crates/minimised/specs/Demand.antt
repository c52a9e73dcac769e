-- The agreement for the smaller image: what a list of runs and rebindings on it hands back, against the walk of the chart.
use Rattle.std.specs.Prelude.{ℕ, ◌≤◌, ◌≡◌, List, length, take}
use Rattle.text.specs.frames.Frame.{contents}
use Rattle.text.specs.frames.Verdict.{fine}
use Rattle.text.specs.frames.Answer.{success, BufferOutcome}
use Rattle.image.specs.Image.{image_text}
use Rattle.translator.specs.Table.{table}
use Rattle.translator.specs.Entry.{translate_verdict}
use Rattle.state.specs.declared.layout.TheConstants.{PLACES}
use Rattle.minimising.specs.Entry.{minimise_verdict}
use Rattle.agreement.specs.Agreement.{Translator, Maker, Runner, Rebinder, CallInput, call_outputs, walk_outputs}

abbrev pub Minimiser : Type 0
Minimiser = List ℕ → List ℕ → BufferOutcome

-- a smaller image was written, no longer than n characters
pub record Shrunk (x : BufferOutcome) (n : ℕ) : Type 0 where
  pub count : ℕ
  pub done : x.reply ≡ success count
  pub most : count ≤ n

-- For every text that translates nothing but 16 refuses to make its image smaller.
abbrev pub NeverUneven : Type 0
NeverUneven = (t : List ℕ) → translate_verdict t ≡ fine → minimise_verdict (image_text (table (contents t))) ≡ fine

-- For every text that translates, with n characters written, room for as many is enough.
unfoldable pub SmallerMade : Translator → Minimiser → Type 0
SmallerMade translator minimiser =
    (text out : List ℕ) (n : ℕ) → (translator text out).reply ≡ success n
    → (room : List ℕ) → n ≤ length room → Shrunk (minimiser (take n (translator text out).buffer) room) n

-- For every text that translates, with n characters written, whose image is made smaller, with m characters written.
unfoldable pub SmallerAgreement : Translator → Minimiser → Maker → Runner → Rebinder → Type 0
SmallerAgreement translator minimiser fresh run rebind =
    (text out : List ℕ) (n : ℕ) → (translator text out).reply ≡ success n
    → let image = take n (translator text out).buffer in
    (room : List ℕ) (m : ℕ) → (minimiser image room).reply ≡ success m
    → (size : ℕ) → 1 ≤ size → size ≤ PLACES → (given : List CallInput)
    → call_outputs run rebind (take m (minimiser image room).buffer) (fresh size).state given ≡ walk_outputs size (contents text) given
