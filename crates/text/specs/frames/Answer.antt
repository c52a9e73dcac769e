-- What an entry point answers and leaves in the buffer lent to it, in the paper's numbers.
use Rattle.std.specs.Prelude.{ℕ, ◌/◌, ◌≡◌, List, length, Result, Ok, Err, if◌then◌else◌, nat_lt}
use Rattle.words.specs.lists.Sequences.{over}
use Rattle.text.specs.declared.frames.refusals.TheConstants.{NO_ROOM}
use Rattle.text.specs.frames.Verdict.{Verdict, fine, refused}
use Rattle.text.specs.declared.frames.refusals.Refusal.{Refusal}
use Rattle.text.specs.frames.Refusal.{number_of, index_of, ticks_of}

-- the count that it made, or why it refuses
abbrev pub Answer : Type 0
Answer = Result ℕ Refusal

-- success with the count written; or a refusal's number, index and count
pub data Reply : Type 0 where
  success : ℕ → Reply
  refusal : ℕ → ℕ → ℕ → Reply

-- what an answer stands for in numbers; every promise about an answer goes through this
abbrev pub reply : Answer → Reply
reply (Ok n) = success n
reply (Err r) = refusal (number_of r) (index_of r) (ticks_of r)

-- the same of an answer that hands back something else, with the count that goes with success
abbrev pub answer_reply : {A : Type 0} → Result A Refusal → ℕ → Reply
answer_reply (Ok x) n = success n
answer_reply (Err r) n = reply (Err r)

-- the number that C gets, 0 for success
abbrev pub reply_number : Reply → ℕ
reply_number (success n) = 0
reply_number (refusal k i n) = k

-- the index of a frame or a node, 0 for none
abbrev pub reply_index : Reply → ℕ
reply_index (success n) = 0
reply_index (refusal k i n) = i

-- what was made, or how many ticks were finished
abbrev pub reply_count : Reply → ℕ
reply_count (success n) = n
reply_count (refusal k i n) = n

-- a verdict with the count that goes with it, be it refused or not
abbrev pub counted_reply : Verdict → ℕ → Reply
counted_reply fine n = success n
counted_reply (refused k i) n = refusal k i n

-- a verdict with the count of success; a refusal that comes before any tick counts 0
abbrev pub verdict_reply : Verdict → ℕ → Reply
verdict_reply fine n = success n
verdict_reply (refused k i) n = refusal k i 0

-- an answer, and what the lent buffer then holds
pub record BufferOutcome : Type 0 where
  pub reply : Reply
  pub buffer : List ℕ

-- what a function with one lent buffer promises: its answer, and what the buffer then holds
pub record GivesBuffer (x : BufferOutcome) (answer : Answer) (after : List ℕ) : Type 0 where
  pub answered : reply answer ≡ x.reply
  pub written : after ≡ x.buffer

-- a refusal leaves the buffer as it was; else its front is written, counted by units, or there is no room: 16
abbrev pub buffer_on : Verdict → ℕ → (Unit {0} → List ℕ) → List ℕ → BufferOutcome
buffer_on (refused k i) unit new old = record { reply = refusal k i 0; buffer = old }
buffer_on fine unit new old = let xs = new tt in
    if nat_lt (length old) (length xs) then record { reply = refusal NO_ROOM 0 0; buffer = old }
    else record { reply = success (length xs / unit); buffer = over xs old }

-- all of xs stands at the front, counted by units
abbrev pub buffer_filled_with : ℕ → List ℕ → List ℕ → BufferOutcome
buffer_filled_with unit xs old = record { reply = success (length xs / unit); buffer = over xs old }
