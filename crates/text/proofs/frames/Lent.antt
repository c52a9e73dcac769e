-- What success of an entry point tells about the buffer lent to it, and what it is where there is room.
use Rattle.std.proofs.Common.{ℕ, ◌/◌, ◌≤◌, ◌<◌, ◌≡◌, sym, ap, List, arith, length, take, drop, take_at, lt-ltb, le-ltb, ltb-false, Ok, Err}
use Rattle.std.proofs.lemmas.Grind.{common_steps}
use Rattle.words.specs.lists.Sequences.{over}
use Rattle.text.specs.frames.Verdict.{Verdict, fine, refused}
use Rattle.text.specs.declared.frames.refusals.Refusal.{Refusal}
use Rattle.text.specs.declared.frames.refusals.Refusal.TheVariants.{NoRoom}
use Rattle.text.specs.frames.Refusal.{number_of, index_of, ticks_of}
use Rattle.text.specs.frames.Answer.{Answer, success, refusal, reply, BufferOutcome, GivesBuffer, buffer_on, buffer_filled_with}

pub lent-fits : (unit : ℕ) (new : Unit {0} → List ℕ) (old : List ℕ) → length (new tt) ≤ length old
    → buffer_on fine unit new old ≡ buffer_filled_with unit (new tt) old
lent-fits unit new old h = grind (arith, common_steps, le-ltb)

pub record Success (v : Verdict) (unit : ℕ) (xs old : List ℕ) (n : ℕ) (r : BufferOutcome) : Type 0 where
  pub accepted : v ≡ fine
  pub fits : length xs ≤ length old
  pub count : n ≡ length xs / unit
  pub buffer : r.buffer ≡ over xs old

pub lent-told : (v : Verdict) (unit : ℕ) (new : Unit {0} → List ℕ) (old : List ℕ) (n : ℕ) → (buffer_on v unit new old).reply ≡ success n
    → Success v unit (new tt) old n (buffer_on v unit new old)
lent-told (refused k i) unit new old n e = grind (arith, common_steps)
lent-told fine unit new old n e = grind (arith, common_steps, ltb-false)

pub front : (n : ℕ) (xs old : List ℕ) → n ≡ length xs → take n (over xs old) ≡ xs
front n xs old e = take_at xs (drop (length xs) old) n (sym e)

-- ---- how an entry point with a lent buffer answers: by a verdict's refusal, for want of room, or with all of it written
module _ (v : Verdict) (unit : ℕ) (new : Unit {0} → List ℕ) (old : List ℕ) where
  pub lent-refused : (k i : ℕ) → v ≡ refused k i → (a : Answer) → reply a ≡ refusal k i 0 → GivesBuffer (buffer_on v unit new old) a old
  lent-refused k i e a q = grind (arith, common_steps)

  -- the same of a refusal that is handed on
  pub lent-err : (r : Refusal) → (v ≡ refused (number_of r) (index_of r)) × (ticks_of r ≡ 0)
      → GivesBuffer (buffer_on v unit new old) (Err r) old
  lent-err r (e, t) = lent-refused (number_of r) (index_of r) e (Err r) (ap (refusal (number_of r) (index_of r)) t)

  pub lent-short : v ≡ fine → length old < length (new tt) → GivesBuffer (buffer_on v unit new old) (Err NoRoom) old
  lent-short e h = grind (arith, common_steps, lt-ltb)

  pub lent-done : v ≡ fine → length (new tt) ≤ length old → (n : ℕ) → n ≡ length (new tt) / unit → (out : List ℕ) → out ≡ over (new tt) old
      → GivesBuffer (buffer_on v unit new old) (Ok n) out
  lent-done e h n m out o = grind (arith, common_steps, lent-fits)
