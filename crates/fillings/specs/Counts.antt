-- How often the stack fills: how the runs end over all lists of n words in which only the k lowest conditions are ever 1.
use Rattle.std.specs.Prelude.{ℕ, zero, suc, ◌*◌, ◌/◌, ◌%◌, ◌^◌, Bool, ◌||◌, List, [], ◌∷◌, nat_lt, ◌==◌}
use Rattle.words.specs.lists.Numbers.{count}
use Rattle.text.specs.frames.Sizes.{CONDITIONS, WORDS}
use Rattle.text.specs.declared.frames.refusals.TheConstants.{BAD_SIZE, FULL, NO_ROW, MANY_LISTS}
use Rattle.text.specs.frames.Frame.{contents}
use Rattle.text.specs.frames.Verdict.{Verdict, fine, refused, next, when}
use Rattle.text.specs.frames.Answer.{Reply, success, refusal}
use Rattle.image.specs.Image.{Image}
use Rattle.image.specs.Decode.{decoded_image}
use Rattle.image.specs.Check.{image_verdict}
use Rattle.state.specs.State.{State, fresh, is_bad_size}
use Rattle.runs.specs.Run.{ticks}

-- list x of n words: its first word is the lowest k bits of x, the others are those of the bits above
unfoldable pub words_of : ℕ → ℕ → ℕ → List ℕ
words_of zero k x = []
words_of (suc n) k x = x % 2 ^ k ∷ words_of n k (x / 2 ^ k)

-- how many lists there are
abbrev pub lists : ℕ → ℕ → ℕ
lists n k = 2 ^ (n * k)

-- how the words run from a state: 0 to their end, else the number that stops them
abbrev pub number_of : Verdict → ℕ
number_of fine = 0
number_of (refused n i) = n

abbrev pub number_met : Image → State → List ℕ → ℕ
number_met i s words = number_of (ticks i s words).verdict

-- how many lists meet a number
unfoldable pub count_meeting : Image → State → ℕ → ℕ → ℕ → ℕ
count_meeting i s n k number = count (λ x. number_met i s (words_of n k x) == number) 0 (lists n k)

-- 28
abbrev pub has_too_many_lists : ℕ → ℕ → Bool
has_too_many_lists n k = nat_lt CONDITIONS (n * k) || nat_lt CONDITIONS k || nat_lt WORDS n

-- what the image check tries, 14 and 28
unfoldable pub count_verdict : List ℕ → ℕ → ℕ → ℕ → Verdict
count_verdict t size n k = next (image_verdict t) λ _. next (when BAD_SIZE (is_bad_size size)) λ _. when MANY_LISTS (has_too_many_lists n k)

-- lists that run to their end, that meet 17 and that meet 18
pub record FillingsOutcome : Type 0 where
  pub reply : Reply
  pub ended : ℕ
  pub full : ℕ
  pub unmatched : ℕ

abbrev pub fillings_on : Image → ℕ → ℕ → ℕ → Verdict → FillingsOutcome
fillings_on i size n k (refused m j) = record { reply = refusal m j 0; ended = 0; full = 0; unmatched = 0 }
fillings_on i size n k fine = let s = fresh size in
    record {
      reply = success 0;
      ended = count_meeting i s n k 0;
      full = count_meeting i s n k FULL;
      unmatched = count_meeting i s n k NO_ROW;
    }

unfoldable pub count_fillings : List ℕ → ℕ → ℕ → ℕ → FillingsOutcome
count_fillings t size n k = fillings_on (decoded_image (contents t)) size n k (count_verdict t size n k)
