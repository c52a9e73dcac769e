-- What a caller from C learns where fairleadow_count_fillings returns 0: the three counts written are all lists; and on the image that the
-- translator wrote none meets 18, and those that meet 17 are the ones whose walk goes too deep.
use Rattle.std.specs.Prelude.{ℕ, ◌+◌, ◌≡◌, List, take}
use Rattle.words.specs.lists.Numbers.{count}
use Rattle.text.specs.frames.Frame.{contents}
use Rattle.text.specs.frames.Answer.{success}
use Rattle.translator.specs.Entry.{translate}
use Rattle.fillings.specs.Counts.{words_of, lists, count_fillings}
use Rattle.fairleadow.specs.FillingsForC.{GivesFillingsC}
use Rattle.fill_walks.specs.Promises.{is_walk_too_deep}

abbrev pub SumsUpC : Type 0
SumsUpC =
    (t : List ℕ) (size n k r at made e f u : ℕ) → GivesFillingsC (count_fillings t size n k) r at made e f u → r ≡ 0
    → e + f + u ≡ lists n k

abbrev pub ByTheWalkC : Type 0
ByTheWalkC =
    (text out : List ℕ) (m : ℕ) → (translate text out).reply ≡ success m → (size n k r at made e f u : ℕ)
    → GivesFillingsC (count_fillings (take m (translate text out).buffer) size n k) r at made e f u → r ≡ 0
    → (u ≡ 0) × (f ≡ count (λ x. is_walk_too_deep size (contents text) (words_of n k x)) 0 (lists n k))
