-- What the counts are on the image of a chart: no list meets 18, and those that meet 17 are the ones whose walk goes too deep.
use Rattle.std.specs.Prelude.{ℕ, Bool, false, ◌≡◌, List, take}
use Rattle.words.specs.lists.Numbers.{count}
use Rattle.std.specs.List.{list_any}
use Rattle.bindings.specs.Binding.{own_binding}
use Rattle.text.specs.frames.Frame.{contents}
use Rattle.text.specs.frames.Answer.{success}
use Rattle.charts.specs.Chart.{Chart}
use Rattle.walk.specs.Walk.{Tick, signals, walk}
use Rattle.translator.specs.Entry.{translate}
use Rattle.agreement.specs.Agreement.{is_full_call}
use Rattle.state.specs.State.{is_bad_size}
use Rattle.fillings.specs.Counts.{words_of, lists, has_too_many_lists, count_fillings}

-- a call of the walk finds as many schemes open as there are places; one that drops them does not count
abbrev pub is_too_deep : ℕ → List Tick → Bool
is_too_deep size ts = list_any (is_full_call size) ts

abbrev pub is_walk_too_deep : ℕ → Chart → List ℕ → Bool
is_walk_too_deep size c words = is_too_deep size (walk size c (signals own_binding words))

-- a chart that translates has its lists counted, unless the size is none or there are too many
unfoldable pub AlwaysCounted : Type 0
AlwaysCounted =
    (text out : List ℕ) (m : ℕ) → (translate text out).reply ≡ success m
    → (size n k : ℕ) → is_bad_size size ≡ false → has_too_many_lists n k ≡ false
    → (count_fillings (take m (translate text out).buffer) size n k).reply ≡ success 0

unfoldable pub ByTheWalk : Type 0
ByTheWalk =
    (text out : List ℕ) (m : ℕ) → (translate text out).reply ≡ success m
    → (size n k : ℕ) → let r = count_fillings (take m (translate text out).buffer) size n k in
    r.reply ≡ success 0
    → (r.unmatched ≡ 0) × (r.full ≡ count (λ x. is_walk_too_deep size (contents text) (words_of n k x)) 0 (lists n k))
