-- What a caller learns of a cause and of a listing, from C too, by the records that the contracts cite: with success the cause explains
-- the tick, and the two buffers hold the rows of each label.
use Rattle.std.specs.Prelude.{ℕ, ◌≡◌, List}
use Rattle.text.specs.frames.Answer.{Answer, reply, success}
use Rattle.rows.specs.listing.Listing.{list, GivesListing}
use Rattle.rows.specs.listing.Exact.{Held}
use Rattle.state.specs.declared.State.{State as Kept}
use Rattle.state.specs.State.{Sized}
use Rattle.state.specs.Kept.{view}
use Rattle.cause.specs.Cause.{Cause, CauseAnswer, explain, cause_reply, cause_row, cause_mask, cause_bit, GivesCause}
use Rattle.cause.specs.Laws.{Explains}
use Rattle.fairleadow.specs.ImagesForC.{GivesListingC}
use Rattle.fairleadow.specs.CausesForC.{cause_for, GivesCauseC}

abbrev pub cause_report : ℕ → ℕ → ℕ → Cause
cause_report k m b = record { row = k; mask = m; bit = b }

unfoldable pub CauseTold : Type 0
CauseTold =
    (text : List ℕ) (s : Kept) (w : ℕ) (answer : CauseAnswer) → GivesCause (explain text (view s) w) answer → Sized (view s)
    → (n : ℕ) → cause_reply answer ≡ success n
    → Explains text (view s) w (cause_report (cause_row answer) (cause_mask answer) (cause_bit answer))

unfoldable pub CauseToldC : Type 0
CauseToldC =
    (text : List ℕ) (s : Kept) (w at made k m b : ℕ) → GivesCauseC s (cause_for text s w) 0 at made k m b
    → Explains text (view s) w (cause_report k m b)

unfoldable pub RowsListed : Type 0
RowsListed =
    (text firsts counts : List ℕ) (answer : Answer) (us vs : List ℕ) → GivesListing (list text firsts counts) answer us vs
    → (n : ℕ) → reply answer ≡ success n → Held text us vs n

unfoldable pub RowsListedC : Type 0
RowsListedC =
    (text firsts counts : List ℕ) (at n : ℕ) (us vs : List ℕ) → GivesListingC (list text firsts counts) 0 at n us vs
    → Held text us vs n
