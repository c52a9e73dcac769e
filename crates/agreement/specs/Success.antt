-- No refusal has the number 0: of a translation, a preparation, a joined image, a little chart, a listing, a cause and
-- a count of full stacks, 0 in the place of the number is success.
use Rattle.std.specs.Prelude.{ℕ, ◌≡◌, List}
use Rattle.text.specs.frames.Answer.{success, reply_number, reply_count}
use Rattle.translator.specs.Entry.{translate}
use Rattle.tables.specs.Prepare.{prepare}
use Rattle.minimising.specs.Entry.{minimise}
use Rattle.little_charts.specs.Little.{little_chart}
use Rattle.rows.specs.listing.Listing.{list}
use Rattle.state.specs.State.{State}
use Rattle.cause.specs.Cause.{explain}
use Rattle.fillings.specs.Counts.{count_fillings}

abbrev pub TranslateSucceeds : Type 0
TranslateSucceeds = (t old : List ℕ) → let x = translate t old in reply_number x.reply ≡ 0 → x.reply ≡ success (reply_count x.reply)

abbrev pub PrepareSucceeds : Type 0
PrepareSucceeds = (t old : List ℕ) → let x = prepare t old in reply_number x.reply ≡ 0 → x.reply ≡ success (reply_count x.reply)

abbrev pub MinimiseSucceeds : Type 0
MinimiseSucceeds = (t old : List ℕ) → let x = minimise t old in reply_number x.reply ≡ 0 → x.reply ≡ success (reply_count x.reply)

abbrev pub LittleChartSucceeds : Type 0
LittleChartSucceeds = (n k : ℕ) (old : List ℕ) → let x = little_chart n k old in reply_number x.reply ≡ 0
    → x.reply ≡ success (reply_count x.reply)

abbrev pub ListSucceeds : Type 0
ListSucceeds = (t xs ys : List ℕ) → let x = list t xs ys in reply_number x.reply ≡ 0 → x.reply ≡ success (reply_count x.reply)

abbrev pub CauseSucceeds : Type 0
CauseSucceeds = (t : List ℕ) (s : State) (w : ℕ) → let x = explain t s w in reply_number x.reply ≡ 0
    → x.reply ≡ success (reply_count x.reply)

abbrev pub CountsSucceed : Type 0
CountsSucceed = (t : List ℕ) (size n k : ℕ) → let x = count_fillings t size n k in reply_number x.reply ≡ 0 → x.reply ≡ success 0
