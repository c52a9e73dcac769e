-- Small letters: what each entry point that takes a text answers, and leaves in buffers and state, is what it does for the text in
-- capitals.
-- No text is left out, be it refused or longer than any that is accepted.
use Rattle.std.specs.Prelude.{ℕ, ◌≡◌, List, map}
use Rattle.text.specs.digits.Digit.{capital}
use Rattle.charts.specs.Entry.{read_chart}
use Rattle.image.specs.Check.{image_verdict}
use Rattle.tables.specs.Prepare.{prepare}
use Rattle.rows.specs.listing.Listing.{list}
use Rattle.minimising.specs.Entry.{minimise}
use Rattle.translator.specs.Entry.{translate}
use Rattle.places.specs.Entry.{places_needed}
use Rattle.state.specs.State.{State}
use Rattle.cause.specs.Cause.{explain}
use Rattle.rebinding.specs.Rebind.{rebind}
use Rattle.prices.specs.priced_runs.PricedRun.{priced_run}
use Rattle.runs.specs.Run.{run}
use Rattle.runs.specs.TickOutcome.{image_tick}
use Rattle.spindles.specs.Spindles.{spin}
use Rattle.fillings.specs.Counts.{count_fillings}

pub record AsInCapitals (t : List ℕ) : Type 0 where
  pub reads : (records : List ℕ) → read_chart (map capital t) records ≡ read_chart t records
  pub translates : (image : List ℕ) → translate (map capital t) image ≡ translate t image
  pub needs : places_needed (map capital t) ≡ places_needed t
  pub checks : image_verdict (map capital t) ≡ image_verdict t
  pub lists : (firsts counts : List ℕ) → list (map capital t) firsts counts ≡ list t firsts counts
  pub prepares : (table : List ℕ) → prepare (map capital t) table ≡ prepare t table
  pub minimises : (smaller : List ℕ) → minimise (map capital t) smaller ≡ minimise t smaller
  pub runs : (s : State) (words masks codes : List ℕ) → run (map capital t) s words masks codes ≡ run t s words masks codes
  pub prices : (s : State) (list words masks codes : List ℕ)
      → priced_run (map capital t) s list words masks codes ≡ priced_run t s list words masks codes
  pub ticks : (s : State) (word : ℕ) → image_tick (map capital t) s word ≡ image_tick t s word
  pub explains : (s : State) (word : ℕ) → explain (map capital t) s word ≡ explain t s word
  pub rebinds : (s : State) (number scheme : ℕ) → rebind (map capital t) s number scheme ≡ rebind t s number scheme
  pub spins : (states : List State) (taken spindle word : ℕ)
      → spin (map capital t) states taken spindle word ≡ spin t states taken spindle word
  pub counts : (size ticks conditions : ℕ) → count_fillings (map capital t) size ticks conditions ≡ count_fillings t size ticks conditions
