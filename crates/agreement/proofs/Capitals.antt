-- Small letters are read as capitals at every entry point, each by the one law of the reader.
use Rattle.std.proofs.Common.{ℕ, ◌≡◌, List, map, arith}
use Rattle.std.proofs.lemmas.Grind.{common_steps}
use Rattle.text.specs.digits.Digit.{capital}
use Rattle.text.proofs.frames.Capitals.{capitals-alike}
use Rattle.image.specs.Check.{image_verdict}
use Rattle.state.specs.State.{State}
use Rattle.runs.specs.TickOutcome.{image_tick}
use Rattle.spindles.specs.Spindles.{spin}
use Rattle.agreement.specs.Capitals.{AsInCapitals}
use Rattle.charts.proofs.Alike as chart
use Rattle.image.proofs.Alike as image
use Rattle.tables.proofs.Alike as table
use Rattle.rows.proofs.listing.Alike as listing
use Rattle.minimising.proofs.Letters as minimising
use Rattle.translator.proofs.Alike as translation
use Rattle.places.proofs.Alike as needed
use Rattle.cause.proofs.Alike as cause
use Rattle.prices.proofs.priced_runs.Alike as pricing
use Rattle.rebinding.proofs.Alike as rebinding
use Rattle.runs.proofs.Alike as running
use Rattle.fillings.proofs.Alike as filling

-- a call of a spindle by what the image check tries and the tick
spins-alike : (t u : List ℕ) → image_verdict t ≡ image_verdict u → ((s : State) (w : ℕ) → image_tick t s w ≡ image_tick u s w)
    → (states : List State) (taken k w : ℕ) → spin t states taken k w ≡ spin u states taken k w
unfolding spin
spins-alike t u e f states taken k w = grind (arith, common_steps)

pub as-in-capitals : (t : List ℕ) → AsInCapitals t
as-in-capitals t = record {
  reads = chart.reads (map capital t) t (capitals-alike t);
  translates = translation.translates (map capital t) t (capitals-alike t);
  needs = needed.needs (map capital t) t (capitals-alike t);
  checks = image.image-verdict (map capital t) t (capitals-alike t);
  lists = listing.lists (map capital t) t (capitals-alike t);
  prepares = table.prepares (map capital t) t (capitals-alike t);
  minimises = minimising.minimises (map capital t) t (capitals-alike t);
  runs = running.runs (map capital t) t (capitals-alike t);
  prices = pricing.prices-runs (map capital t) t (capitals-alike t);
  ticks = running.advances (map capital t) t (capitals-alike t);
  explains = cause.explains (map capital t) t (capitals-alike t);
  counts = filling.counts-alike (map capital t) t (capitals-alike t);
  rebinds = rebinding.rebinds (map capital t) t (capitals-alike t);
  spins = spins-alike (map capital t) t (image.image-verdict (map capital t) t (capitals-alike t))
      (running.advances (map capital t) t (capitals-alike t));
}
