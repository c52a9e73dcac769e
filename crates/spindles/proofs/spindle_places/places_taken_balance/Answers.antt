use Rattle.spindles.proofs.spindle_places.PlacesBalance.{places-counted}
use Rattle.spindles.proofs.spindle_places.places_taken_balance.Goals as goal

pub returns : goal.returns
returns c = record { balance = places-counted }
