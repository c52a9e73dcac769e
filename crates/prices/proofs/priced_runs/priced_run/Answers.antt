-- `prices::priced_runs::priced_run` meets its contract:
-- more words than are priced are refused, else the run is made and its masks are priced.
use Rattle.prices.proofs.priced_runs.EntryCases.{many-priced, counted-inside, counted-few, run-priced}
use Rattle.std.proofs.Common.{arith, length-take, rules}
use Rattle.prices.proofs.priced_runs.priced_run.Goals as goal

pub returns-then-words-gt65536 : goal.returns-then-words-gt65536
returns-then-words-gt65536 c = many-priced _ _ _ _ _ _ (search rules) c.refuse_many-answer.ensures

pub slice_bounds-price_of-end : goal.slice_bounds-price_of-end
slice_bounds-price_of-end c = counted-inside _ _ _ _ c.run-answer.ensures c.count_of-n.ensures

pub slice_bounds-price_of-end-2 : goal.slice_bounds-price_of-end-2
slice_bounds-price_of-end-2 c =
    omega (arith, counted-inside _ _ _ _ c.run-answer.ensures c.count_of-n.ensures, length-take c.count_of-n.result c.run-answer.new.masks)

pub price_of-price-requires : goal.price_of-price-requires
price_of-price-requires c = counted-few _ _ _ _ c.run-answer.ensures c.count_of-n.ensures (search rules)

pub returns : goal.returns
returns c = run-priced _ _ _ _ _ _ (search rules) c.run-answer.ensures c.count_of-n.ensures c.price_of-price.ensures
