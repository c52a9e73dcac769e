-- `chart_text::spread`: the frames from f on stand as text, and those before them still as bytes.
use Rattle.chart_text.proofs.SpreadSteps.{Spread}
use Rattle.chart_text.proofs.in_place.spread.Given as goal

abbrev pub invariant-loop-f : goal.invariant-loop-f
invariant-loop-f l = Spread l.initial.out l.out l.n l.f

abbrev pub decreases-loop-f : goal.decreases-loop-f
decreases-loop-f l = l.f
