use Rattle.std.proofs.Common.{refl, arith}
use Rattle.std.proofs.lemmas.Grind.{common_steps}
use Rattle.runs.proofs.TurnCases.{turn-start, turn-on, turn-stood, turn-over}
use Rattle.runs.proofs.runs.tick_all.Goals as goal

pub loop-i-init : goal.loop-i-init
loop-i-init c = turn-start c.requires.depth refl

pub returns-in-Full : goal.returns-in-Full
returns-in-Full c = turn-stood c.loop-i.invariant (omega arith) c.in-Full.ensures

pub returns-in-NoRow : goal.returns-in-NoRow
returns-in-NoRow c = turn-stood c.loop-i.invariant (omega arith) c.in-NoRow.ensures

pub loop-i-preserved : goal.loop-i-preserved
loop-i-preserved c = grind (arith, common_steps, turn-on)

pub returns : goal.returns
returns c = turn-over c.loop-i.invariant (omega arith)
