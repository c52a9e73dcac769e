-- `spindles::turning::turn` meets its contract: the tick is settled.
use Rattle.std.proofs.Common.{sym, ◌∙◌}
use Rattle.spindles.proofs.turning.Settled.{turn-made}
use Rattle.spindles.proofs.turning.turn.Goals as goal

pub returns : goal.returns
returns c = turn-made _ _ _ (sym c.bad_record.ensures ∙ c.if-bad_record.false) c.settle.ensures c.tick_table-answer.ensures
