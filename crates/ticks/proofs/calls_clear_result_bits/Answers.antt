use Rattle.ticks.proofs.calls_clear_result_bits.Goals as goal
use Rattle.ticks.proofs.Functions.{call-clears, drops, zero-row}

pub returns-clause-call_clears : goal.returns-clause-call_clears
returns-clause-call_clears c = call-clears

pub returns-clause-drops : goal.returns-clause-drops
returns-clause-drops c = drops

pub returns-clause-zero_row : goal.returns-clause-zero_row
returns-clause-zero_row c = zero-row
