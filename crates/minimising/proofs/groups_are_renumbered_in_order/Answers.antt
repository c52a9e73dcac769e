use Rattle.minimising.proofs.groups_are_renumbered_in_order.Goals as goal
use Rattle.minimising.proofs.group_numbers.Renumbered.{entries-led, rows-led}

pub returns-clause-entries_led : goal.returns-clause-entries_led
returns-clause-entries_led c = entries-led

pub returns-clause-rows_led : goal.returns-clause-rows_led
returns-clause-rows_led c = rows-led
