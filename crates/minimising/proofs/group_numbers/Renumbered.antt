-- The laws of renumbering, of any image and any classes.
use Rattle.std.proofs.Common.{ap, ℕ, eqb-true}
use Rattle.words.proofs.lists.Ranges.{get_d-map}
use Rattle.words.specs.lists.Numbers.{count}
use Rattle.grouping.specs.Classes.{class_of, is_first}
use Rattle.minimising.specs.group_numbers.Smaller.{renumbered_label, joined_labels}
use Rattle.minimising.specs.group_numbers.Renumbered.{FirstNumbered, EntriesLed, RowsLed}
use Rattle.minimising.proofs.group_numbers.Led as led

pub first-numbered : FirstNumbered
first-numbered c l t = ap (λ (x : ℕ). count (is_first c) 0 x) (eqb-true (class_of c l) l t)

pub entries-led : EntriesLed
unfolding joined_labels
entries-led i c h l = get_d-map (renumbered_label c) i.entries h 0 0 l

pub rows-led : RowsLed
rows-led c l w b t = led.rows-led c l w b t
