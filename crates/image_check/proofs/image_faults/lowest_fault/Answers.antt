-- `image_check::image_faults::lowest_fault` meets its contract: the parts in turn, each search goes on where the one before ended.
use Rattle.std.proofs.Common.{◌∙◌, rules}
use Rattle.image_check.proofs.image_faults.FaultSearch.{part-found, part-past, all-entries}
use Rattle.image_check.proofs.image_faults.lowest_fault.Goals as goal

pub returns-then-entry-labels : goal.returns-then-entry-labels
returns-then-entry-labels c =
    let entries = all-entries c.args.table.now (search rules) in
    part-found entries (search rules) (search rules) c.lowest_entry-entry.ensures c.if-entry-labels.true

pub returns-then-label-rows : goal.returns-then-label-rows
returns-then-label-rows c =
    let entries = all-entries c.args.table.now (search rules) in
    let labels = part-past entries (search rules) (search rules) c.lowest_entry-entry.ensures c.if-entry-labels.false in
    part-found labels (search rules) (search rules) c.lowest_label-label.ensures c.if-label-rows.true

pub returns : goal.returns
returns c =
    let entries = all-entries c.args.table.now (search rules) in
    let labels = part-past entries (search rules) (search rules) c.lowest_entry-entry.ensures c.if-entry-labels.false in
    let rows = part-past labels (search rules) (search rules) c.lowest_label-label.ensures c.if-label-rows.false in
    c.lowest_row.ensures ∙ rows.left
