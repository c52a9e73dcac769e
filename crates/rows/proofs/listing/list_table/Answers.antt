-- `rows::listing::list_table` meets its contract: no room in a buffer, or both are filled.
use Rattle.std.proofs.Common.{ap, ℕ, ◌+◌, rules, arith}
use Rattle.std.proofs.lemmas.Grind.{common_steps}
use Rattle.rows.proofs.listing.FillCases.{firsts-short, counts-short, listed}
use Rattle.rows.proofs.listing.list_table.Goals as goal

pub returns-then-firsts-labels : goal.returns-then-firsts-labels
returns-then-firsts-labels c = grind (arith, common_steps, firsts-short, c.args.table.last_read)

pub returns-then-counts-labels : goal.returns-then-counts-labels
returns-then-counts-labels c = grind (arith, common_steps, counts-short, c.args.table.last_read)

pub returns : goal.returns
returns c =
    listed _ _ _ _ (ap (λ (n : ℕ). n + 1) c.args.table.last_read) (search rules) (search rules) _ _
    (c.fill_listing.ensures.firsts, c.fill_listing.ensures.counts)
