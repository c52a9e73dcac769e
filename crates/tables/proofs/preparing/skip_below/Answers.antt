-- `tables::preparing::skip_below` meets its contract: the loop keeps what is left to search.
use Rattle.std.proofs.Common.{le-leb, sym, ◌∙◌, rules, arith}
use Rattle.std.proofs.lemmas.Grind.{common_steps}
use borrow.Author.Tests.{lt-leb}
use Rattle.words.proofs.lists.Searches.{lowest-here, lowest-on, lowest-over}
use Rattle.tables.proofs.preparing.skip_below.Goals as goal

pub returns-then-l-byte : goal.returns-then-l-byte
returns-then-l-byte c = grind (arith, common_steps, lowest-here, le-leb)

pub loop-f-preserved : goal.loop-f-preserved
loop-f-preserved c = grind (arith, common_steps, lt-leb, lowest-on)

pub returns : goal.returns
returns c = sym (lowest-over _ _ _ (search rules)) ∙ c.loop-f.invariant.1
