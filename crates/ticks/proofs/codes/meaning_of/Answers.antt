-- `ticks::codes::meaning_of` meets its contract: by single codes, then by ranges.
use Rattle.ticks.specs.codes.Codes.{meaning_of}
use Rattle.ticks.proofs.codes.CodeCases.{in-operations, in-functions, below-calls, between-calls, above-calls}
use Rattle.std.proofs.Common.{rules, arith}
use Rattle.std.proofs.lemmas.Grind.{common_steps}
use Rattle.ticks.proofs.codes.meaning_of.Goals as goal

pub returns-in-0 : goal.returns-in-0
unfolding meaning_of
returns-in-0 c = simp c.in-0.is

pub returns-in-3 : goal.returns-in-3
unfolding meaning_of
returns-in-3 c = simp c.in-3.is

pub returns-in-4 : goal.returns-in-4
unfolding meaning_of
returns-in-4 c = simp c.in-4.is

pub returns-in-96 : goal.returns-in-96
unfolding meaning_of
returns-in-96 c = simp c.in-96.is

pub returns-in-18-to-32 : goal.returns-in-18-to-32
returns-in-18-to-32 c = in-operations _ (search rules) (search rules)

pub returns-in-66-to-80 : goal.returns-in-66-to-80
returns-in-66-to-80 c = in-functions _ (search rules) (search rules)

pub returns-in_default : goal.returns-in_default
returns-in_default c = grind (arith, common_steps, below-calls)

pub returns-in_default-2 : goal.returns-in_default-2
returns-in_default-2 c = grind (arith, common_steps, between-calls)

pub returns-in_default-3 : goal.returns-in_default-3
returns-in_default-3 c = grind (arith, common_steps, above-calls)
