-- `covering::other_words_in` meets its contract: without a function bit one sum is the other.
use Rattle.std.proofs.Common.{arith}
use Rattle.covering.proofs.FunctionBits.{bits-alike}
use Rattle.covering.proofs.other_words_in.Goals as goal

pub returns-then-not-has_function_bit : goal.returns-then-not-has_function_bit
returns-then-not-has_function_bit c =
    grind (arith, bits-alike c.args.table.now c.args.first)
