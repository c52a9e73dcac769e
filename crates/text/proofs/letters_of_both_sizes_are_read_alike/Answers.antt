use Rattle.text.proofs.letters_of_both_sizes_are_read_alike.Goals as goal
use Rattle.text.proofs.digits.Digits.{digit-each}
use Rattle.text.proofs.frames.Capitals.{capitals-alike}

pub returns-clause-digits : goal.returns-clause-digits
returns-clause-digits c = digit-each

pub returns-clause-capitals : goal.returns-clause-capitals
returns-clause-capitals c = capitals-alike
