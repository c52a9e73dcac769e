use Rattle.output.proofs.programs_print_by_what_is_read.Goals as goal
use Rattle.output.proofs.translate_output.Limits.{translate-front}
use Rattle.output.proofs.run_output.Limits.{run-front}
use Rattle.output.proofs.translate_output.Capitals.{translates}
use Rattle.output.proofs.run_output.Capitals.{prints}

pub returns-clause-translate_front : goal.returns-clause-translate_front
returns-clause-translate_front c = translate-front

pub returns-clause-run_front : goal.returns-clause-run_front
returns-clause-run_front c = run-front

pub returns-clause-translate_capitals : goal.returns-clause-translate_capitals
returns-clause-translate_capitals c = translates

pub returns-clause-run_capitals : goal.returns-clause-run_capitals
returns-clause-run_capitals c = prints
