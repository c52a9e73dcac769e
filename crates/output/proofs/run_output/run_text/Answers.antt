-- `output::run_output::run_text` meets its contract: the run that it makes is the program's, and what was printed of it is said by put_run.
use Rattle.std.proofs.Common.{arith}
use Rattle.output.proofs.output_lines.Printed.{printed-as}
use Rattle.output.proofs.run_output.Runs.{program-few, output-is}
use Rattle.output.proofs.run_output.run_text.Goals as goal

pub put_run-requires-clause-ticked : goal.put_run-requires-clause-ticked
put_run-requires-clause-ticked c =
    let run = c.run-ran in
    omega (
      arith,
      run.auto.codes,
      program-few _ _ _ run.result.answer _
          c.count_up-all.ensures c.fresh-fresh.ensures.state run.ensures.answered run.ensures.codes,
    )

pub returns : goal.returns
returns c =
    let run = c.run-ran in
    printed-as _ _ _ _ _ (output-is _ _ _ run.result.answer _
    c.count_up-all.ensures c.fresh-fresh.ensures.state run.ensures.answered run.ensures.codes) c.put_run.ensures
