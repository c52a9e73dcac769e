-- `output::run_output::put_run` meets its contract: the codes of the finished ticks stand at the front, and a refusal's frame after them.
use Rattle.output.proofs.run_output.Runs.{done-count, refused-count, codes-printed, stop-printed}
use Rattle.std.proofs.Common.{rules}
use Rattle.output.proofs.run_output.put_run.Goals as goal

pub returns-in-Ok : goal.returns-in-Ok
returns-in-Ok c =
    let counts = done-count _ _ c.in-Ok.is in
    codes-printed _ _ _ counts c.requires.ticked _ _ c.in-Ok.is c.put_codes.ensures

pub returns-in-Err : goal.returns-in-Err
returns-in-Err c =
    let counts = refused-count _ _ _ c.in-Err.is c.ticks-ticks.ensures in
    stop-printed _ _ _ counts c.requires.ticked _ _ _ c.requires.few c.number.ensures c.index.ensures c.ticks-ticks.ensures
    _ _ _ c.in-Err.is (search rules) c.put_codes-in-Err.ensures c.put_refusal.ensures
