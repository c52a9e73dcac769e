-- The cases of a tick's cause hold, computed.
use Rattle.std.proofs.Common.{refl}
use lib.Count.{ones, ones_in}
use Rattle.cause.specs.Cause.{mask_against_all, leaving, cause_of, explain}
use Rattle.bench.specs.Bench.{image_p}
use Rattle.bench.specs.Patched.{image_equal}
use Rattle.bench.specs.Causes.{image_answers, CauseCases, RowCauses, AnswerCauses}
use Rattle.bench.proofs.Computing.{running}

pub cause-cases : CauseCases
unfolding running mask_against_all leaving cause_of explain image_p
cause-cases = record {
  plain-zero = refl;
  plain-one = refl;
  beneath = refl;
  r21-home = refl;
  r21-call = refl;
  r21-full = refl;
  r21-handler = refl;
  r21-after-15 = refl;
  r18-cause = refl;
}

pub row-causes : RowCauses
unfolding running ones ones_in mask_against_all leaving cause_of explain image_equal
row-causes = record { tie = refl; more = refl; lowest = refl }

pub answer-causes : AnswerCauses
unfolding running ones ones_in mask_against_all leaving cause_of explain image_equal image_answers
answer-causes = record {
  either-one = refl;
  either-zero = refl;
  asked-one = refl;
  asked-zero = refl;
  fewer = refl;
  tied = refl;
  unconditional-zero = refl;
  unconditional-one = refl;
}
