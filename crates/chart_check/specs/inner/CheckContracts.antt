-- What the checks of a chart ask of their callers, refusals that found nothing; and what is left of the verdict then.
use Rattle.std.specs.Prelude.{◌≤◌, ◌≡◌, false}
use Rattle.words.specs.lists.Numbers.{lowest, any}
use Rattle.text.specs.declared.frames.sizes.TheConstants.{NODES}
use Rattle.text.specs.declared.frames.refusals.TheConstants.{BAD_ARC, BAD_CALL, CIRCLE, CUT_OFF}
use Rattle.text.specs.frames.Frame.{size}
use Rattle.text.specs.frames.Verdict.{Verdict, next, at_lowest}
use Rattle.charts.specs.Chart.{Chart, schemes}
use Rattle.charts.specs.Check.{has_bad_field, is_bad_scheme, has_bad_arc, has_bad_call, is_on_circle, is_cut_off}

-- 6 and 7
abbrev pub arcs_verdict : Chart → Verdict
arcs_verdict c = next (at_lowest BAD_ARC (has_bad_arc c) (size c)) λ _. at_lowest BAD_CALL (has_bad_call c) (size c)

-- 8 and 9
abbrev pub joined_verdict : Chart → Verdict
joined_verdict c = next (at_lowest CIRCLE (is_on_circle c) (size c)) λ _. at_lowest CUT_OFF (is_cut_off c) (size c)

-- refusals 4, 5 and 6 find nothing
pub record Passed4To6 (c : Chart) : Type 0 where
  pub few : size c ≤ NODES
  pub fields : size c ≤ lowest (has_bad_field c) 0 (size c)
  pub counts : any (is_bad_scheme c) 1 (schemes c) ≡ false
  pub ends : size c ≤ lowest (has_bad_arc c) 0 (size c)
