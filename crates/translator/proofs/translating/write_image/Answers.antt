-- `translator::translating::write_image`: 10 or 16, else the whole image.
use Rattle.std.proofs.Common.{arith}
use Rattle.chart_rows.proofs.chart_labels.ReadyLaws.{ready-facts}
use Rattle.chart_rows.proofs.chart_labels.LabelSteps.{few-numbered}
use Rattle.translator.proofs.ImageSteps.{image-refused, image-fits}
use Rattle.translator.proofs.translating.write_image.Goals as goal

pub overflow_add-highest-2 : goal.overflow_add-highest-2
overflow_add-highest-2 c =
    let ready = c.requires.ready in
    omega (arith, few-numbered _ (ready-facts ready), ready.few, c.note_nodes-own.ensures.own)

pub size_refusal-requires : goal.size_refusal-requires
size_refusal-requires c =
    let ready = c.requires.ready in record {
      noted = c.note_nodes-own.ensures.noted;
      before_fits = omega (arith, few-numbered _ (ready-facts ready), ready.few, c.note_nodes-own.ensures.own, c.well_formed.1.0);
    }

pub returns-in-Some : goal.returns-in-Some
returns-in-Some c =
    image-refused _ _ _ _ _ c.requires.all_schemes c.note_nodes-own.ensures.own c.size_refusal.ensures _ c.in-Some.is

pub returns : goal.returns
returns c =
    image-fits _ _ _ _ _ c.requires.all_schemes c.note_nodes-own.ensures.own c.size_refusal.ensures c.in_default.is _ _
    c.put_image.ensures
