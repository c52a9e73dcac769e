-- `run`: as many characters are shown as the translator counted.
use Rattle.translator.proofs.Translated.{done-fits, done-part}
use Rattle.translate_cases.proofs.run.Goals as goal

pub slice_bounds-image-end : goal.slice_bounds-image-end
slice_bounds-image-end c =
    let translate = c.translate in
    done-fits _ _ translate.new.out _ _ translate.ensures.answered c.in-Ok.is
    translate.auto.out

pub slice_bounds-show-end : goal.slice_bounds-show-end
slice_bounds-show-end c =
    let translate = c.translate in
    done-part _ _ _ _ _ translate.ensures.answered c.in-Ok.is translate.auto.out
