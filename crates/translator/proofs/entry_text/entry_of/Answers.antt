-- `translator::entry_text::entry_of`: each scheme has a Begin.
use Rattle.translator.proofs.label_text.LabelPuts.{scheme-inside}
use Rattle.translator.proofs.entry_text.entry_of.Goals as goal

pub bounds-begins-scheme : goal.bounds-begins-scheme
bounds-begins-scheme c = scheme-inside c.requires.of_scheme c.requires.begun
