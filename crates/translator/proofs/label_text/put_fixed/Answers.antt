-- `translator::label_text::put_fixed`: two frames, one after the other.
use Rattle.std.proofs.Common.{refl}
use Rattle.translator.proofs.label_text.LabelPuts.{fixed-done}
use Rattle.translator.proofs.label_text.put_fixed.Goals as goal

pub returns : goal.returns
returns c =
    fixed-done _ _ _ _ _ _ refl c.requires c.put_bytes.ensures
    c.put_bytes-2.ensures
