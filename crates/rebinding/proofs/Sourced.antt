-- A rebinding by an image's text is that on the image, and by a prepared table the live one.
use Rattle.std.proofs.Common.{◌≡◌, refl, ℕ, List}
use Rattle.text.specs.frames.Frame.{contents}
use Rattle.text.specs.frames.Verdict.{when}
use Rattle.image.specs.Decode.{decoded_image}
use Rattle.image.specs.Check.{image_verdict}
use Rattle.tables.specs.Table.{is_bad_table, table_image}
use Rattle.state.specs.State.{State}
use Rattle.rebinding.specs.Rebind.{rebind, live_rebind}
use Rattle.rebinding.specs.inner.Sources.{sourced_rebind}

pub text-rebind : (t : List ℕ) (s : State) (h k : ℕ) → sourced_rebind (image_verdict t) (decoded_image (contents t)) s h k ≡ rebind t s h k
unfolding sourced_rebind rebind
text-rebind t s h k = refl

pub table-rebind : (b : List ℕ) (s : State) (h k : ℕ) → sourced_rebind (when 11 (is_bad_table b)) (table_image b) s h k ≡ live_rebind b s h k
unfolding sourced_rebind live_rebind
table-rebind b s h k = refl

pub ruleset sourced = (text-rebind, table-rebind)
