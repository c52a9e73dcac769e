-- The agreement, with nothing assumed: the runs and rebindings on the image of any translated chart agree with its walk.
use Rattle.std.proofs.Common.{ℕ, ◌≡◌, ap, ◌∙◌, List}
use Rattle.text.specs.frames.Frame.{contents}
use Rattle.text.specs.frames.Verdict.{fine}
use Rattle.charts.specs.Entry.{read_verdict}
use Rattle.walk.proofs.Facts.{Facts}
use Rattle.walk.proofs.FactsHold.{facts}
use Rattle.image.specs.Image.{image_text}
use Rattle.translator.specs.Table.{table}
use Rattle.translator.specs.Entry.{translate_verdict, translate}
use Rattle.translator.proofs.Translated.{translated-read, translated-fine, translated-image}
use Rattle.state.specs.State.{fresh_state}
use Rattle.runs.specs.Run.{run}
use Rattle.rebinding.specs.Rebind.{rebind}
use Rattle.agreement.specs.Agreement.{call_outputs, Agreement}
use Rattle.agreement.proofs.TableFactsHold.{table-facts}
use Rattle.agreement.proofs.Images.{translated-passes, translated-decoded}
use Rattle.agreement.proofs.Chain.{calls-agree}

pub theorem : Agreement translate fresh_state run rebind
unfolding Agreement
theorem text out n done size some most given =
    let ok : translate_verdict text ≡ fine = translated-fine text out n done in
    let read : read_verdict text ≡ fine = translated-read text ok in
    let f : Facts (contents text) = facts text read in
    ap (λ (image : List ℕ). call_outputs run rebind image (fresh_state size).state given) (translated-image text out n done)
    ∙ calls-agree (contents text) f (table-facts text read) (image_text (table (contents text)))
    (translated-passes text ok f) (translated-decoded text ok f) size most some given
