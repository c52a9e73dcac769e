-- On the image of a chart the care mask of the row taken is enough by itself: every word that agrees on it takes the same row.
use Rattle.std.proofs.Common.{◌≡◌, sym, ◌∙◌, ap, ap₂, subst, true, ◌&&◌, ◌||◌, ℕ, bit_and, ◌==◌}
use Rattle.results.specs.Results.{result_of}
use Rattle.image.specs.Image.{Image, Row, nth_row}
use Rattle.rows.specs.Rows.{is_candidate, row}
use Rattle.rows.specs.Choices.{Best}
use Rattle.rows.proofs.BestRows.{best-is}
use Rattle.state.specs.State.{label_at}
use Rattle.ticks.specs.Tick.{called_bit}
use Rattle.cause.proofs.Leaves.{Goes}
use Rattle.cause.proofs.Explained.{TakenApart, given, taken-is, goes}
use Rattle.agreement.specs.OneRow.{Only, CareDecides}
use Rattle.agreement.proofs.OnlyRow.{image, only-translated}
use Rattle.cause.proofs.Explained as explained

pub care-decides : CareDecides
unfolding CareDecides
care-decides text out n done s w c x v a =
    let i : Image = image text out n done in
    let sound = explained.image x.fitting in
    let fits = explained.state x.fitting in
    let g : TakenApart i s w c = given i s w c x.because in
    let o : Goes i s g.from = goes i sound s fits w c x.because in
    let l : ℕ = g.from in
    let b : ℕ = called_bit i s.bits l in
    let best : Best l w b i.rows c.row g.one = best-is l w b i.rows c.row g.one g.chosen in
    let same : bit_and v g.one.care ≡ bit_and w g.one.care =
    subst (λ (r : Row). bit_and v r.care ≡ bit_and w r.care) best.is a in
    let match : is_candidate l v b g.one ≡ true =
    ap (λ (m : ℕ). g.one.from == l && (m == g.one.values && (g.one.bit == 2 || g.one.bit == b))) same ∙ best.matches in
    let only : Only l v b i.rows = only-translated text out n done l o.low o.high v (result_of (label_at i l).called s.bits) in
    let number : c.row ≡ only.number = only.only c.row best.inside (ap (is_candidate l v b) best.is ∙ match) in
    let is : only.one ≡ nth_row i c.row =
    sym (best-is l v b i.rows only.number only.one only.taken).is ∙ ap (nth_row i) (sym number) in
    taken-is i sound s fits w c x.because v ∙ only.taken ∙ ap₂ row (sym number) is
