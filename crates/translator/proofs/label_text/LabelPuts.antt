-- The steps of the functions that write entries and labels, at plain values.
use Rattle.std.proofs.Common.{if◌then◌else◌, ◌≡◌, refl, sym, ◌∙◌, ap, Bool, true, false, List, [], ◌++◌, ℕ, ◌+◌, ◌*◌, ◌≤◌, ◌<◌, arith}
use Rattle.std.proofs.Common.{slice_index}
use Rattle.std.proofs.Common.{length, ne_eqb}
use Rattle.std.proofs.lemmas.Grind.{common_steps}
use Rattle.words.specs.lists.Sequences.{written}
use Rattle.std.proofs.lemmas.Bool.{cond-true, cond-false}
use Rattle.words.proofs.lists.Written.{written-more}
use Rattle.words.proofs.lists.Fills.{Pieces, pieces-turn}
use Rattle.text.specs.frames.Frame.{size}
use Rattle.charts.specs.Chart.{Chart, kind, next0, begin}
use Rattle.walk.specs.Stops.{is_stop, start}
use Rattle.walk.proofs.Facts.{Facts}
use Rattle.image.specs.Image.{entry_frame, label_frame}
use Rattle.chart_rows.specs.Labels.{is_numbered, label, entry, stop_label}
use Rattle.chart_rows.specs.inner.ChartContracts.{Labelled, AtNode, Begun}
use Rattle.translator.specs.inner.LabelContracts.{OfScheme}
use Rattle.translator.specs.inner.LabelBytes.{entry_bytes, node_label_bytes, Put}
use Rattle.chart_rows.proofs.chart_labels.ReadyLaws.{ready-facts}
use Rattle.chart_rows.proofs.chart_labels.LabelSteps.{own-label, no-own-label}

-- ---- entries
pub numbered-stop : (c : Chart) (v : ℕ) → (kind c v ≡ 1 → ⊥) → is_numbered c v ≡ is_stop c v
numbered-stop c v n = grind (arith, common_steps, ne_eqb)

module _ {c : Chart} {labels begins : List ℕ} {h : ℕ} (s : OfScheme c labels h) (begun : Begun c begins) where
  known-facts : Facts c
  known-facts = ready-facts s.chart.ready

  ok : Labelled c labels
  ok = s.chart.labelled

  pub scheme-inside : h < length begins
  scheme-inside = omega (arith, begun.long, s.high, known-facts.most)

  module _ {v : ℕ} (read : v ≡ slice_index begins h) where
    e : v ≡ begin c h
    e = read ∙ begun.at h s.low s.high

    begin-inside : v < size c
    begin-inside = omega (arith, (known-facts.begins h s.low s.high).0, e)

    begin-kind : kind c v ≡ 0
    begin-kind = ap (kind c) e ∙ (known-facts.begins h s.low s.high).1

    next-inside : next0 c v < size c
    next-inside = (known-facts.arc0 v begin-inside (λ z. omega (arith, begin-kind))).inside

    pub entry-read : v < length labels
    entry-read = omega (arith, ok.long, begin-inside)

    pub entry-field : 10 * v + 3 < length c
    entry-field = omega (arith, known-facts.whole, begin-inside)

    pub entry-next : {w : ℕ} → w ≡ next0 c v → w < length labels
    entry-next q = omega (arith, ok.long, next-inside)

    starts : (b : Bool) → is_stop c v ≡ b → start c h ≡ (if b then v else next0 c v)
    unfolding start
    starts b q = ap (λ (x : ℕ). if is_stop c x then x else next0 c x) (sym e) ∙ ap (λ y. if y then v else next0 c v) q

    stop-by : is_numbered c v ≡ is_stop c v
    stop-by = numbered-stop c v (λ z. omega (arith, begin-kind))

    pub entry-own : 2 ≤ slice_index labels v → slice_index labels v ≡ entry c h
    entry-own g =
        let m : slice_index labels v ≡ label c v = ok.at v begin-inside in
        m ∙ ap (label c) (sym (starts true (sym stop-by ∙ own-label c v (omega arith))))

    pub entry-other : slice_index labels v < 2 → {w : ℕ} → w ≡ next0 c v → slice_index labels w ≡ entry c h
    entry-other g q =
        let m : slice_index labels v ≡ label c v = ok.at v begin-inside in
        ap (λ (x : ℕ). slice_index labels x) q ∙ ok.at (next0 c v) next-inside
        ∙ ap (label c) (sym (starts false (sym stop-by ∙ no-own-label c v (omega arith))))

pub ruleset entries = (entry-read, entry-field, entry-next, entry-own, entry-other)

pub entries-turn : (c : Chart) (out₀ out out' : List ℕ) (at n k place l : ℕ) → Pieces (entry_bytes c) 10 out₀ out at n k → k < n
    → place ≡ at + 10 * k → at + 10 * n ≤ length out₀
    → length out' ≡ length out → l ≡ entry c (k + 1) → out' ≡ written out place (entry_frame (k + 1) l)
    → Pieces (entry_bytes c) 10 out₀ out' at n (k + 1)
entries-turn c out₀ out out' at n k place l w h p room s m e =
    pieces-turn (entry_bytes c) 10 out₀ at n (λ j. refl) out out' k place w h p (omega arith) s
    (e ∙ ap (λ (x : ℕ). written out place (entry_frame (k + 1) x)) m)

-- ---- labels
pub fixed-done : (out out₁ out₂ a b : List ℕ) (at : ℕ) → length a ≡ 10 → at + 20 ≤ length out
    → out₁ ≡ written out at a → out₂ ≡ written out₁ (at + 10) b → out₂ ≡ written out at (a ++ b)
fixed-done out out₁ out₂ a b at n h e₁ e₂ = written-more out at a b out₁ out₂ (at + 10) (omega arith) (omega arith) e₁ e₂

module _ {c : Chart} {labels : List ℕ} {v : ℕ} (node : AtNode c labels v) where
  read : slice_index labels v ≡ label c v
  read = node.chart.labelled.at v node.inside

  pub label-none : slice_index labels v < 2 → node_label_bytes c v ≡ []
  label-none h = grind (arith, common_steps, no-own-label, cond-false, read)

  label-one : 2 ≤ slice_index labels v → node_label_bytes c v ≡ label_frame (label c v) (stop_label c v)
  label-one h = grind (arith, common_steps, own-label, cond-true, read)

  label-long : 2 ≤ slice_index labels v → length (node_label_bytes c v) ≡ 10
  label-long h = ap (λ (x : List ℕ). length x) (label-one h)

  pub label-room : 2 ≤ slice_index labels v → (at : ℕ) {n : ℕ} → at + length (node_label_bytes c v) ≤ n → at + 10 ≤ n
  label-room h at r = omega (arith, label-long h)

  pub label-done : 2 ≤ slice_index labels v → {out out' : List ℕ} {at : ℕ}
      → out' ≡ written out at (label_frame (slice_index labels v) (stop_label c v))
      → Put out at (node_label_bytes c v) (at + 10) out'
  label-done h e = grind (arith, common_steps, read, label-one, label-long)
