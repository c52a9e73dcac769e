-- Whatever rule chooses among the rows that match: on the image of a chart the machine makes the same ticks by it.
use Rattle.std.proofs.Common.{◌≡◌, sym, ◌∙◌, ap, ap₂, true, false, List, ℕ, ◌+◌, ◌-◌, ◌≤◌, ◌<◌, arith, length, slice_index_or}
use Rattle.std.proofs.lemmas.Grind.{common_steps}
use Rattle.words.proofs.lists.Tests.{no_both}
use Rattle.results.specs.Results.{Results}
use Rattle.text.specs.frames.Answer.{success}
use Rattle.image.specs.Image.{Image, Row, no_row}
use Rattle.image.specs.inner.Sound.{SoundImage}
use Rattle.walk.proofs.FactsHold.{facts}
use Rattle.translator.specs.Entry.{translate}
use Rattle.translator.proofs.SoundTable.{table-sound}
use Rattle.translator.proofs.Translated.{translated-fine, translated-few}
use Rattle.rows.specs.Rows.{is_candidate, Choice, row, no_choice, best_row}
use Rattle.rows.specs.Choices.{Best}
use Rattle.rows.proofs.BestRows.{best-is}
use Rattle.state.specs.State.{State, label_at, place_at, number_at, server_at, Sized}
use Rattle.fitness.specs.Fitness.{is_call, is_unfit}
use Rattle.fitness.proofs.Fitness.{Fits, unfits}
use Rattle.ticks.specs.Tick.{called_bit, choice, tick, top_of}
use Rattle.ticks.proofs.Leads.{home_sort, return_sort, numbered_sort, sort, call-kind, carry-told}
use Rattle.agreement.specs.OneRow.{Only, Rule, Matching, TakesMatching, tick_with, AnyRuleTicks}
use Rattle.agreement.proofs.OnlyRow.{image, read, image-is, only-translated}

only-taken : (l w b : ℕ) (rs : List Row) → Only l w b rs → (x : Choice) → Matching l w b rs x → x ≡ best_row l w b 0 rs
only-taken l w b rs o x m = go x m ∙ sym o.taken
  where
    best : Best l w b rs o.number o.one
    best = best-is l w b rs o.number o.one o.taken

    go : (x : Choice) → Matching l w b rs x → x ≡ row o.number o.one
    go no_choice m = no_both (is_candidate l w b (slice_index_or rs o.number no_row))
        (ap (is_candidate l w b) best.is ∙ best.matches) (m o.number best.inside)
    go (row k r) m =
        let same : k ≡ o.number = o.only k m.0 (ap (is_candidate l w b) m.1 ∙ m.2) in
        ap₂ row same (sym m.1 ∙ ap (λ (j : ℕ). slice_index_or rs j no_row) same ∙ best.is)

-- where the rule takes the machine's row, for the label at the top or beneath a return, it makes the machine's tick
module _ (f : Rule) (i : Image) (s : State) (w : ℕ) where
  abbrev Same : ℕ → Type 0
  Same l = (b : Results) → f l w (called_bit i b l) i.rows ≡ choice i b l w

  same-tick : ((label_at i (top_of s)).kind ≡ 0 → Same (top_of s)) → (1 < s.depth → Same (place_at s (s.depth - 2)))
      → tick_with f i s w ≡ tick i s w
  unfolding tick
  same-tick top beneath = grind (arith, common_steps)

-- ---- on the image that the translator wrote
module _ (text out : List ℕ) (n : ℕ) (done : (translate text out).reply ≡ success n) (f : Rule) (takes : TakesMatching f) where
  abbrev i : Image
  i = image text out n done

  pub any-rule : (l : ℕ) → 2 ≤ l → l < length i.labels → (w : ℕ) (b : Results) → f l w (called_bit i b l) i.rows ≡ choice i b l w
  any-rule l low high w b = grind (arith, common_steps, only-translated, only-taken)

  sound : SoundImage i
  sound = search (arith, read, image-is, facts, table-sound, translated-few, translated-fine)

  -- a label with rows is 2 or above
  numbered : (l : ℕ) → l < length i.labels → (label_at i l).kind ≤ 2 → 2 ≤ l
  numbered l h k = grind (arith, common_steps, home_sort, numbered_sort, sort, return_sort, sound)

  -- every tick, of every state that fits
  pub any-tick : (s : State) → Sized s → is_unfit i s ≡ false → (w : ℕ) → tick_with f i s w ≡ tick i s w
  any-tick s sized fit w =
      let g : Fits i s = unfits i s sized fit in
      same-tick f i s w
      (λ e. let h = g.labels (s.depth - 1) (omega (arith, g.some)) in any-rule (top_of s) (numbered (top_of s) h (omega arith)) h w)
      (λ deep. let m : ℕ = place_at s (s.depth - 2) in
      let h = g.labels (s.depth - 2) (omega arith) in
      let kept : is_call (label_at i m) ≡ true =
      (carry-told i sound m (number_at s (s.depth - 2 + 1)) (server_at s (s.depth - 2 + 1)) (place_at s (s.depth - 2 + 1))
      (g.carries (s.depth - 2) (omega arith))).0 in
      any-rule m (numbered m h (call-kind i sound m kept).1) h w)

pub any-rule-ticks : AnyRuleTicks
unfolding AnyRuleTicks
any-rule-ticks = any-tick
