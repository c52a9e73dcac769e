-- A cause on a table: the label that is left, the row found among its frames with its number, what is told, and refusals 15, 18 and 21.
use Rattle.std.proofs.Common.{ℕ, ◌+◌, ◌-◌, ◌≤◌, ◌<◌, false, ◌≡◌, refl, sym, ◌∙◌, ap, List, arith, bit_or, nat_lt, ◌==◌}
use Rattle.std.proofs.Common.{lt-ltb, le-ltb, le-leb, eq-eqb, Ok, Err, if◌then◌else◌, slice_index}
use Rattle.std.proofs.lemmas.Bool.{lt-leb}
use Rattle.std.proofs.lemmas.Grind.{common_steps}
use Rattle.std.proofs.lemmas.Bool.{cond-true, cond-false}
use Rattle.results.specs.Results.{Results}
use Rattle.text.specs.frames.Frame.{size, pair_at}
use Rattle.text.specs.frames.Verdict.{Verdict}
use Rattle.text.specs.declared.frames.refusals.Refusal.{Refusal}
use Rattle.text.specs.declared.frames.refusals.Refusal.TheVariants.{NoRow, Rowless}
use Rattle.text.proofs.frames.Chains.{when-fails}
use Rattle.image.specs.Layout.{tick_kind}
use Rattle.image.specs.Image.{Image, Label, Row}
use Rattle.image.specs.Decode.{rows_from, last_label}
use Rattle.tables.specs.Table.{table_label, first_on, end_on, row_on, rows_on, table_image}
use Rattle.tables.specs.inner.Asked.{Whole}
use Rattle.tables.proofs.TableReads.{labels-count, label-at}
use Rattle.rows.specs.Rows.{Choice, row, no_choice, best_row}
use Rattle.rows.specs.inner.Search.{Deciding, Chosen, found_at}
use Rattle.rows.proofs.ChoiceLaws.{moved_by}
use Rattle.rows.proofs.BestRows.{best-at, best-is}
use Rattle.rows.proofs.TableRows.{rows_before, found-number, any-row}
use Rattle.rows.proofs.SearchCases.{chosen-found}
use Rattle.state.specs.State.{State, Sized, label_at, place_at}
use Rattle.fitness.specs.Fitness.{is_unfit}
use Rattle.fitness.proofs.Fitness.{unfits}
use Rattle.ticks.specs.Tick.{called_bit, choice}
use Rattle.ticks.specs.inner.TickContracts.{bit_of}
use Rattle.cause.specs.Cause.{mask_against_all, leaves_label, leaving_by, leaving, cause_at, cause_of, CauseOutcome}
use Rattle.cause.specs.Cause.{no_cause, cause_outcome, cause_on, cause_reply, GivesCause}
use Rattle.cause.specs.inner.CauseContracts.{mask_against_from}
use Rattle.cause.specs.inner.TableCauses.{Ordered, leaving_number, table_cause}
use Rattle.cause.proofs.Leaves.{Leaves, by, stays, leaves}
use Rattle.cause.proofs.table_causes.TableConditions.{any-conditions, frame-conditions}

-- a refusal, and no cause
pub tells-none : (x : CauseOutcome) (r : Refusal) → x ≡ record { reply = cause_reply (Err r); cause = no_cause } → GivesCause x (Err r)
tells-none x r e = rw e (record { answered = refl; row = refl; mask = refl; bit = refl })

-- ---- the label that is left, by the tick kind of the one at the top
module _ (b : List ℕ) (s : State) where
  abbrev i : Image
  i = table_image b

  abbrev top : ℕ
  top = place_at s (s.depth - 1)

  left-is : leaving i s ≡ leaving_by s (tick_kind (table_label b top).kind)
  unfolding leaving
  left-is = ap (λ (x : Label). leaving_by s (tick_kind x.kind)) (label-at b top)

  module _ (k : ℕ) (read : k ≡ (table_label b top).kind) where
    pub left-plain : k ≡ 0 → top ≡ leaving_number (leaving i s)
    left-plain e = rw (left-is, sym read, e)

    pub left-other : (k ≡ 0 → ⊥) → (k ≡ 3 → ⊥) → 0 ≡ leaving_number (leaving i s)
    left-other m n = grind (arith, common_steps, left-is)

    pub left-last : k ≡ 3 → s.depth ≤ 1 → 0 ≡ leaving_number (leaving i s)
    left-last e h = rw (left-is, sym read, e, le-leb s.depth 1 h)

    pub left-beneath : k ≡ 3 → 1 < s.depth → place_at s (s.depth - 2) ≡ leaving_number (leaving i s)
    left-beneath e h = rw (left-is, sym read, e, lt-leb s.depth 1 h)

-- ---- the row that label l takes
unmoved : (m n f : ℕ) (r : Row) (x : Choice) → row (m + f) r ≡ moved_by n x → (k : ℕ) × (x ≡ row k r) × (m + f ≡ n + k)
unmoved m n f r no_choice e = absurd (let z : ◌≡◌ {A = ℕ} 0 1 = cc in omega arith)
unmoved m n f r (row k q) e = (k, ap (row k) (let z : q ≡ r = cc in z), (let z : m + f ≡ n + k = cc in z))

unmoved-none : (n : ℕ) (x : Choice) → no_choice ≡ moved_by n x → x ≡ no_choice
unmoved-none n no_choice e = refl
unmoved-none n (row k q) e = absurd (let z : ◌≡◌ {A = ℕ} 0 1 = cc in omega arith)

-- the row in frame f, by its number k among all rows
pub record RowNumbers (b : List ℕ) (l w bit f : ℕ) : Type 0 where
  pub least : rows_from b ≤ f
  pub few : f - rows_from b < 1024
  pub chosen : best_row l w bit 0 (table_image b).rows ≡ row (f - rows_from b) (row_on b l f)

decides : (b : List ℕ) (l k h : ℕ) (bs : Results) (bit : ℕ) → bit ≡ bit_of k h bs → k ≡ (table_label b l).kind → Deciding b l bit
decides b l k h bs bit e q = grind (arith, common_steps)

module _ (b : List ℕ) (l w : ℕ) (low : 2 ≤ l) (high : l ≤ last_label b) (x : Ordered b) (bs : Results) (bit : ℕ)
    (e : bit ≡ bit_of (table_label b l).kind (table_label b l).called bs) where
  abbrev img : Image
  img = table_image b

  bit-told : bit ≡ (if (label_at img l).kind == 2 then called_bit img bs l else 2)
  bit-told = e ∙ ap (λ (y : Label). bit_of y.kind y.called bs) (sym (label-at b l))

  pub bit-decides : Deciding b l bit
  bit-decides = decides b l _ _ bs bit e refl

  -- what does not look at the bit of a label that calls no function is the same for the bit called and the one that decides
  decided : {A : Type 0} (F : ℕ → A) → (((table_label b l).kind ≡ 2 → ⊥) → (p q : ℕ) → F p ≡ F q) → F (called_bit img bs l) ≡ F bit
  decided F any = grind (arith, common_steps, eq-eqb, cond-true, label-at, bit-told)

  choice-is : choice img bs l w ≡ best_row l w bit 0 img.rows
  choice-is = decided (λ n. best_row l w n 0 img.rows) (λ n p q. any-row b l w p q n low high)

  conditions-are : mask_against_all l w (called_bit img bs l) img.rows ≡ mask_against_all l w bit img.rows
  conditions-are = decided (λ n. mask_against_all l w n img.rows) (λ n p q. any-conditions b l w n p q low high)

  module _ (whole : Whole b) (small : (k : ℕ) → slice_index b k < 256) (f : ℕ) (g : Chosen b l w bit f) where
    found : found_at b l f ≡ best_row l w bit (first_on b l) (rows_on b l)
    found = chosen-found b l w bit whole small f g

    by-number : moved_by (rows_before b l) (found_at b l f) ≡ moved_by (first_on b l) (best_row l w bit 0 img.rows)
    by-number = found-number b l w bit low high f found

    pub none-told : size b ≤ f → GivesCause (cause_outcome (cause_at img bs w (leaves_label l))) (Err (NoRow 0))
    none-told h = grind (arith, common_steps, rows_before, le-ltb, moved_by, cond-false, tells-none, unmoved-none, choice-is, by-number)

    module _ (h : f < size b) where
      found-is : found_at b l f ≡ row f (row_on b l f)
      found-is = cond-true (nat_lt f (size b)) (row f (row_on b l f)) no_choice (lt-ltb f (size b) h)

      pub numbers : RowNumbers b l w bit f
      numbers =
          let u = unmoved (rows_before b l) (first_on b l) f (row_on b l f) (best_row l w bit 0 img.rows)
          (sym (ap (moved_by (rows_before b l)) found-is) ∙ by-number) in
          let starts = x.starts l low high in
          let own = best-at l w bit (first_on b l) (rows_on b l) f (row_on b l f) (sym found ∙ found-is) in
          let best = best-is l w bit img.rows u.0 (row_on b l f) u.1 in
          let number : u.0 ≡ f - rows_from b = omega (arith, u.2) in
          record {
            least = omega (arith, u.2);
            few = omega (arith, best.inside, x.sound.few);
            chosen = u.1 ∙ ap (λ (k : ℕ). row k (row_on b l f)) number;
          }

      pub row-told : GivesCause (cause_outcome (cause_at img bs w (leaves_label l))) (Ok (record {
        row = f - rows_from b;
        mask = bit_or (pair_at b f 2) (mask_against_from b w bit (first_on b l) (end_on b l - first_on b l));
        bit = bit;
      }))
      row-told = rw (
        choice-is,
        numbers.chosen,
        frame-conditions b l w bit bit-decides low high,
        conditions-are,
      ) (record { answered = refl; row = refl; mask = refl; bit = bit-told })

-- ---- on the table: t says whether the state is unfit, and l is the label left, 0 for none
module _ (b : List ℕ) (s : State) (sized : Sized s) (w : ℕ) (x : Ordered b) (h : is_unfit (table_image b) s ≡ false) (l : ℕ)
    (is : l ≡ leaving_number (leaving (table_image b) s)) where
  fit-told : table_cause b s w ≡ cause_outcome (cause_at (table_image b) s.bits w (leaving (table_image b) s))
  unfolding cause_of
  fit-told = ap (λ (v : Verdict). cause_on v (λ _. cause_of (table_image b) s w)) (when-fails 15 (is_unfit (table_image b) s) h)

  left : Leaves (table_image b) s
  left = leaves (table_image b) x.sound s (unfits (table_image b) s sized h)

  pub rowless-told : l ≡ 0 → GivesCause (table_cause b s w) (Err Rowless)
  rowless-told n = grind (arith, common_steps, stays, by, tells-none, fit-told, left)

  -- where it is not 0, it is of 2 to M
  pub record Left : Type 0 where
    pub low : 2 ≤ l
    pub high : l ≤ last_label b
    pub told : table_cause b s w ≡ cause_outcome (cause_at (table_image b) s.bits w (leaves_label l))

  pub some-left : (l ≡ 0 → ⊥) → Left
  some-left n = go left
    where
      go : Leaves (table_image b) s → Left
      go (by m q o) = grind (arith, common_steps, labels-count, fit-told)
      go (stays q o) = grind (arith, common_steps)
