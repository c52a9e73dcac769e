-- The search for a label that notes another frame than that at which its rows end: each search for rows goes on where the last one ended.
use Rattle.std.proofs.Common.{Bool, true, false, ◌&&◌, not, ◌≡◌, sym, ◌∙◌, ap, ap₂, List, ℕ, ◌+◌, ◌*◌, ◌-◌, ◌≤◌, ◌<◌, arith, ◌==◌, eq-eqb, ne_eqb}
use Rattle.words.specs.lists.Numbers.{lowest}
use Rattle.words.proofs.lists.Searches.{Searching, searching-first, searching-found, searching-next, lowest-inside, lowest-above, lowest-from, lowest-none}
use Rattle.text.specs.frames.Frame.{size, field}
use Rattle.image.specs.Decode.{labels_from, rows_from}
use Rattle.image_check.proofs.image_faults.FaultSearch.{part-past}
use Rattle.tables.specs.Prepare.{is_row_reached, first_frame}
use Rattle.tables.specs.Table.{noted_in}
use Rattle.tables.proofs.NotingCases.{below-more}
use Rattle.table_check.specs.TableCheck.{is_noted, is_misnoted}
use Rattle.table_check.proofs.PlacingCases.{noted-yes, noted-before, noted-behind}
use Rattle.std.proofs.lemmas.Grind.{common_steps}

-- the loop has come to frame f, and no row before frame end leaves a label from that of f on
pub record Noting (b : List ℕ) (n f end : ℕ) : Type 0 where
  pub low : labels_from b ≤ f
  pub high : f ≤ rows_from b
  pub search : Searching (is_misnoted b) n f (lowest (is_misnoted b) 0 n)
  pub behind : rows_from b ≤ end
  pub inside : end ≤ n
  pub rest : (m : ℕ) → f - labels_from b ≤ m → lowest (is_row_reached b m) end (n - end) ≡ first_frame b m

unnoted-false : (b : List ℕ) (f : ℕ) → is_noted b f ≡ false → is_misnoted b f ≡ false
unnoted-false b f e = ap (λ (x : Bool). x && not (noted_in b (f - labels_from b) == first_frame b (f - labels_from b + 1))) e

pub noting-first : {b : List ℕ} {n f end : ℕ} → n ≡ size b → rows_from b ≤ n → f ≡ labels_from b → end ≡ rows_from b → Noting b n f end
noting-first {b} {n} {f} {end} all fits is last =
    let none : lowest (is_misnoted b) 0 (f - 0) ≡ f =
    lowest-none (is_misnoted b) 0 (f - 0) (λ k l. unnoted-false b (0 + k) (noted-before b (0 + k) (omega arith))) ∙ omega arith in
    record {
      low = omega arith;
      high = omega arith;
      search = part-past (searching-first (is_misnoted b) n) (omega arith) (omega arith) (sym none) (omega arith);
      behind = omega arith;
      inside = omega arith;
      rest = λ m _. ap₂ (λ (i k : ℕ). lowest (is_row_reached b m) i (k - i)) last all;
    }

module _ {b : List ℕ} {n f end : ℕ} (N : Noting b n f end) where
  module _ {l next : ℕ} (is : l ≡ f - labels_from b + 1) (e : next ≡ lowest (is_row_reached b l) end (n - end)) where
    first-is : next ≡ first_frame b (f - labels_from b + 1)
    first-is = e ∙ ap (λ (m : ℕ). lowest (is_row_reached b m) end (n - end)) is ∙ N.rest (f - labels_from b + 1) (omega arith)

    module _ (inside : f < rows_from b) {note : ℕ} (read : note ≡ field b f 0 + field b f 1 * 256) where
      noted-is : note ≡ noted_in b (f - labels_from b)
      noted-is = read
          ∙ ap (λ (m : ℕ). field b m 0 + field b m 1 * 256) (let q : f ≡ labels_from b + (f - labels_from b) = omega (arith, N.low) in q)

      tested : (x : Bool) → (note == next) ≡ x → is_misnoted b f ≡ not x
      tested x t = grind (arith, common_steps, noted-yes, first-is, noted-is)

      pub noting-found : (note ≡ next → ⊥) → f ≡ lowest (is_misnoted b) 0 n
      noting-found other =
          searching-found (is_misnoted b) n f (lowest (is_misnoted b) 0 n) N.search (omega (arith, N.behind, N.inside))
          (tested false (ne_eqb note next other))

      pub noting-next : note ≡ next → Noting b n (f + 1) next
      noting-next same = record {
        low = omega (arith, N.low);
        high = omega arith;
        search = searching-next (is_misnoted b) n f (lowest (is_misnoted b) 0 n) N.search (omega (arith, N.behind, N.inside))
            (tested true (eq-eqb note next same));
        behind = omega (arith, e, N.behind, lowest-above (is_row_reached b l) end (n - end));
        inside = omega (arith, e, lowest-inside (is_row_reached b l) end n N.inside);
        rest = λ m h.
            ap (λ (i : ℕ). lowest (is_row_reached b m) i (n - i)) e
            ∙ lowest-from (is_row_reached b l) end n N.inside (is_row_reached b m) (below-more b l m (omega (arith, N.low)))
            ∙ N.rest m (omega (arith, N.low));
      }

  pub noting-over : rows_from b ≤ f → n ≡ lowest (is_misnoted b) 0 n
  noting-over h =
      sym (lowest-none (is_misnoted b) f (n - f) (λ k l. unnoted-false b (f + k) (noted-behind b (f + k) (omega arith)))
      ∙ (let q : f + (n - f) ≡ n = omega (arith, N.search.inside) in q))
      ∙ N.search.left
