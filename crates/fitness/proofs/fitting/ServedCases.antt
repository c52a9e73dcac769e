-- The numbers of 2 to 16, looked at four at a time, whether one is rebound, and with the scheme that serves each.
use Rattle.std.proofs.Common.{ℕ, ◌+◌, ◌≤◌, Bool, false, ◌||◌, ◌≡◌, sym, ◌∙◌, ap, ap₂, List, arith}
use Rattle.std.proofs.lemmas.Grind.{common_steps}
use Rattle.words.specs.lists.Numbers.{any}
use Rattle.words.proofs.lists.Searches.{any-false, any-none, any-snoc}
use Rattle.image.specs.Decode.{scheme_count, handler_in}
use Rattle.tables.specs.Table.{table_image}
use Rattle.tables.proofs.TableReads.{entries-count, handler-at}
use Rattle.state.specs.State.{State}
use Rattle.fitness.specs.Fitness.{is_badly_served}
use Rattle.fitness.specs.inner.FitnessContracts.{is_rebound, is_served_amiss}
use Rattle.fitness.proofs.filled.FilledCases.{any-parts, any-one}

-- ---- numbers that are rebound
module _ (s : State) where
  pub rebound-of-three : (h : ℕ) → (is_rebound s h || is_rebound s (h + 1) || is_rebound s (h + 2)) ≡ any (is_rebound s) h 3
  rebound-of-three h =
      grind (arith, common_steps, any-snoc (is_rebound s) h 2, any-snoc (is_rebound s) h 1, any-one (is_rebound s) h)

-- ---- numbers that are served by a scheme that may not serve them
module _ (b : List ℕ) (s : State) where
  abbrev badly : ℕ → Bool
  badly = is_badly_served (table_image b) s

  -- a number that is not rebound is served well
  own-serves : (h : ℕ) → 2 ≤ h → is_rebound s h ≡ false → badly h ≡ false
  own-serves h l e = grind (arith, common_steps)

  pub none-misserved : (h n : ℕ) → 2 ≤ h → any (is_rebound s) h n ≡ false → any badly h n ≡ false
  none-misserved h n l e =
      any-none badly h n (λ k m. own-serves (h + k) (omega arith) (any-false (is_rebound s) h n e (h + k) (omega arith) (omega arith)))

  pub amiss-is : (h n : ℕ) → any (is_served_amiss (scheme_count b) (handler_in b) s) h n ≡ any badly h n
  amiss-is h n = ap₂ (λ (H g : ℕ). any (is_served_amiss H g s) h n) (sym (entries-count b)) (sym (handler-at b))

  -- those of 2 to 16 by fours, and the last three
  pub all-misserved : any badly 2 15 ≡ (any badly 2 4 || (any badly 6 4 || (any badly 10 4 || any badly 14 3)))
  all-misserved = grind (arith, common_steps, any-parts badly 2 4 11, any-parts badly 6 4 7, any-parts badly 10 4 3)

  -- of the last four the first is one of those before
  pub last-misserved : any badly 10 4 ≡ false → any badly 13 4 ≡ any badly 14 3
  last-misserved e =
      any-parts badly 13 1 3 ∙ ap (λ (t : Bool). t || any badly 14 3) (sym (any-one badly 13) ∙ any-false badly 10 4 e 13 (omega arith) (omega arith))

pub ruleset fours = (none-misserved, amiss-is, all-misserved, last-misserved)
