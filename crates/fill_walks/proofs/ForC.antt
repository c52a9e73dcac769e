-- What a caller learns by the contract of fairleadow_count_fillings where it returns 0: the three counts written are all lists; and on the
-- image that the translator wrote none meets 18, and those that meet 17 are the ones whose walk goes too deep.
use Rattle.std.proofs.Common.{ℕ, ◌+◌, ◌≡◌, sym, ◌∙◌, List, arith}
use Rattle.std.proofs.lemmas.Grind.{common_steps}
use Rattle.text.specs.frames.Answer.{success}
use Rattle.fillings.specs.Counts.{lists, count_fillings}
use Rattle.fillings.specs.Promises.{SumsUp}
use Rattle.fillings.proofs.Sums.{sums-up}
use Rattle.fairleadow.specs.FillingsForC.{GivesFillingsC}
use Rattle.agreement.proofs.Numbers.{counts-success}
use Rattle.fill_walks.specs.Promises.{ByTheWalk}
use Rattle.fill_walks.specs.ForC.{ByTheWalkC}
use Rattle.fill_walks.proofs.Deep.{always-counted, by-the-walk}

module _ (t : List ℕ) (size n k r at made e f u : ℕ) (c : GivesFillingsC (count_fillings t size n k) r at made e f u) (z : r ≡ 0) where
  fine-reply : (count_fillings t size n k).reply ≡ success 0
  fine-reply = counts-success t size n k (sym c.told.number-is ∙ z)

  pub sums-up-c : e + f + u ≡ lists n k
  unfolding SumsUp
  sums-up-c = (λ j. c.ended j + c.full j + c.unmatched j) ∙ sums-up t size n k fine-reply

pub by-the-walk-c : ByTheWalkC
unfolding ByTheWalk
by-the-walk-c text out m translated size n k r at made e f u c z = grind (arith, common_steps, by-the-walk, fine-reply)

pub ruleset stacks_fill_where_walks_go_too_deep = (always-counted, by-the-walk, sums-up-c)
