-- A little chart of fewer frames has the shorter text.
use Rattle.std.proofs.Common.{ℕ, ◌*◌, ◌≤◌, ◌<◌, ◌≡◌, arith, length}
use Rattle.std.proofs.lemmas.Grind.{common_steps}
use Rattle.text.specs.frames.Frame.{contents, text_of}
use Rattle.text.proofs.frames.Contents.{any-contents-length}
use Rattle.text.proofs.frames.TextLoops.{length-text}
use Rattle.little_charts.specs.Little.{little_text}
use Rattle.little_charts.specs.Promises.{little_total, Wanted, AllWanted, ShorterFirst}
use Rattle.little_charts.proofs.Listing.{all-wanted}
use Rattle.little_charts.proofs.Listing.{none-missing, in-order, each-once}
use Rattle.little_charts.proofs.little_totals.Totals.{totals}

module _ (n k : ℕ) (low : 2 ≤ n) (high : n ≤ 4) (inside : k < little_total n) where
  unfolded : AllWanted → Wanted n (little_text n k) × (text_of (contents (little_text n k)) ≡ little_text n k)
  unfolding AllWanted
  unfolded all = all n k low high inside

  pub text-long : length (little_text n k) ≡ 23 * n
  text-long = grind (arith, common_steps, all-wanted, any-contents-length, length-text, unfolded)

pub shorter-first : ShorterFirst
unfolding ShorterFirst
shorter-first m n j k low high less a b = grind (arith, common_steps, text-long)

pub ruleset little_charts_are_all_once_in_order = (all-wanted, none-missing, in-order, each-once, shorter-first, totals)
