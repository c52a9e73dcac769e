-- What the functions that tally lists of words ask and promise.
use Rattle.std.specs.Prelude.{ℕ, ◌+◌, ◌*◌, ◌-◌, ◌^◌, ◌≤◌, Bool, List, Option, None, Some, if◌then◌else◌, ◌==◌}
use Rattle.words.specs.lists.Numbers.{count}
use Rattle.text.specs.declared.frames.refusals.TheConstants.{FULL, NO_ROW}
use Rattle.image.specs.Image.{Image}
use Rattle.tables.specs.Table.{table_image}
use Rattle.rows.specs.Rows.{best_row, lead_of}
use Rattle.rows.specs.inner.Search.{is_found}
use Rattle.state.specs.State.{State}
use Rattle.ticks.specs.declared.Stop.{Stop}
use Rattle.ticks.specs.declared.leaving.Leaving.{Leaving}
use Rattle.ticks.specs.inner.TickContracts.{number_of}
use Rattle.fillings.specs.Counts.{count_meeting}
use Rattle.fillings.specs.declared.fill_counts.Tally.{Tally}

-- all lists of n words, from a state
abbrev pub tally_of : Image → State → ℕ → ℕ → Tally
tally_of i s n k = record { ended = count_meeting i s n k 0; full = count_meeting i s n k FULL; unmatched = count_meeting i s n k NO_ROW }

-- the number that a list meets which is stopped so, 0 for its end
abbrev pub number_met_by : Option Stop → ℕ
number_met_by None = 0
number_met_by (Some x) = number_of x

-- m lists, all of which meet one number
abbrev pub all_meet : ℕ → ℕ → Tally
all_meet number m = record {
  ended = if number == 0 then m else 0;
  full = if number == FULL then m else 0;
  unmatched = if number == NO_ROW then m else 0;
}

-- each list so often
abbrev pub tally_times : ℕ → Tally → Tally
tally_times m t = record { ended = m * t.ended; full = m * t.full; unmatched = m * t.unmatched }

abbrev pub tally_sum : Tally → Tally → Tally
tally_sum a b = record { ended = a.ended + b.ended; full = a.full + b.full; unmatched = a.unmatched + b.unmatched }

-- no more than there are lists
pub record FewLists (t : Tally) : Type 0 where
  pub ended : t.ended ≤ 65536
  pub full : t.full ≤ 65536
  pub unmatched : t.unmatched ≤ 65536

-- with so many lists more
pub record FewMore (t : Tally) (m : ℕ) : Type 0 where
  pub ended : t.ended + m ≤ 65536
  pub full : t.full + m ≤ 65536
  pub unmatched : t.unmatched + m ≤ 65536

-- ---- the last words of lists, by the label whose row their ticks take: by the word w it takes one
abbrev pub is_taking : List ℕ → Leaving → ℕ → Bool
is_taking b x w = is_found (lead_of (best_row x.label w x.bit 0 (table_image b).rows))

-- all words of k conditions
abbrev pub last_tally : List ℕ → Leaving → ℕ → Tally
last_tally b x k = let n = count (is_taking b x) 0 (2 ^ k) in record { ended = n; full = 0; unmatched = 2 ^ k - n }
