-- The pass over the nodes for refusal 4 with the counts of 5.
use Rattle.std.proofs.Common.{◌≡◌, true, false, List, ℕ, ◌+◌, ◌≤◌, ◌<◌, max, arith, replicate}
use Rattle.std.proofs.lemmas.Grind.{common_steps}
use Rattle.words.specs.lists.Numbers.{lowest, highest}
use Rattle.words.proofs.lists.Searches.{Searching, searching-first, searching-found, searching-next, searching-over, highest-next}
use Rattle.text.specs.frames.Frame.{size}
use Rattle.charts.specs.Chart.{Chart, scheme, schemes}
use Rattle.charts.specs.Check.{has_bad_field}
use Rattle.chart_check.specs.inner.Counts.{counts_to}
use Rattle.chart_check.specs.inner.FieldContracts.{NodeAsked}
use Rattle.text.specs.frames.Answer.{success, refusal, verdict_reply}
use Rattle.text.specs.frames.Verdict.{at_lowest}
use Rattle.text.proofs.frames.Chains.{lowest-refused, lowest-fine, judged-refused, judged-fine}
use Rattle.charts.proofs.Nodes.{field-scheme}
use Rattle.chart_check.proofs.chart_counts.SchemeCounts.{counts-start}

-- the nodes below v have good fields and are counted
pub record CountingNodes (c : Chart) (n v h : ℕ) (bs es : List ℕ) : Type 0 where
  pub search : Searching (has_bad_field c) n v (lowest (has_bad_field c) 0 n)
  pub all : n ≡ size c
  pub highest : h ≡ highest (scheme c) 0 v
  pub low : h ≤ 16
  pub begins : bs ≡ counts_to c 0 v
  pub ends : es ≡ counts_to c 1 v

-- all nodes passed
pub record CountsTold (c : Chart) (h : ℕ) (bs es : List ℕ) : Type 0 where
  pub told : success h ≡ verdict_reply (at_lowest 4 (has_bad_field c) (size c)) (schemes c)
  pub low : h ≤ 16
  pub begins : bs ≡ counts_to c 0 (size c)
  pub ends : es ≡ counts_to c 1 (size c)

pub counting-none : (c : Chart) (n : ℕ) (bs es : List ℕ) → n ≡ size c → bs ≡ replicate 17 0
    → es ≡ replicate 17 0 → CountingNodes c n 0 0 bs es
unfolding highest
counting-none c n bs es e p q = grind (arith, common_steps, searching-first, counts-start)

-- a node with good fields may be counted
pub node-asked : (c : Chart) (v k : ℕ) (counts : List ℕ) → counts ≡ counts_to c k v → v < size c → size c ≤ 256 → has_bad_field c v ≡ false
    → NodeAsked c v k counts
node-asked c v k counts e l few good =
    record { few = omega arith; whole = omega arith; low = (field-scheme c v good).1; counted = e }

module _ (c : Chart) (n v h : ℕ) (bs es : List ℕ) (d : CountingNodes c n v h bs es) where
  pub counting-turn : (h' s : ℕ) (bs' es' : List ℕ) → v < n → has_bad_field c v ≡ false → s ≡ scheme c v → h' ≡ max h s
      → bs' ≡ counts_to c 0 (v + 1) → es' ≡ counts_to c 1 (v + 1) → CountingNodes c n (v + 1) h' bs' es'
  counting-turn h' s bs' es' l good is e p q = record {
    search = searching-next (has_bad_field c) n v _ d.search l good;
    all = d.all;
    highest = omega (arith, highest-next (scheme c) v, d.highest);
    low = omega (arith, d.low, (field-scheme c v good).1);
    begins = p;
    ends = q;
  }

  pub counting-stop : (m : ℕ) → v < n → has_bad_field c v ≡ true → refusal 4 v 0 ≡ verdict_reply (at_lowest 4 (has_bad_field c) (size c)) m
  counting-stop m l bad = grind (arith, common_steps, searching-found, lowest-refused, judged-refused)

  pub counting-all : n ≤ v → v ≤ n → CountsTold c h bs es
  counting-all l z = grind (arith, common_steps, searching-over, lowest-fine, judged-fine)
