-- What the answers mean, by chains of calls from scheme 1.
use Rattle.std.specs.Prelude.{ℕ, ◌≤◌, ◌≡◌, List}
use Rattle.text.specs.declared.frames.sizes.TheConstants.{SCHEMES}
use Rattle.text.specs.declared.frames.refusals.TheConstants.{CALLS_ITSELF}
use Rattle.text.specs.frames.Frame.{contents}
use Rattle.text.specs.frames.Verdict.{fine}
use Rattle.text.specs.frames.Answer.{success, refusal}
use Rattle.translator.specs.Entry.{translate_verdict}
use Rattle.places.specs.chains.Chains.{Circle, Longest}
use Rattle.places.specs.Entry.{places_needed}

-- success tells the number of schemes of the longest chain; 20 tells of a circle, and of each where nothing else refuses
pub record Reported (text : List ℕ) : Type 0 where
  pub longest : (n : ℕ) → places_needed text ≡ success n → Longest (contents text) n
  pub few : (n : ℕ) → places_needed text ≡ success n → (1 ≤ n) × (n ≤ SCHEMES)
  pub circle : places_needed text ≡ refusal CALLS_ITSELF 0 0 → Circle (contents text)
  pub refused : translate_verdict text ≡ fine → Circle (contents text) → places_needed text ≡ refusal CALLS_ITSELF 0 0

abbrev pub AlwaysReported : Type 0
AlwaysReported = (text : List ℕ) → Reported text
