-- Success is the longest chain, and 20 is given exactly where a circle of calls can be reached.
use Rattle.std.proofs.Common.{ℕ, ◌≤◌, Bool, true, false, ◌≡◌, sym, subst, List, arith}
use Rattle.std.proofs.lemmas.Grind.{common_steps}
use Rattle.text.specs.frames.Frame.{contents}
use Rattle.text.specs.frames.Verdict.{Verdict, fine, next, when}
use Rattle.text.specs.frames.Answer.{success, refusal, verdict_reply}
use Rattle.text.proofs.frames.Chains.{next-on}
use Rattle.text.proofs.frames.Refuses.{RefusesWith}
use Rattle.text.proofs.frames.Verdicts.{next-first, next-rest, when-fine}
use Rattle.charts.specs.Chart.{Chart}
use Rattle.walk.proofs.Facts.{Facts}
use Rattle.walk.proofs.FactsHold.{facts}
use Rattle.translator.specs.Entry.{translate_verdict}
use Rattle.translator.proofs.Refuses.{OfChart, translate-refuses}
use Rattle.translator.proofs.Translated.{translated-read}
use Rattle.places.specs.chains.Calls.{is_circular, places}
use Rattle.places.specs.chains.Chains.{Circle, Longest}
use Rattle.places.proofs.chains.Longest.{chain-some, chain-few, no-longer, as-long}
use Rattle.places.proofs.chains.Circles.{circle-told, circle-refused}
use Rattle.places.specs.Entry.{places_verdict, places_needed}
use Rattle.places.specs.Reported.{Reported}
use Rattle.std.proofs.lemmas.Bool.Decides.{nat_tests}

judged-done : (v : Verdict) (m n : ℕ) → verdict_reply v m ≡ success n → (v ≡ fine) × (n ≡ m)
judged-done v m n e = grind (arith, nat_tests)

module _ (text : List ℕ) where
  -- ---- success
  module _ (n : ℕ) (done : places_needed text ≡ success n) where
    verdict-fine : (places_verdict text ≡ fine) × (n ≡ places (contents text))
    unfolding places_needed
    verdict-fine = judged-done (places_verdict text) (places (contents text)) n done

    pub needed-is : n ≡ places (contents text)
    needed-is = verdict-fine.1

    pub needed-translates : translate_verdict text ≡ fine
    unfolding places_verdict
    needed-translates = next-first (translate_verdict text) (λ _. when 20 (is_circular (contents text))) verdict-fine.0

    pub needed-calm : is_circular (contents text) ≡ false
    unfolding places_verdict
    needed-calm = grind (arith, when-fine, next-rest, verdict-fine)

    pub needed-facts : Facts (contents text)
    needed-facts = facts text (translated-read text needed-translates)

    pub needed-longest : Longest (contents text) n
    needed-longest =
        let c : Chart = contents text in
        let r = as-long c needed-facts needed-calm in
        subst (Longest c) (sym needed-is) (record { end = r.end; chain = r.chain; most = no-longer c needed-facts needed-calm })

    pub needed-few : (1 ≤ n) × (n ≤ 16)
    needed-few = grind (arith, common_steps, chain-few, chain-some, needed-calm, needed-facts, needed-longest)

  -- ---- 20
  circle-by : (v : Verdict) → RefusesWith OfChart v → (b : Bool) (m : ℕ) → verdict_reply (next v λ _. when 20 b) m ≡ refusal 20 0 0
      → b ≡ true
  circle-by v p b m e = grind (arith, nat_tests)

  needed-circle : places_needed text ≡ refusal 20 0 0 → Circle (contents text)
  unfolding places_needed places_verdict
  needed-circle e = grind (arith, translate-refuses, circle-told, circle-by)

  needed-refused : translate_verdict text ≡ fine → Circle (contents text) → places_needed text ≡ refusal 20 0 0
  unfolding places_needed places_verdict
  needed-refused ok k = grind (arith, common_steps, circle-refused, translated-read, next-on, facts)

  pub reported : Reported text
  reported = record { longest = needed-longest; few = needed-few; circle = needed-circle; refused = needed-refused }
