-- The answer at each return of the entry point.
use Rattle.std.proofs.Common.{ℕ, ◌*◌, ◌≤◌, Bool, true, false, ◌≡◌, sym, ◌∙◌, ap, List, arith, length, take, Option, None, Some, Err, nat_lt}
use Rattle.std.proofs.lemmas.Grind.{common_steps}
use Rattle.std.proofs.lemmas.Option.{none-some, same_Some}
use Rattle.text.specs.frames.Frame.{contents}
use Rattle.text.specs.frames.Verdict.{Verdict, refused, when}
use Rattle.text.specs.declared.frames.refusals.Refusal.{Refusal}
use Rattle.text.specs.frames.Refusal.{number_of, index_of}
use Rattle.text.specs.frames.Answer.{Answer, success, refusal, reply, verdict_reply, GivesBuffer}
use Rattle.text.proofs.frames.Chains.{next-refused, next-on}
use Rattle.charts.specs.Chart.{Chart}
use Rattle.charts.specs.Entry.{read_verdict, read_chart}
use Rattle.chart_rows.specs.Rows.{rows}
use Rattle.translator.specs.Entry.{translate_verdict}
use Rattle.translator.proofs.EntrySteps.{read-no, Read}
use Rattle.places.specs.chains.Calls.{is_circular, places}
use Rattle.places.specs.inner.Masks.{longest_chain}
use Rattle.places.specs.Entry.{places_verdict, places_needed}

-- ---- what the code's answer tells
module _ (c : Chart) {found : Option ℕ} (e : found ≡ longest_chain c) where
  longest-none : found ≡ None → is_circular c ≡ true
  longest-none z = grind (arith, common_steps, none-some)

  longest-some : {n : ℕ} → found ≡ Some n → (is_circular c ≡ false) × (n ≡ places c)
  longest-some z = grind (arith, common_steps, none-some, same_Some)

-- ---- the returns
module _ (t : List ℕ) where
  refused-by : (k i : ℕ) → places_verdict t ≡ refused k i → refusal k i 0 ≡ places_needed t
  unfolding places_needed
  refused-by k i e = sym (ap (λ (v : Verdict). verdict_reply v (places (contents t))) e)

  refused-before : (k i : ℕ) → translate_verdict t ≡ refused k i → refusal k i 0 ≡ places_needed t
  unfolding places_verdict
  refused-before k i e = refused-by k i (next-refused (translate_verdict t) (λ _. when 20 (is_circular (contents t))) k i e)

pub needed-unread : (t zeros : List ℕ) {held : List ℕ} {a : Answer} → GivesBuffer (read_chart t zeros) a held → 2560 ≤ length zeros
    → {r : Refusal} → a ≡ Err r → reply (Err r) ≡ places_needed t
unfolding translate_verdict
needed-unread t zeros told room {r} q =
    let p = read-no t zeros told room q in
    ap (refusal (number_of r) (index_of r)) p.1
    ∙ refused-before t (number_of r) (index_of r)
    (next-refused (read_verdict t) (λ _. when 10 (nat_lt 1024 (length (rows (contents t))))) (number_of r) (index_of r) p.0)

module _ {t held : List ℕ} {n : ℕ} (r : Read t held n) {b : Bool} (rows-told : b ≡ nat_lt 1024 (length (rows (take (10 * n) held)))) where
  by-rows : translate_verdict t ≡ when 10 b
  unfolding translate_verdict
  by-rows = grind (arith, common_steps)

  pub needed-wide : b ≡ true → refusal 10 0 0 ≡ places_needed t
  needed-wide q = refused-before t 10 0 (by-rows ∙ ap (when 10) q)

  module _ (few : b ≡ false) {found : Option ℕ} (is : found ≡ longest_chain (take (10 * n) held)) where
    by-calls : places_verdict t ≡ when 20 (is_circular (contents t))
    unfolding places_verdict
    by-calls = next-on (translate_verdict t) (λ _. when 20 (is_circular (contents t))) (by-rows ∙ ap (when 10) few)

    longest-is : found ≡ longest_chain (contents t)
    longest-is = is ∙ ap longest_chain r.chart

    pub needed-circle : found ≡ None → refusal 20 0 0 ≡ places_needed t
    needed-circle z = refused-by t 20 0 (by-calls ∙ ap (when 20) (longest-none (contents t) longest-is z))

    pub needed-done : {k : ℕ} → found ≡ Some k → success k ≡ places_needed t
    unfolding places_needed
    needed-done z = grind (arith, common_steps, longest-some, by-calls, longest-is)
