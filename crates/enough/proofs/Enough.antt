-- With as many places as a chart needs, no call gets 17 or makes a drop: over the functions, and for C.
use Rattle.std.proofs.Common.{ℕ, ◌≤◌, ◌≡◌, refl, sym, ◌∙◌, ap, ap₂, subst, List, [], ◌∷◌, map, arith}
use Rattle.std.proofs.lemmas.Grind.{common_steps}
use Rattle.std.specs.List.{AllByRecursion}
use Rattle.bindings.specs.Binding.{own_binding}
use Rattle.text.specs.frames.Frame.{contents}
use Rattle.text.specs.frames.Verdict.{Verdict, fine, refused}
use Rattle.text.specs.frames.Answer.{Reply, success, reply_number, reply_count, verdict_reply}
use Rattle.text.proofs.frames.Refuses.{RefusesWith, next-refuses, when-refuses}
use Rattle.charts.specs.Chart.{Chart}
use Rattle.walk.specs.Walk.{Signal, Tick, walk}
use Rattle.places.specs.Entry.{places_verdict, places_needed}
use Rattle.places.proofs.Reported.{needed-is, needed-calm, needed-facts, needed-few}
use Rattle.agreement.specs.Agreement.{CallInput, CallOutput, by_run, by_rebinding, joined_words, bound, walk_outputs}
use Rattle.agreement.specs.Calls.{Delivered}
use Rattle.agreement.specs.ForC.{CallOutputC, call_output_c, DeliveredC}
use Rattle.agreement.proofs.Bounds.{bound-le}
use Rattle.agreement.proofs.Delivered.{delivered}
use Rattle.agreement.proofs.ForC.{delivered-c}
use Rattle.agreement.proofs.Numbers.{Positive, translate-positive}
use Rattle.enough.specs.Enough.{OwnServed, all_made, reply_of, IsDropless, AllMade, Enough, number_of_c, count_of_c, IsDroplessC, AllMadeC}
use Rattle.enough.specs.Enough.{EnoughC}
use Rattle.enough.proofs.CalmWalk.{calm-walk}
use Rattle.enough.proofs.Made.{expected-made}

-- ---- what the agreement expects is then a tick for every word
module _ (text : List ℕ) (k : ℕ) (needed : places_needed text ≡ success k) (size : ℕ) (l : k ≤ size) where
  pub all-expected : (given : List CallInput) → OwnServed (contents text) given
      → AllMade (contents text) given (walk_outputs size (contents text) given)
  all-expected given own =
      let c : Chart = contents text in
      let ws : List Signal = joined_words c own_binding given in
      let ts : List Tick = walk size c ws in
      let q = calm-walk c (needed-facts text k needed) (needed-calm text k needed) size (omega (arith, needed-is text k needed)) ws own in
      expected-made (bound size ts) ts (bound-le size ts) q.1 c given own_binding 0 (omega (arith, q.0))

  some-place : 1 ≤ size
  some-place = omega (arith, needed-few text k needed)

pub enough : Enough
unfolding Enough Delivered
enough text before after answer lends n done told e k needed size l most made m given own handed calls =
    let known : places_needed text ≡ success k = sym e ∙ needed in
    subst (AllMade (contents text) given)
    (sym (delivered text before after answer lends n done size (some-place text k known size l) most made m given handed calls))
    (all-expected text k known size l given own)

-- ---- for C
-- success is told by the number 0
judged-0 : (v : Verdict) → RefusesWith Positive v → (n : ℕ) → reply_number (verdict_reply v n) ≡ 0
    → verdict_reply v n ≡ success (reply_count (verdict_reply v n))
judged-0 fine p n e = refl
judged-0 (refused k i) p n e = absurd (omega (arith, p))

needed-0 : (text : List ℕ) → reply_number (places_needed text) ≡ 0 → places_needed text ≡ success (reply_count (places_needed text))
unfolding places_needed places_verdict
needed-0 text e = grind (arith, common_steps, when-refuses, next-refuses, translate-positive, judged-0)

module _ (c : Chart) where
  made-c : (given : List CallInput) (handed : List CallOutput) → AllMade c given handed → AllMadeC c given (map call_output_c handed)
  made-c given handed a = record {
    numbers = by reply_number number_of_c handed-number handed ∙ ap (map reply_number) a.replies ∙ through reply_number given;
    counts = by reply_count count_of_c handed-count handed ∙ ap (map reply_count) a.replies ∙ through reply_count given;
    drops = quiet handed a.drops;
  }
    where
      handed-number : (d : CallOutput) → number_of_c (call_output_c d) ≡ reply_number (reply_of d)
      handed-number (by_run t) = refl
      handed-number (by_rebinding r) = refl

      handed-count : (d : CallOutput) → count_of_c (call_output_c d) ≡ reply_count (reply_of d)
      handed-count (by_run t) = refl
      handed-count (by_rebinding r) = refl

      by : (f : Reply → ℕ) (g : CallOutputC → ℕ) → ((d : CallOutput) → g (call_output_c d) ≡ f (reply_of d)) → (ds : List CallOutput)
          → map g (map call_output_c ds) ≡ map f (map reply_of ds)
      by f g h [] = refl
      by f g h (d ∷ ds) = ap₂ (λ (x : ℕ) (xs : List ℕ). x ∷ xs) (h d) (by f g h ds)

      through : (f : Reply → ℕ) (rest : List CallInput) → map f (map (all_made c) rest) ≡ map (λ g. f (all_made c g)) rest
      through f [] = refl
      through f (g ∷ rest) = ap (λ (xs : List ℕ). f (all_made c g) ∷ xs) (through f rest)

      quiet : (ds : List CallOutput) → AllByRecursion IsDropless ds → AllByRecursion IsDroplessC (map call_output_c ds)
      quiet [] a = tt
      quiet (by_run t ∷ ds) a = (a.0, quiet ds a.1)
      quiet (by_rebinding r ∷ ds) a = (tt, quiet ds a.1)

pub enough-c : EnoughC
unfolding EnoughC DeliveredC
enough-c text before after at n lends at' k told size l most returned at'' made s m given own handed calls =
    let known : places_needed text ≡ success k = needed-0 text (sym told.number-is) ∙ ap success (sym told.count-is) in
    subst (AllMadeC (contents text) given)
    (sym (delivered-c text before after at n lends size (some-place text k known size l) most returned at'' made s m given handed
    calls))
    (made-c (contents text) given _ (all-expected text k known size l given own))

pub ruleset enough_places_never_fill = (enough, enough-c)
