-- What is expected of runs and rebindings where the bound lies behind all words and no tick of the walk is a drop:
-- each run is made in full.
use Rattle.std.proofs.Common.{if◌then◌else◌, ℕ, zero, suc, ◌+◌, ◌≤◌, Bool, true, false, ◌≡◌, refl, sym, ◌∙◌, ap, subst, List, []}
use Rattle.std.proofs.Common.{◌∷◌, map, length, take, drop, length-append, length-take, length-drop, arith, le-ltb}
use Rattle.std.proofs.Math.ListN.{length-map}
use borrow.Author.Tests.{eqb-false}
use Rattle.std.proofs.lemmas.Grind.{common_steps}
use Rattle.words.proofs.lists.Joins.{all-map, all-of}
use Rattle.std.specs.List.{AllByRecursion}
use Rattle.bindings.specs.Binding.{Binding}
use Rattle.text.specs.frames.Answer.{Reply, success, refusal, reply_count}
use Rattle.text.proofs.frames.Lent.{front}
use Rattle.charts.specs.Chart.{Chart}
use Rattle.walk.specs.Walk.{signals, Tick, is_drop}
use Rattle.agreement.specs.Agreement.{RunInput, CallInput, to_run, to_rebind, CallOutput, by_run, by_rebinding, is_short, joined_words}
use Rattle.agreement.specs.Agreement.{binding_after, reply_to, output_refused_short, expected_output, expected_outputs}
use Rattle.agreement.proofs.Joins.{joined-short, joined-long}
use Rattle.agreement.proofs.Expected.{all-short, all-long}
use Rattle.enough.specs.Enough.{all_made, HasNoDrop, reply_of, IsDropless, AllMade}

module _ {A : Type 0} (P : A → Type 0) where
  all-take : (n : ℕ) (xs : List A) → AllByRecursion P xs → AllByRecursion P (take n xs)
  all-take n xs a = grind (arith, common_steps)

  all-drop : (n : ℕ) (xs : List A) → AllByRecursion P xs → AllByRecursion P (drop n xs)
  all-drop n xs a = grind (arith, common_steps)

length-codes : (us : List Tick) → length (map (λ (t : Tick). t.code) us) ≡ length us
length-codes [] = refl
length-codes (u ∷ us) = ap suc (length-codes us)

module _ (b : ℕ) (ts : List Tick) (long : b ≤ length ts) (quiet : AllByRecursion (λ (t : Tick). is_drop t ≡ false) ts) where
  -- ---- one run
  module _ (p : ℕ) (a : RunInput) (l : p + length a.words ≤ b) where
    reply-made : (expected_output b ts p a).reply ≡ success (length a.words)
    reply-made = grind (arith, common_steps, le-ltb)

    no-drop : HasNoDrop (reply_count (expected_output b ts p a).reply) (expected_output b ts p a).codes
    no-drop = grind (arith, common_steps, length-take, front, eqb-false, all-map, all-of, length-drop, all-take, all-drop, length-codes, reply-made)

  -- ---- one call more
  module _ (c : Chart) where
    more-made : (g : CallInput) (rest : List CallInput) (d : CallOutput) (handed : List CallOutput) → reply_of d ≡ all_made c g
        → IsDropless d
        → AllMade c rest handed → AllMade c (g ∷ rest) (d ∷ handed)
    more-made g rest d handed e q r = grind (arith, common_steps)

    pub expected-made : (given : List CallInput) (s : Binding) (p : ℕ) → p + length (joined_words c s given) ≤ b
        → AllMade c given (expected_outputs c b ts p given)
    unfolding expected_outputs joined_words
    expected-made [] s p l = record { replies = refl; drops = tt }
    expected-made (to_rebind h k ∷ rest) s p l =
        more-made (to_rebind h k) rest (by_rebinding (reply_to c h k)) _ refl tt (expected-made rest (binding_after c h k s) p l)
    expected-made (to_run a ∷ rest) s p l = go (expected-made rest s) (is_short a) refl
      where
        made : Bool → Reply
        made t = if t then refusal 16 0 0 else success (length a.words)

        go : ((q : ℕ) → q + length (joined_words c s rest) ≤ b → AllMade c rest (expected_outputs c b ts q rest)) → (t : Bool)
            → is_short a ≡ t
            → AllMade c (to_run a ∷ rest) (expected_outputs c b ts p (to_run a ∷ rest))
        go ih true e =
            let j : length (joined_words c s (to_run a ∷ rest)) ≡ length (joined_words c s rest) = ap length (joined-short c s a rest e) in
            subst (AllMade c (to_run a ∷ rest)) (sym (all-short c b ts p a rest e))
            (more-made (to_run a) rest (by_run (output_refused_short a)) _ (sym (ap made e)) tt (ih p (omega arith)))
        go ih false e =
            let n : length (signals s a.words) ≡ length a.words = length-map a.words _ in
            let j : length (joined_words c s (to_run a ∷ rest)) ≡ length (signals s a.words) + length (joined_words c s rest) =
            ap length (joined-long c s a rest e) ∙ length-append (signals s a.words) (joined_words c s rest) in
            subst (AllMade c (to_run a ∷ rest)) (sym (all-long c b ts p a rest e))
            (more-made (to_run a) rest (by_run (expected_output b ts p a)) _ (reply-made p a (omega arith) ∙ sym (ap made e))
            (no-drop p a (omega arith)) (ih (p + length a.words) (omega arith)))
