-- The answers of a priced run, by what its parts give.
use Rattle.std.proofs.Common.{ℕ, ◌≤◌, ◌<◌, Bool, ◌≡◌, List, [], arith, length, take, length-take}
use Rattle.std.proofs.Common.{Ok, Err}
use Rattle.std.proofs.lemmas.Grind.{common_steps}
use Rattle.text.specs.frames.Frame.{contents}
use Rattle.text.specs.frames.Verdict.{Verdict, refused, next, when}
use Rattle.text.specs.frames.Answer.{Answer, reply_number, reply, verdict_reply, reply_count}
use Rattle.text.specs.declared.frames.refusals.Refusal.{Refusal}
use Rattle.text.specs.declared.frames.refusals.Refusal.TheVariants.{ManyWords}
use Rattle.image.specs.Decode.{decoded_image}
use Rattle.image.specs.Check.{image_verdict}
use Rattle.image.proofs.Refuses.{early-image}
use Rattle.state.specs.State.{State}
use Rattle.state.specs.declared.State.{State as Kept}
use Rattle.state.specs.Kept.{view}
use Rattle.fitness.specs.Fitness.{is_unfit}
use Rattle.runs.specs.Run.{MachineRun, ticks, RunOutcome, run_verdict, run_on, run}
use Rattle.runs.specs.InPlace.{GivesRunOn}
use Rattle.runs.specs.inner.Sources.{sourced_run}
use Rattle.runs.proofs.RunCases.{kept_run}
use Rattle.runs.proofs.RunCounts.{run-count}
use Rattle.runs.proofs.machine.Held.{run-held}
use Rattle.runs.proofs.machine.Sourced.{text-run}
use Rattle.prices.specs.Prices.{price}
use Rattle.prices.specs.priced_runs.PricedRun.{priced_verdict, many_verdict, PricedOutcome, price_on}
use Rattle.prices.specs.priced_runs.PricedRun.{priced_run}
use Rattle.prices.specs.priced_runs.InPlace.{state_priced, GivesPricedRunOn}
use Rattle.prices.proofs.priced_runs.Pricing.{does-all, by-the-masks}

-- ---- more words than are priced
-- what is tried before 27
abbrev tried : Verdict → Bool → Verdict
tried v b = next v λ _. when 15 b

module _ (t : List ℕ) (s : State) (ms ks : List ℕ) where
  abbrev no_ticks : Verdict → RunOutcome
  no_ticks v = run_on v (λ _. ticks (decoded_image (contents t)) s []) s ms ks

  -- a run of no words is refused by what is tried before 27
  none-is : run t s [] ms ks ≡ no_ticks (tried (image_verdict t) (is_unfit (decoded_image (contents t)) s))
  unfolding run run_verdict
  none-is = grind (arith, common_steps)

  none-answer : (run t s [] ms ks).reply ≡ verdict_reply (tried (image_verdict t) (is_unfit (decoded_image (contents t)) s)) 0
  unfolding ticks
  none-answer = grind (arith, common_steps, none-is)

  -- and leaves the state
  pub none-state : (run t s [] ms ks).state ≡ s
  unfolding ticks
  none-state = grind (arith, common_steps, none-is)

  -- where it is not refused, more words get 27
  many-27 : reply_number (run t s [] ms ks).reply ≡ 0 → many_verdict t s ≡ refused 27 0
  unfolding many_verdict
  many-27 e = grind (arith, common_steps, early-image, none-answer)

  module _ {a : Answer} (gives : reply a ≡ (sourced_run (image_verdict t) (decoded_image (contents t)) s [] ms ks).reply) where
    pub many-before : {r : Refusal} → a ≡ Err r → reply (Err r) ≡ verdict_reply (many_verdict t s) 0
    unfolding many_verdict
    many-before e = grind (arith, common_steps, text-run, none-answer)

    pub many-itself : {n : ℕ} → a ≡ Ok n → reply (Err ManyWords) ≡ verdict_reply (many_verdict t s) 0
    unfolding many_verdict
    many-itself e = grind (arith, common_steps, text-run, none-answer)

-- ---- a run's ticks are counted: so many masks are written, and no more than words
module _ (t : List ℕ) {before : Kept} (ws ms ks : List ℕ) {a : Answer} {after : Kept} {us vs : List ℕ}
    (runs : GivesRunOn (sourced_run (image_verdict t) (decoded_image (contents t)) (view before) ws ms ks) before a after us vs)
    {n : ℕ} (counts : n ≡ reply_count (reply a)) where
  pub counted-inside : n ≤ length us
  counted-inside = grind (arith, common_steps, text-run, run-count)

  pub counted-few : length ws ≤ 65536 → length (take n us) ≤ 65536
  counted-few few = grind (arith, common_steps, text-run, run-count, length-take)

-- ---- a priced run in place
module _ (t : List ℕ) (before : Kept) (prices ws ms ks : List ℕ) where
  abbrev s₀ : State
  s₀ = view before

  abbrev whole : PricedOutcome
  whole = priced_run t s₀ prices ws ms ks

  abbrev ran : MachineRun
  ran = ticks (decoded_image (contents t)) s₀ ws

  -- what a verdict makes of it
  abbrev priced_outcome_by : Verdict → PricedOutcome
  priced_outcome_by v = record { run = run_on v (λ _. ran) s₀ ms ks; price = price_on prices v (λ _. ran) }

  module _ (more : 65536 < length ws) where
    many-is : whole ≡ priced_outcome_by (many_verdict t s₀)
    unfolding priced_run priced_verdict many_verdict
    many-is = grind (arith, common_steps)

    pub many-priced : {a : Answer} → reply a ≡ verdict_reply (many_verdict t s₀) 0
        → GivesPricedRunOn whole ws before a 0 before ms ks
    unfolding state_priced many_verdict
    many-priced e = grind (arith, common_steps, many-is)

    many-state : whole.run.state ≡ s₀
    unfolding many_verdict
    many-state = grind (arith, common_steps, many-is)

  pub run-priced : length ws ≤ 65536 → {a : Answer} {after : Kept} {us vs : List ℕ}
      → GivesRunOn (sourced_run (image_verdict t) (decoded_image (contents t)) s₀ ws ms ks) before a after us vs
      → {n : ℕ} → n ≡ reply_count (reply a) → {p : ℕ} → p ≡ price prices (take n us) → GivesPricedRunOn whole ws before a p after us vs
  unfolding state_priced
  run-priced few runs counts e = grind (arith, common_steps, text-run, by-the-masks, does-all)

  -- the struct that it leaves stands for the state that it hands back
  pub priced-held : view (state_priced ws before whole.run) ≡ whole.run.state
  unfolding state_priced priced_run
  priced-held =
      let ran-held = run-held before (decoded_image (contents t)) ws ms ks (priced_verdict t s₀ ws ms ks) in
      grind (arith, common_steps, many-state, ran-held)

-- ---- more words than are priced, where a run of none succeeds
pub many-refused : (t : List ℕ) (s : State) (prices ws ms ks : List ℕ) → 65536 < length ws → reply_number (run t s [] ms ks).reply ≡ 0
    → priced_run t s prices ws ms ks ≡ record { run = kept_run 27 0 s ms ks; price = 0 }
unfolding priced_run priced_verdict many_verdict
many-refused t s prices ws ms ks more e = grind (arith, common_steps, many-27)
