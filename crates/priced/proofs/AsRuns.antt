-- A priced run as a run, which is one of no words where 27 refuses it; and what it hands back, by what that run does.
use Rattle.std.proofs.Common.{if◌then◌else◌, cond, ℕ, ◌+◌, ◌-◌, ◌≤◌, min, Bool, true, false, ◌≡◌, refl, sym, ap, subst, List, [], inl, inr}
use Rattle.std.proofs.Common.{◌∷◌, map, arith, length, take, length-drop, length-take-le, le-ltb}
use Rattle.std.proofs.Math.ListN.{length-map}
use Rattle.std.proofs.lemmas.Grind.{common_steps}
use Rattle.words.proofs.lists.Tests.{no_both, or-none, and-no, cases}
use Rattle.bindings.specs.Binding.{Binding}
use Rattle.text.specs.frames.Answer.{reply_number, reply_count}
use Rattle.text.proofs.frames.Lent.{front}
use Rattle.charts.specs.Chart.{Chart}
use Rattle.walk.specs.Walk.{Signal, Tick}
use Rattle.prices.specs.Prices.{price}
use Rattle.prices.specs.priced_runs.PricedRun.{has_too_many_words}
use Rattle.prices.proofs.priced_runs.Pricing.{no-price}
use Rattle.agreement.specs.Agreement.{RunInput, CallInput, to_run, to_rebind, CallOutput, by_run, by_rebinding, is_short, expected_output}
use Rattle.agreement.specs.Agreement.{output_refused_short, reply_to}
use Rattle.agreement.proofs.Expected.{all-short, all-long}
use Rattle.priced.specs.Demand.{PricedInput, unpriced, to_priced_run, PricedOutput, by_unpriced, by_priced_run, joined_priced_words}
use Rattle.priced.specs.Demand.{ticks_falling_on, output_refused_many, expected_priced_outputs}
use Rattle.agreement.specs.Agreement as agreed

abbrev pub no_words : RunInput → RunInput
no_words a = record { words = []; masks = a.masks; codes = a.codes }

abbrev pub as_run : PricedInput → CallInput
as_run (unpriced g) = g
as_run (to_priced_run list a) = to_run (if has_too_many_words a.words then no_words a else a)

abbrev pub with_price : PricedInput → CallOutput → PricedOutput
with_price (unpriced g) d = by_unpriced d
with_price (to_priced_run list a) (by_rebinding r) = by_unpriced (by_rebinding r)
with_price (to_priced_run list a) (by_run t) =
    if has_too_many_words a.words then by_priced_run (output_refused_many a) 0
    else by_priced_run t (price list (take (reply_count t.reply) t.masks))

unfoldable pub with_prices : List PricedInput → List CallOutput → List PricedOutput
with_prices [] ds = []
with_prices (g ∷ gs) [] = []
with_prices (g ∷ gs) (d ∷ ds) = with_price g d ∷ with_prices gs ds

-- where 27 refuses a priced run, the run of no words succeeds
abbrev pub Succeeds : PricedInput → CallOutput → Type 0
Succeeds (unpriced g) d = Unit {0}
Succeeds (to_priced_run list a) (by_rebinding r) = Unit {0}
Succeeds (to_priced_run list a) (by_run t) = has_too_many_words a.words ≡ true → reply_number t.reply ≡ 0

abbrev pub AllSucceed : List PricedInput → List CallOutput → Type 0
AllSucceed [] ds = Unit {0}
AllSucceed (g ∷ gs) [] = Unit {0}
AllSucceed (g ∷ gs) (d ∷ ds) = Succeeds g d × AllSucceed gs ds

no-words-short : (a : RunInput) → is_short (no_words a) ≡ false
no-words-short a = grind (arith, common_steps, or-none, le-ltb)

-- how many ticks a run is expected to count
pub expected-count : (b : ℕ) (ts : List Tick) (p : ℕ) (a : RunInput)
    → reply_count (expected_output b ts p a).reply ≡ min (p + length a.words) b - min p b
expected-count b ts p a = grind (arith, common_steps)

module _ (c : Chart) where
  -- ---- the joined words
  none-joined : (t : Bool) → cond {A = List Signal} t [] [] ≡ []
  none-joined true = refl
  none-joined false = refl

  pub joined-as : (given : List PricedInput) (s : Binding) → joined_priced_words c s given ≡ agreed.joined_words c s (map as_run given)
  unfolding joined_priced_words agreed.joined_words
  joined-as [] s = grind (arith, common_steps)
  joined-as (unpriced (to_run a) ∷ rest) s = grind (arith, common_steps, joined-as rest s)
  joined-as (unpriced (to_rebind h k) ∷ rest) s = grind (arith, common_steps, joined-as rest)
  joined-as (to_priced_run list a ∷ rest) s = grind (arith, common_steps, joined-as rest s, none-joined)

  -- ---- what is expected
  module _ (b : ℕ) (ts : List Tick) (low : b ≤ length ts) where
    abbrev masks_of : List Tick → List ℕ
    masks_of = map (λ (t : Tick). t.mask)

    -- as many ticks fall on the words as the answer counts
    counted : (p : ℕ) (a : RunInput) → reply_count (expected_output b ts p a).reply ≡ length (masks_of (ticks_falling_on b ts p a.words))
    counted p a = grind (arith, common_steps, length-take-le, length-drop, length-map, expected-count)

    -- so the price of the masks written is that of these ticks
    price-of : (list : List ℕ) (p : ℕ) (a : RunInput) → let t = expected_output b ts p a in
        price list (masks_of (ticks_falling_on b ts p a.words)) ≡ price list (take (reply_count t.reply) t.masks)
    price-of list p a = grind (arith, common_steps, front, counted)

    module _ (p : ℕ) (a : RunInput) (rest : List PricedInput) where
      run-short : is_short a ≡ true → expected_priced_outputs c b ts p (unpriced (to_run a) ∷ rest) ≡ by_unpriced
          (by_run (output_refused_short a)) ∷ expected_priced_outputs c b ts p rest
      unfolding expected_priced_outputs
      run-short e = rw (e, expected_priced_outputs)

      run-long : is_short a ≡ false
          → expected_priced_outputs c b ts p (unpriced (to_run a) ∷ rest) ≡ by_unpriced
          (by_run (expected_output b ts p a)) ∷ expected_priced_outputs c b ts (p + length a.words) rest
      unfolding expected_priced_outputs
      run-long e = rw (e, expected_priced_outputs)

    module _ (p : ℕ) (list : List ℕ) (a : RunInput) (rest : List PricedInput) where
      pub all-many : has_too_many_words a.words ≡ true
          → expected_priced_outputs c b ts p (to_priced_run list a ∷ rest)
          ≡ by_priced_run (output_refused_many a) 0 ∷ expected_priced_outputs c b ts p rest
      unfolding expected_priced_outputs
      all-many e = rw (e, expected_priced_outputs)

      pub all-refused : has_too_many_words a.words ≡ false → is_short a ≡ true
          → expected_priced_outputs c b ts p (to_priced_run list a ∷ rest) ≡ by_priced_run
          (output_refused_short a) 0 ∷ expected_priced_outputs c b ts p rest
      unfolding expected_priced_outputs
      all-refused e f = rw (e, f, expected_priced_outputs)

      pub all-priced : has_too_many_words a.words ≡ false → is_short a ≡ false
          → expected_priced_outputs c b ts p (to_priced_run list a ∷ rest)
          ≡ by_priced_run (expected_output b ts p a) (price list (masks_of (ticks_falling_on b ts p a.words))) ∷ expected_priced_outputs
          c b ts (p + length a.words) rest
      unfolding expected_priced_outputs
      all-priced e f = rw (e, f, expected_priced_outputs)

    abbrev plain : ℕ → List PricedInput → List CallOutput
    plain p given = agreed.expected_outputs c b ts p (map as_run given)

    abbrev As : ℕ → List PricedInput → Type 0
    As p given = expected_priced_outputs c b ts p given ≡ with_prices given (plain p given)

    module _ (p : ℕ) (a : RunInput) (rest : List PricedInput) (here : As p rest) (on : As (p + length a.words) rest) where
      as-run : As p (unpriced (to_run a) ∷ rest)
      unfolding with_prices
      as-run = grind (arith, common_steps, cases (is_short a), all-short, all-long, run-short, run-long)

      module _ (list : List ℕ) where
        abbrev as_runs : Bool → List CallOutput
        as_runs x = agreed.expected_outputs c b ts p (to_run (if x then no_words a else a) ∷ map as_run rest)

        -- a told run, with the price of its masks
        abbrev billed : agreed.RunOutput → PricedOutput
        billed t = by_priced_run t (price list (take (reply_count t.reply) t.masks))

        -- what is due where 27 refuses, or not
        abbrev either : Bool → agreed.RunOutput → List CallOutput → List PricedOutput
        either x t l = (if x then by_priced_run (output_refused_many a) 0 else billed t) ∷ with_prices rest l

        as-many : has_too_many_words a.words ≡ true → As p (to_priced_run list a ∷ rest)
        unfolding with_prices
        as-many e = grind (arith, common_steps, all-long, no-words-short, all-many)

        few-is : has_too_many_words a.words ≡ false → (t : agreed.RunOutput) (l : List CallOutput)
            → with_prices (to_priced_run list a ∷ rest) (by_run t ∷ l) ≡ billed t ∷ with_prices rest l
        unfolding with_prices
        few-is e t l = ap (λ (x : Bool). either x t l) e

        few-plain : has_too_many_words a.words ≡ false
            → plain p (to_priced_run list a ∷ rest) ≡ agreed.expected_outputs c b ts p (to_run a ∷ map as_run rest)
        few-plain e = ap as_runs e

        as-few : has_too_many_words a.words ≡ false → As p (to_priced_run list a ∷ rest)
        as-few e =
            grind (arith, common_steps, cases (is_short a), no-price, price-of, all-short, all-refused, all-long, all-priced, few-is, few-plain)

        as-priced : As p (to_priced_run list a ∷ rest)
        as-priced = elim (cases (has_too_many_words a.words)) [ inl e ↦ as-many e | inr e ↦ as-few e ]

    pub expected-as : (given : List PricedInput) (p : ℕ) → As p given
    unfolding expected_priced_outputs agreed.expected_outputs with_prices
    expected-as [] p = refl
    expected-as (unpriced (to_run a) ∷ rest) p = as-run p a rest (expected-as rest p) (expected-as rest (p + length a.words))
    expected-as (unpriced (to_rebind h k) ∷ rest) p =
        ap (λ (l : List PricedOutput). by_unpriced (by_rebinding (reply_to c h k)) ∷ l) (expected-as rest p)
    expected-as (to_priced_run list a ∷ rest) p = as-priced p a rest (expected-as rest p) (expected-as rest (p + length a.words)) list

    -- ---- a run of no words is expected to succeed
    none-stopped : (p : ℕ) (a : RunInput) → reply_number (expected_output b ts p (no_words a)).reply ≡ 0
    none-stopped p a = grind (arith, common_steps, and-no)

    abbrev Fine : ℕ → List PricedInput → Type 0
    Fine p given = AllSucceed given (plain p given)

    module _ (p : ℕ) (a : RunInput) (rest : List PricedInput) (here : (q : ℕ) → Fine q rest) where
      run-fine : Fine p (unpriced (to_run a) ∷ rest)
      run-fine = grind (arith, common_steps, cases (is_short a), all-short, all-long, here p, here (p + length a.words))

      module _ (list : List ℕ) where
        abbrev FineAs : Bool → Type 0
        FineAs t =
            AllSucceed (to_priced_run list a ∷ rest)
            (agreed.expected_outputs c b ts p (to_run (if t then no_words a else a) ∷ map as_run rest))

        few-fine : has_too_many_words a.words ≡ false → FineAs false
        few-fine e = grind (arith, common_steps, cases (is_short a), no_both, all-short, all-long, here p, here (p + length a.words))

        priced-fine : (t : Bool) → has_too_many_words a.words ≡ t → FineAs t
        priced-fine true e =
            subst (AllSucceed (to_priced_run list a ∷ rest)) (sym (all-long c b ts p (no_words a) (map as_run rest) (no-words-short a)))
            (λ q. none-stopped p a, here (p + 0))
        priced-fine false e = few-fine e

    pub expected-fine : (given : List PricedInput) (p : ℕ) → Fine p given
    unfolding agreed.expected_outputs
    expected-fine [] p = tt
    expected-fine (unpriced (to_run a) ∷ rest) p = run-fine p a rest (expected-fine rest)
    expected-fine (unpriced (to_rebind h k) ∷ rest) p = (tt, expected-fine rest p)
    expected-fine (to_priced_run list a ∷ rest) p = priced-fine p a rest (expected-fine rest) list (has_too_many_words a.words) refl
