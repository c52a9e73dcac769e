-- Prices by hand: halves go upward once for all ticks, the first price is that of bit 0, and priced runs on the images of chart P and of
-- the chart with a handler, whole, ended by 17, with a drop, and refused.
use Rattle.std.specs.Prelude.{ℕ, ◌≡◌, List, [], ◌∷◌, ◌++◌, replicate}
use Rattle.text.specs.frames.Answer.{reply_number, reply_count}
use Rattle.state.specs.State.{fresh}
use Rattle.prices.specs.Prices.{price}
use Rattle.prices.specs.priced_runs.PricedRun.{PricedOutcome, priced_run}
use Rattle.bench.specs.Bench.{image_p, bench_words}
use Rattle.bench.specs.Handler.{image_handler, drop_words}

-- a tick of bit 0 costs 50 hundredths of a cent, one of bit 1 costs 49, and the highest bit 100
abbrev pub few_prices : List ℕ
few_prices = 50 ∷ 49 ∷ (replicate 29 0 ++ (100 ∷ []))

-- number, count and price
abbrev pub shown_priced : PricedOutcome → List ℕ
shown_priced r = reply_number r.run.reply ∷ reply_count r.run.reply ∷ r.price ∷ []

-- the bench sheet's words with so many places, each bit at the highest price, and room for so many masks
abbrev pub priced_p : ℕ → ℕ → List ℕ
priced_p size room = shown_priced (priced_run image_p (fresh size) (replicate 32 65535) bench_words (replicate room 0) (replicate 8 0))

pub record PriceCases : Type 0 where
  pub half : price few_prices (1 ∷ []) ≡ 1
  pub less-than-half : price few_prices (2 ∷ []) ≡ 0
  pub together : price few_prices (2 ∷ 2 ∷ []) ≡ 1
  pub once : price few_prices (1 ∷ 1 ∷ 1 ∷ []) ≡ 2
  pub highest-bit : price few_prices (2147483648 ∷ []) ≡ 1
  pub nothing : price few_prices [] ≡ 0
  -- two ticks of one bit, and one of them before 17
  pub whole : priced_p 3 8 ≡ 0 ∷ 8 ∷ 1311 ∷ []
  pub full : priced_p 2 8 ≡ 17 ∷ 3 ∷ 655 ∷ []
  pub short : priced_p 3 7 ≡ 16 ∷ 0 ∷ 0 ∷ []
  -- a drop is a tick with the caller's mask
  pub dropped : shown_priced (priced_run image_handler (fresh 2) (replicate 32 100) drop_words (replicate 10 0) (replicate 10 0))
      ≡ 0 ∷ 10 ∷ 3 ∷ []
  -- 65,536 words are priced and one more is not, whatever room there is
  pub most : shown_priced (priced_run image_p (fresh 3) few_prices (replicate 65536 0) [] []) ≡ 16 ∷ 0 ∷ 0 ∷ []
  pub many : (masks codes : List ℕ) → shown_priced (priced_run image_p (fresh 3) few_prices (replicate 65537 0) masks codes)
      ≡ 27 ∷ 0 ∷ 0 ∷ []
  -- 15 comes first
  pub unfitting : (masks codes : List ℕ)
      → shown_priced (priced_run image_p (fresh 33) few_prices (replicate 65537 0) masks codes) ≡ 15 ∷ 0 ∷ 0 ∷ []
