-- Dry runs of chart P by hand: B2 to B4 from the chart's text, and what refuses the text, the image's room, the size, and the room for
-- codes, each before the next.
use Rattle.std.specs.Prelude.{ℕ, ◌≡◌, List, [], ◌∷◌, ◌++◌, replicate}
use Rattle.text.specs.frames.Answer.{Reply, success, refusal}
use Rattle.dry_runs.specs.DryRun.{DryRunOutcome, dry_run}
use Rattle.bench.specs.Bench.{chart_p, image_p, bench_words}

-- the bench sheet's words on so many places, with room for so many characters and codes
abbrev pub dry_p : ℕ → ℕ → ℕ → DryRunOutcome
dry_p size room codes = dry_run chart_p size (replicate room 0) bench_words (replicate 8 0) (replicate codes 0)

-- refused with no tick, over these buffers
abbrev pub unrun : Reply → List ℕ → ℕ → DryRunOutcome
unrun reply image codes = record { reply = reply; image = image; masks = replicate 8 0; codes = replicate codes 0 }

pub record DryRunCases : Type 0 where
  pub b2 : dry_p 3 276 8 ≡ record {
    reply = success 8;
    image = image_p;
    masks = 0 ∷ 1 ∷ 0 ∷ 2 ∷ 0 ∷ 0 ∷ 0 ∷ 0 ∷ [];
    codes = 4 ∷ 18 ∷ 0 ∷ 18 ∷ 0 ∷ 3 ∷ 3 ∷ 4 ∷ [];
  }
  pub b3 : dry_p 2 276 8 ≡ record {
    reply = refusal 17 0 3;
    image = image_p;
    masks = 0 ∷ 1 ∷ 0 ∷ replicate 5 0;
    codes = 4 ∷ 18 ∷ 0 ∷ replicate 5 0;
  }
  pub b4 : dry_p 1 276 8 ≡ record {
    reply = refusal 17 0 1;
    image = image_p;
    masks = replicate 8 0;
    codes = 4 ∷ replicate 7 0;
  }
  -- what stands behind the image stays
  pub behind : dry_p 0 278 8 ≡ unrun (refusal 14 0 0) (image_p ++ (0 ∷ 0 ∷ [])) 8
  pub no-text : (image words masks codes : List ℕ)
      → dry_run [] 0 image words masks codes ≡ record { reply = refusal 1 0 0; image = image; masks = masks; codes = codes }
  pub small-image : dry_p 0 275 7 ≡ unrun (refusal 16 0 0) (replicate 275 0) 7
  pub no-places : dry_p 0 276 7 ≡ unrun (refusal 14 0 0) image_p 7
  pub many-places : dry_p 33 276 7 ≡ unrun (refusal 14 0 0) image_p 7
  pub few-codes : dry_p 1 276 7 ≡ unrun (refusal 16 0 0) image_p 7
