-- Cases of the functions that try rows by their frames.
use Rattle.std.proofs.Common.{ℕ, ◌-◌, ◌*◌, ◌^◌, ◌%◌, ◌≤◌, ◌≡◌, Bool, true, ◌||◌, List, arith, ◌==◌, pow_mono}
use lib.Count.{ones}
use Rattle.std.proofs.lemmas.Grind.{common_steps}
use Rattle.text.specs.frames.Frame.{field, pair_at}
use Rattle.image.specs.declared.layout.TheConstants.{FUNCTION_BIT, CARE, NO_BIT}
use Rattle.image.specs.Decode.{row_in_frame}
use Rattle.covering.specs.inner.CoveringContracts.{words_with}

-- ---- words_of
shifted : (c k : ℕ) → k ≡ 16 - ones c → (1 * 2 ^ k % 4294967296 ≡ 2 ^ (16 - ones c)) × (1 * 2 ^ k % 4294967296 ≤ 65536)
shifted c k e = grind (arith, pow_mono {i = k} {j = 16})

module _ (b : List ℕ) (f bit : ℕ) where
  abbrev asked : ℕ → Bool
  asked x = x == NO_BIT || x == bit

  pub words-on : (x p : ℕ) (t : Bool) → x ≡ field b f FUNCTION_BIT → t ≡ asked x → t ≡ true → p ≡ pair_at b f CARE
      → (1 * 2 ^ (16 - ones p) % 4294967296 ≡ words_with bit (row_in_frame b f)) × (1 * 2 ^ (16 - ones p) % 4294967296 ≤ 65536)
  words-on x p t e h z q = grind (arith, common_steps, shifted)
