-- Codes and ticks turn into each other with nothing lost.
use Rattle.std.proofs.Common.{◌≡◌, refl, sym, ◌∙◌, ap, ℕ, zero, suc, arith}
use Rattle.std.proofs.lemmas.Grind.{common_steps}
use Rattle.ticks.specs.declared.codes.Meaning.TheVariants.{Unknown}
use Rattle.ticks.specs.codes.Codes.{meaning_of}
use Rattle.ticks.specs.codes.CodesApart.{CodeMeans, CodesApart, DropMeans, DropApart, KindBack, Coded}

pub code-means : CodeMeans
unfolding meaning_of
code-means zero h p = grind (arith, common_steps)
code-means (suc zero) h p = grind (arith, common_steps)
code-means (suc (suc zero)) h p = grind (arith, common_steps)
code-means (suc (suc (suc zero))) h p = grind (arith, common_steps)
code-means (suc (suc (suc (suc k)))) h p = grind (arith, common_steps)

pub codes-apart : CodesApart
codes-apart k h p j g q e = sym (code-means k h p) ∙ ap meaning_of e ∙ code-means j g q

pub drop-means : DropMeans
unfolding meaning_of
drop-means = refl

pub drop-apart : DropApart
drop-apart zero h p e = omega arith
drop-apart (suc zero) h p e = omega (arith, (p (omega arith) (omega arith)).1)
drop-apart (suc (suc zero)) h p e = omega (arith, (p (omega arith) (omega arith)).1)
drop-apart (suc (suc (suc zero))) h p e = omega arith
drop-apart (suc (suc (suc (suc k)))) h p e = omega arith

pub kind-back : KindBack
kind-back zero h l = refl
kind-back (suc zero) h l = refl
kind-back (suc (suc zero)) h l = refl
kind-back (suc (suc (suc zero))) h l = refl
kind-back (suc (suc (suc (suc zero)))) h l = refl
kind-back (suc (suc (suc (suc (suc k))))) h l = absurd (omega arith)

module _ (c : ℕ) where
  pub meaning-coded : (meaning_of c ≡ Unknown → ⊥) → Coded c (meaning_of c)
  unfolding meaning_of
  meaning-coded = grind (arith, common_steps)
