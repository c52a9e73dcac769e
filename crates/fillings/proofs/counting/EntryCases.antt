-- The answers of the entry point to the counts, by what its parts give.
use Rattle.std.proofs.Common.{ℕ, ◌*◌, ◌≤◌, Bool, true, false, ◌||◌, ◌≡◌, refl, ◌∙◌, ap, ap₂, List, arith, ltb-false, Ok, Err, nat_lt}
use Rattle.std.proofs.lemmas.Grind.{common_steps}
use Rattle.words.proofs.lists.Tests.{or-l}
use Rattle.text.specs.frames.Frame.{contents}
use Rattle.text.specs.frames.Verdict.{Verdict, fine, refused, next, when}
use Rattle.text.specs.frames.Answer.{refusal, reply, verdict_reply}
use Rattle.text.specs.declared.frames.refusals.Refusal.{Refusal}
use Rattle.text.specs.declared.frames.refusals.Refusal.TheVariants.{BadSize, ManyLists}
use Rattle.text.specs.frames.Refusal.{number_of, index_of, ticks_of}
use Rattle.text.proofs.frames.Chains.{next-refused, next-on, err-refused}
use Rattle.image.specs.Image.{Image}
use Rattle.image.specs.Decode.{decoded_image}
use Rattle.image.specs.Check.{image_verdict}
use Rattle.tables.specs.Table.{table_image}
use Rattle.state.specs.declared.State.{State as Kept}
use Rattle.state.specs.State.{fresh, is_bad_size, fresh_state}
use Rattle.state.specs.Kept.{view, stored}
use Rattle.state.proofs.Stored.{state-back}
use Rattle.fillings.specs.Counts.{has_too_many_lists, count_verdict, count_fillings}
use Rattle.fillings.specs.declared.fill_counts.Tally.{Tally}
use Rattle.fillings.specs.inner.TallyContracts.{tally_of}
use Rattle.fillings.specs.CountingContracts.{GivesFillings}

-- ---- 28
pub many-not : (n k : ℕ) → has_too_many_lists n k ≡ false → n * k ≤ 16
many-not n k e = ltb-false 16 (n * k) (or-l (nat_lt 16 (n * k)) (nat_lt 16 k) (or-l (nat_lt 16 (n * k) || nat_lt 16 k) (nat_lt 65536 n) e))

-- ---- the fresh state
pub fresh-made : (size : ℕ) → is_bad_size size ≡ false → (s : Kept) → s ≡ stored (fresh_state size).state → view s ≡ fresh size
unfolding fresh_state
fresh-made size e s q = grind (arith, common_steps, state-back)

-- ---- the answers
module _ (t : List ℕ) (size n k : ℕ) where
  abbrev image : Image
  image = decoded_image (contents t)

  abbrev sizes : Verdict
  sizes = next (when 14 (is_bad_size size)) λ _. when 28 (has_too_many_lists n k)

  -- a refusal r; nothing is counted
  refused-tells : (r : Refusal) → count_verdict t size n k ≡ refused (number_of r) (index_of r) → ticks_of r ≡ 0
      → GivesFillings (count_fillings t size n k) (Err r)
  unfolding count_fillings
  refused-tells r v z = rw v (record { answered = ap (refusal (number_of r) (index_of r)) z; ended = refl; full = refl; unmatched = refl })

  pub image-tells : (r : Refusal) → reply (Err r) ≡ verdict_reply (image_verdict t) 0 → GivesFillings (count_fillings t size n k) (Err r)
  unfolding count_verdict
  image-tells r gives = grind (arith, common_steps, next-refused, err-refused, refused-tells)

  module _ (ok : image_verdict t ≡ fine) where
    verdict-on : count_verdict t size n k ≡ sizes
    unfolding count_verdict
    verdict-on = next-on (image_verdict t) (λ _. sizes) ok

    pub size-tells : is_bad_size size ≡ true → GivesFillings (count_fillings t size n k) (Err BadSize)
    size-tells z =
        refused-tells BadSize (verdict-on ∙ ap (λ (x : Bool). next (when 14 x) λ _. when 28 (has_too_many_lists n k)) z) refl

    module _ (good : is_bad_size size ≡ false) where
      verdict-last : (x : Bool) → has_too_many_lists n k ≡ x → count_verdict t size n k ≡ when 28 x
      verdict-last x e = verdict-on ∙ ap₂ (λ (y z : Bool). next (when 14 y) λ _. when 28 z) good e

      pub many-tells : has_too_many_lists n k ≡ true → GivesFillings (count_fillings t size n k) (Err ManyLists)
      many-tells z = refused-tells ManyLists (verdict-last true z) refl

      pub all-tell : (b : List ℕ) → table_image b ≡ image → has_too_many_lists n k ≡ false
          → (r : Tally) → r ≡ tally_of (table_image b) (fresh size) n k → GivesFillings (count_fillings t size n k) (Ok r)
      unfolding count_fillings
      all-tell b h z r e =
          let is : r ≡ tally_of image (fresh size) n k = e ∙ ap (λ (i : Image). tally_of i (fresh size) n k) h in
          rw (verdict-last false z)
          (record {
            answered = refl;
            ended = ap (λ (x : Tally). x.ended) is;
            full = ap (λ (x : Tally). x.full) is;
            unmatched = ap (λ (x : Tally). x.unmatched) is;
          })
