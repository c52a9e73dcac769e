-- What holds of every text that is made smaller: what is written has the fewest labels and is accepted, and given back it is written again.
use Rattle.std.proofs.Common.{ℕ, ◌/◌, ◌≤◌, false, ◌≡◌, ◌∙◌, ap, List, arith, length, map, take}
use Rattle.words.specs.lists.Sequences.{over}
use Rattle.text.specs.digits.Digit.{capital}
use Rattle.text.specs.frames.Frame.{contents}
use Rattle.text.specs.frames.Verdict.{fine}
use Rattle.text.specs.frames.Answer.{success}
use Rattle.text.proofs.frames.Lent.{lent-told, lent-fits, front}
use Rattle.image.specs.Image.{Image, image_text}
use Rattle.image.specs.Decode.{decoded_image}
use Rattle.image.specs.Check.{image_verdict}
use Rattle.image.specs.inner.Sound.{SoundImage}
use Rattle.image.proofs.Accepted.{image-sound}
use Rattle.translator.proofs.Capitals.{image-capitals}
use Rattle.covering.specs.Matched.{is_uneven}
use Rattle.grouping.specs.Rule.{Grouping, Meets, groups}
use Rattle.minimising.specs.group_numbers.Smaller.{smaller_image}
use Rattle.minimising.specs.Entry.{minimise_verdict, minimise}
use Rattle.joined_again.proofs.Shorter.{fewest-labels, never-longer, minimise-shorter}
use Rattle.joined_again.proofs.Again.{smaller-even, smaller-again, smaller-passes, smaller-sound, smaller-decoded, AllowedImage, minimise-allowed}
use Rattle.std.proofs.lemmas.Grind.{common_steps}

module _ (t : List ℕ) (ok : minimise_verdict t ≡ fine) where
  abbrev image : Image
  image = decoded_image (contents t)

  allowed : AllowedImage t
  allowed = minimise-allowed t ok

  sound : SoundImage (decoded_image (contents t))
  sound = image-sound t allowed.accepted

  pub text-labels : (g : Grouping) → Meets image g → length (smaller_image image).labels ≤ groups g (length image.labels)
  text-labels = fewest-labels image sound allowed.even

  pub text-passes : image_verdict (image_text (smaller_image image)) ≡ fine
  text-passes = smaller-passes image sound allowed.even

  pub text-even : is_uneven (smaller_image image) ≡ false
  text-even = smaller-even image sound allowed.even

  pub text-same : smaller_image (smaller_image image) ≡ smaller_image image
  text-same = smaller-again image sound allowed.even

  pub text-capitals : map capital (image_text (smaller_image image)) ≡ image_text (smaller_image image)
  text-capitals = image-capitals (smaller_image image) (smaller-sound image sound allowed.even)

-- ---- given back
text-again : (i : Image) (S : SoundImage i) (even : is_uneven i ≡ false) (old : List ℕ) → length (image_text (smaller_image i)) ≤ length old
    → minimise (image_text (smaller_image i)) old ≡ record {
      reply = success (length (image_text (smaller_image i)) / 1);
      buffer = over (image_text (smaller_image i)) old;
    }
unfolding minimise minimise_verdict
text-again i S even old h = grind (arith, common_steps, smaller-passes, lent-fits, smaller-again, smaller-even, smaller-decoded)

pub minimise-again : (t old : List ℕ) (n : ℕ) → (minimise t old).reply ≡ success n → (again : List ℕ) → n ≤ length again
    → let u = take n (minimise t old).buffer in minimise u again ≡ record { reply = success n; buffer = over u again }
unfolding minimise
minimise-again t old n e again h =
    let x : List ℕ = image_text (smaller_image (decoded_image (contents t))) in
    let s = lent-told (minimise_verdict t) 1 (λ _. image_text (smaller_image (decoded_image (contents t)))) old n e in
    let a : AllowedImage t = minimise-allowed t s.accepted in
    let m : n ≡ length x = omega (arith, s.count) in
    let u : take n (minimise t old).buffer ≡ x = ap (take n) s.buffer ∙ front n x old m in
    let q : length x / 1 ≡ n = omega arith in
    grind (arith, u, q, text-again (decoded_image (contents t)) (image-sound t a.accepted) a.even again (omega arith))

pub ruleset joined_again_is_itself = (text-passes, text-even, text-same, text-capitals, minimise-again)

pub ruleset joined_image_is_smallest = (text-labels, never-longer, minimise-shorter)
