-- What is written is in capitals: the character of a digit is one, so are a byte, a frame, and the text of a sound image.
use Rattle.std.proofs.Common.{ℕ, ◌/◌, ◌%◌, ◌<◌, ◌≡◌, refl, ◌∙◌, ap, ap₂, List, [], ◌∷◌, ◌++◌, map, flat_map, arith}
use Rattle.std.proofs.lemmas.List.{map-append}
use Rattle.std.proofs.lemmas.Grind.{common_steps}
use Rattle.std.specs.List.{AllByRecursion}
use Rattle.words.proofs.lists.Tests.{split}
use Rattle.words.proofs.lists.Joins.{all-places}
use Rattle.text.specs.digits.Digit.{char_of, capital}
use Rattle.text.proofs.digits.Digits.{capital-same, char-low, char-high}
use Rattle.text.specs.frames.Frame.{contents, byte_text, sum_byte, frame_text, frames_text}
use Rattle.text.proofs.frames.Frames.{Frame, sum-small}
use Rattle.image.specs.Image.{Image, image_text, image_frames}
use Rattle.image.specs.inner.Sound.{SoundImage}
use Rattle.image.proofs.Written.{image-frames}
use Rattle.walk.proofs.FactsHold.{facts}
use Rattle.translator.specs.Table.{table}
use Rattle.translator.specs.Capitals.{ImageCapitals}
use Rattle.translator.proofs.SoundTable.{table-sound}
use Rattle.translator.proofs.Translated.{translated-read, translated-few}

char-capital : (d : ℕ) → d < 16 → capital (char_of d) ≡ char_of d
char-capital d h = grind (arith, common_steps, split, capital-same, char-low, char-high)

pub byte-capitals : (b : ℕ) → b < 256 → map capital (byte_text b) ≡ byte_text b
byte-capitals b h = ap₂ (λ (x y : ℕ). x ∷ y ∷ []) (char-capital (b / 16) (omega arith)) (char-capital (b % 16) (omega arith))

bytes-capitals : (bs : List ℕ) → AllByRecursion (λ b. b < 256) bs → map capital (flat_map byte_text bs) ≡ flat_map byte_text bs
bytes-capitals [] a = refl
bytes-capitals (b ∷ bs) a = ap₂ ◌++◌ (byte-capitals b a.0) (bytes-capitals bs a.1)

pub frame-capitals : (bs : List ℕ) → Frame bs → map capital (frame_text bs) ≡ frame_text bs
unfolding frame_text
frame-capitals bs F =
    let a : AllByRecursion (λ b. b < 256) bs = all-places (λ b. b < 256) 0 bs (λ k h. F.bytes k) in
    map-append capital (flat_map byte_text bs) (byte_text (sum_byte bs) ++ (10 ∷ []))
    ∙ ap₂ ◌++◌ (bytes-capitals bs a)
    (ap₂ (λ (x y : List ℕ). x ++ y) (byte-capitals (sum_byte bs) (sum-small bs)) (ap (λ (c : ℕ). c ∷ []) (capital-same 10 (omega arith))))

frames-capitals : (fs : List (List ℕ)) → AllByRecursion Frame fs → map capital (frames_text fs) ≡ frames_text fs
frames-capitals [] a = refl
frames-capitals (f ∷ fs) a =
    map-append capital (frame_text f) (frames_text fs) ∙ ap₂ ◌++◌ (frame-capitals f a.0) (frames-capitals fs a.1)

pub image-capitals : (i : Image) → SoundImage i → map capital (image_text i) ≡ image_text i
unfolding image_text
image-capitals i S = frames-capitals (image_frames i) (image-frames i S)

pub translated-capitals : ImageCapitals
translated-capitals t ok =
    image-capitals (table (contents t)) (table-sound (contents t) (facts t (translated-read t ok)) (translated-few t ok))

pub ruleset an_image_is_in_capitals = translated-capitals
