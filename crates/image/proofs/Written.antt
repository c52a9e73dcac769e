-- The frames of a sound image are bytes, its text passes refusals 1 to 3, and the contents of that text are known byte by byte.
use Rattle.std.proofs.Common.{ℕ, zero, suc, ◌+◌, ◌*◌, ◌<◌, ◌≡◌, refl, sym, ◌∙◌, ap, subst, List, [], ◌++◌, map, arith, length, slice_index, slice_index_or}
use Rattle.std.proofs.Common.{length-append, get_or-append-add}
use Rattle.std.proofs.Math.ListN.{length-map, get_or-append}
use Rattle.std.proofs.lemmas.Grind.{common_steps}
use Rattle.std.specs.List.{AllByRecursion}
use Rattle.words.specs.lists.Sequences.{map_from}
use Rattle.words.proofs.lists.Ranges.{get_d-map, length-map_from, get_or-map_from}
use Rattle.words.proofs.lists.Joins.{all-append, all-places}
use Rattle.text.specs.frames.Frame.{contents, field}
use Rattle.text.specs.frames.Verdict.{fine}
use Rattle.text.specs.frames.Check.{text_verdict}
use Rattle.text.proofs.frames.Frames.{Frame, frame-by}
use Rattle.text.proofs.frames.Texts.{text-fine, contents-length, contents-at}
use Rattle.image.specs.Image.{Image, header_frame, entry_frame, label_frame, row_frame, image_frames, image_text, no_row, nth_row}
use Rattle.image.specs.inner.Sound.{no_label, nth_label, SoundRow, SoundImage}

-- ---- the frames by place
module _ (i : Image) where
  abbrev es : List (List ℕ)
  es = map_from entry_frame 1 i.entries

  abbrev ls : List (List ℕ)
  ls = map_from label_frame 0 i.labels

  abbrev rs : List (List ℕ)
  rs = map row_frame i.rows

  es-count : length es ≡ length i.entries
  es-count = length-map_from entry_frame 1 i.entries

  ls-count : length ls ≡ length i.labels
  ls-count = length-map_from label_frame 0 i.labels

  rs-count : length rs ≡ length i.rows
  rs-count = length-map i.rows row_frame

  abbrev pub frame_total : ℕ
  frame_total = 1 + length i.entries + length i.labels + length i.rows

  pub frames-length : length (image_frames i) ≡ frame_total
  unfolding image_frames
  frames-length = omega (arith, length-append es (ls ++ rs), length-append ls rs, es-count, ls-count, rs-count)

  pub frame-entry : (h : ℕ) → h < length i.entries → slice_index_or (image_frames i) (suc h) [] ≡ entry_frame (suc h) (slice_index i.entries h)
  unfolding image_frames
  frame-entry h l = grind (arith, common_steps, get_or-append, get_or-map_from, es-count)

  pub frame-label : (l : ℕ) → l < length i.labels → slice_index_or (image_frames i) (suc (length i.entries + l)) [] ≡ label_frame l (nth_label i l)
  unfolding image_frames
  frame-label l h = grind (arith, common_steps, get_or-append, get_or-append-add, get_or-map_from, es-count, ls-count)

  pub frame-row : (k : ℕ) → k < length i.rows
      → slice_index_or (image_frames i) (suc (length i.entries + length i.labels + k)) [] ≡ row_frame (nth_row i k)
  unfolding image_frames
  frame-row k h =
      ap (λ (n : ℕ). slice_index_or (es ++ (ls ++ rs)) n []) (omega (arith, es-count, ls-count))
      ∙ get_or-append-add es (ls ++ rs) (length ls + k) [] ∙ get_or-append-add ls rs k []
      ∙ get_d-map row_frame i.rows k no_row [] h

-- ---- ten bytes each

handler-small : (i : Image) → SoundImage i → i.handler < 256
handler-small i S = grind (arith, common_steps)

label-small : (i : Image) → SoundImage i → (l : ℕ) → l < length i.labels → AllByRecursion (λ x. x < 256) (label_frame l (nth_label i l))
label-small i S zero h = grind (arith, common_steps)
label-small i S (suc zero) h = grind (arith, common_steps)
label-small i S (suc (suc l)) h = grind (arith, common_steps)

module _ (i : Image) (S : SoundImage i) where
  entry-frames : AllByRecursion Frame (es i)
  entry-frames = all-places Frame [] (es i) (λ h l.
      let m : h < length i.entries = omega (arith, es-count i) in
      subst Frame (sym (get_or-map_from entry_frame 1 i.entries 0 [] h m))
      (frame-by (entry_frame (1 + h) (slice_index i.entries h)) refl (omega (arith, (S.starts h m).inside, S.most, S.last))))

  label-frames : AllByRecursion Frame (ls i)
  label-frames = all-places Frame [] (ls i) (λ l h.
      let m : l < length i.labels = omega (arith, ls-count i) in
      let e : slice_index_or (ls i) l [] ≡ label_frame l (nth_label i l) =
      get_or-map_from label_frame 0 i.labels no_label [] l m ∙ ap (λ (x : ℕ). label_frame x (nth_label i l)) (omega arith) in
      subst Frame (sym e) (frame-by (label_frame l (nth_label i l)) refl (label-small i S l m)))

  row-frames : AllByRecursion Frame (rs i)
  row-frames = all-places Frame [] (rs i) (λ k h.
      let m : k < length i.rows = omega (arith, rs-count i) in
      let R : SoundRow i (nth_row i k) = S.each k m in
      subst Frame (sym (get_d-map row_frame i.rows k no_row [] m))
      (frame-by (row_frame (nth_row i k)) refl (omega (arith, R.leading.inside, S.last))))

  pub image-frames : AllByRecursion Frame (image_frames i)
  unfolding image_frames
  image-frames = grind (arith, common_steps, frame-by, all-append, handler-small, entry-frames, label-frames, row-frames)

  pub image-text-fine : text_verdict 29831 (image_text i) ≡ fine
  unfolding image_text
  image-text-fine = grind (arith, common_steps, text-fine, frames-length, image-frames)

-- ---- b is the contents of the image's text, byte by byte
pub record Reads (i : Image) (b : List ℕ) : Type 0 where
  pub count : length b ≡ 10 * (1 + length i.entries + length i.labels + length i.rows)
  pub head : (k : ℕ) → k < 10 → field b 0 k ≡ slice_index (header_frame i) k
  pub entry : (h k : ℕ) → h < length i.entries → k < 10 → field b (suc h) k ≡ slice_index (entry_frame (suc h) (slice_index i.entries h)) k
  pub label : (l k : ℕ) → l < length i.labels → k < 10
      → field b (suc (length i.entries + l)) k ≡ slice_index (label_frame l (nth_label i l)) k
  pub row : (j k : ℕ) → j < length i.rows → k < 10
      → field b (suc (length i.entries + length i.labels + j)) k ≡ slice_index (row_frame (nth_row i j)) k

pub image-reads : (i : Image) → SoundImage i → Reads i (contents (image_text i))
unfolding image_text
image-reads i S =
    let fs : List (List ℕ) = image_frames i in
    let F : AllByRecursion Frame fs = image-frames i S in
    let n : length fs ≡ frame_total i = frames-length i in
    let at : (f k : ℕ) (bs : List ℕ) → f < length fs → k < 10 → slice_index_or fs f [] ≡ bs → field (contents (image_text i)) f k ≡ slice_index bs k =
    λ f k bs h l e. contents-at fs F f k h l ∙ ap (λ (bs : List ℕ). slice_index bs k) e in
    record {
      count = contents-length fs F ∙ ap (λ (m : ℕ). 10 * m) n;
      head = λ k l. at 0 k (header_frame i) (omega arith) l (unfold image_frames in refl);
      entry = λ h k m l. at (suc h) k (entry_frame (suc h) (slice_index i.entries h)) (omega arith) l (frame-entry i h m);
      label = λ h k m l. at (suc (length i.entries + h)) k (label_frame h (nth_label i h)) (omega arith) l (frame-label i h m);
      row = λ j k m l. at (suc (length i.entries + length i.labels + j)) k (row_frame (nth_row i j)) (omega arith) l (frame-row i j m);
    }
