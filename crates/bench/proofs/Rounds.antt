-- Runs from a fresh state on the image of a chart, for every list of words: B6 and B10.
use Rattle.std.proofs.Common.{◌≡◌, refl, ◌∙◌, ap, ap₂, Bool, true, false, List, [], ◌∷◌, ◌++◌, map, append-nil, ℕ, zero, suc, ◌%◌, slice_index}
use Rattle.std.proofs.Common.{◌≤◌, arith, le-ltb, length, replicate, drop_of_length-le}
use borrow.Author.Tests.{lt-leb}
use lib.Bits.{and_zero_r}
use Rattle.std.proofs.Math.ListN.{length-replicate, length-map}
use Rattle.words.specs.lists.Numbers.{range}
use Rattle.words.specs.lists.Sequences.{over}
use Rattle.words.proofs.lists.Ranges.{length-map-range}
use Rattle.results.specs.Results.{no_results}
use Rattle.bindings.specs.Binding.{own_binding}
use Rattle.text.specs.frames.Frame.{contents}
use Rattle.text.specs.frames.Verdict.{fine}
use Rattle.text.specs.frames.Answer.{success}
use Rattle.walk.specs.Walk.{Signal, OpenScheme, one_tick, spent, course_after, scheme_course, is_dropping, ticks_after_course, walk_from}
use Rattle.walk.specs.Walk.{walk}
use Rattle.image.specs.Image.{Image}
use Rattle.image.proofs.Accepted.{image-sound}
use Rattle.state.specs.State.{State, fresh}
use Rattle.ticks.specs.Tick.{finished, pushed_tick, tick}
use Rattle.rows.specs.Rows.{best_row}
use Rattle.runs.specs.Run.{RunOutcome, MachineRun, ticks, has_no_room, run_on}
use Rattle.fitness.proofs.Fitness.{fits}
use Rattle.ticks.proofs.Keeps.{fresh-fits}
use Rattle.agreement.proofs.Images.{run-image}
use Rattle.agreement.proofs.Chain.{fresh-is}
use Rattle.bench.specs.Bench.{chart_home, fresh_run, tick_of, beside, repeated_list}
use Rattle.bench.proofs.Computing.{walking}
use Rattle.bench.proofs.Tables.{Holds, held, TranslatesTo, image_home, table_home, of-home, image_function, table_function, of-function}
use Rattle.std.proofs.lemmas.Grind.{common_steps}

-- ---- a run from a fresh state is what its ticks on the table make
abbrev pub blank : List ℕ → List ℕ
blank ws = replicate (length ws) 0

room : (ws : List ℕ) → has_no_room ws (blank ws) (blank ws) ≡ false
room ws = simp (length-replicate, le-ltb (length ws) (length ws) (omega arith))

pub image-run : {image : List ℕ} {i : Image} → Holds image i → (size : ℕ) → 1 ≤ size → size ≤ 32 → (ws : List ℕ)
    → fresh_run image size ws ≡ run_on fine (λ _. ticks i (fresh size) ws) (fresh size) (blank ws) (blank ws)
image-run {image} {i} known size l h ws = grind (arith, common_steps, image-sound, fresh-is, fresh-fits, fits, run-image, room)

pub fresh-run : {chart image : List ℕ} {i : Image} → TranslatesTo chart image i → (size : ℕ) → 1 ≤ size → size ≤ 32 → (ws : List ℕ)
    → fresh_run image size ws ≡ run_on fine (λ _. ticks i (fresh size) ws) (fresh size) (blank ws) (blank ws)
fresh-run known = image-run (held known)

-- all of the buffer is written
full : (xs ws : List ℕ) → length xs ≡ length ws → over xs (blank ws) ≡ xs
full xs ws e = rw (drop_of_length-le (blank ws) {i = length xs} (simp length-replicate (omega arith)), append-nil)

-- one tick for each word, and none refused
finished-run : (r : MachineRun) (s : State) (ws : List ℕ) → r.verdict ≡ fine → length r.masks ≡ length ws → length r.codes ≡ length ws
    → run_on fine (λ _. r) s (blank ws)
    (blank ws) ≡ record { reply = success (length ws); state = r.state; masks = r.masks; codes = r.codes }
finished-run r s ws v m k = rw (full r.masks ws m, full r.codes ws k, v, k)

-- the reply, the codes and the masks of runs that are alike
pub parts : {a b : RunOutcome} → a ≡ b → (a.reply ≡ b.reply) × (a.codes ≡ b.codes) × (a.masks ≡ b.masks)
parts e = (ap (λ (r : RunOutcome). r.reply) e, ap (λ (r : RunOutcome). r.codes) e, ap (λ (r : RunOutcome). r.masks) e)

-- ---- B6
-- scheme 1 at home
abbrev first : OpenScheme
first = record { node = 1; number = 1; opened = 1 }

home-course : (d : ℕ → Bool) (ws : List Signal)
    → scheme_course (length ws) (contents chart_home) d first ws no_results ≡ spent (map (λ w. tick_of 1 1 0 4 1) ws)
unfolding walking chart_home
home-course d [] = refl
home-course d (w ∷ ws) = ap (course_after (one_tick first 0 4)) (home-course d ws)

pub home-walk : (n : ℕ) (ws : List Signal) → walk n (contents chart_home) ws ≡ map (λ w. tick_of 1 1 0 4 1) ws
unfolding walking chart_home
home-walk n [] = refl
home-walk n (w ∷ ws) =
    let c = contents chart_home in ap (ticks_after_course (walk_from (length ws) n c) c) (home-course (is_dropping n c false) (w ∷ ws))

home-ticks : (size : ℕ) (ws : List ℕ)
    → ticks table_home (fresh size) ws ≡ record { masks = map (λ w. 0) ws; codes = map (λ w. 4) ws; state = fresh size; verdict = fine }
unfolding ticks tick table_home
home-ticks size [] = grind (arith, common_steps)
home-ticks size (w ∷ ws) = grind (arith, common_steps, home-ticks size ws)

pub home-run : (size : ℕ) → 1 ≤ size → size ≤ 32 → (ws : List ℕ) → fresh_run image_home size ws ≡ record {
  reply = success (length ws);
  state = fresh size;
  masks = map (λ w. 0) ws;
  codes = map (λ w. 4) ws;
}
home-run size l h ws =
    fresh-run of-home size l h ws
    ∙ ap (λ (r : MachineRun). run_on fine (λ _. r) (fresh size) (blank ws) (blank ws)) (home-ticks size ws)
    ∙ finished-run (record { masks = map (λ w. 0) ws; codes = map (λ w. 4) ws; state = fresh size; verdict = fine }) (fresh size) ws refl
    (length-map ws _) (length-map ws _)

-- ---- B10
-- a repetition of five goes on as it began
again : (f : ℕ → ℕ) → ((k : ℕ) → f (suc (suc (suc (suc (suc k))))) ≡ f k)
    → (i n : ℕ) → map f (range (suc (suc (suc (suc (suc i))))) n) ≡ map f (range i n)
again f e i zero = refl
again f e i (suc n) = ap₂ (λ (x : ℕ) (xs : List ℕ). x ∷ xs) (e i) (again f e (suc i) n)

turn : (k : ℕ) → suc (suc (suc (suc (suc k)))) % 5 ≡ k % 5
turn k = omega arith

repeats : (a b c d e n : ℕ) → let xs = a ∷ b ∷ c ∷ d ∷ e ∷ [] in repeated_list xs (suc (suc (suc (suc (suc n))))) ≡ xs ++ repeated_list xs n
repeats a b c d e n = let xs : List ℕ = a ∷ b ∷ c ∷ d ∷ e ∷ [] in
    ap (λ (ys : List ℕ). xs ++ ys) (again (λ k. slice_index xs (k % 5)) (λ k. ap (λ (j : ℕ). slice_index xs j) (turn k)) 0 n)

abbrev codes5 : List ℕ
codes5 = 4 ∷ 66 ∷ 0 ∷ 3 ∷ 0 ∷ []

abbrev masks5 : List ℕ
masks5 = 0 ∷ 0 ∷ 0 ∷ 0 ∷ 1 ∷ []

-- a state with at most two places in use, by its size, its depth, the two labels and the result of number 2
abbrev pub two_places : ℕ → ℕ → ℕ → ℕ → Bool → State
two_places size d l above x = record {
  size = size;
  depth = d;
  places = l ∷ above ∷ replicate 30 0;
  bits = false ∷ x ∷ replicate 14 false;
  serving = own_binding;
  numbers = beside d (1 ∷ 2 ∷ []);
  servers = beside d (1 ∷ 2 ∷ []);
}

-- the five states that come again
module _ (size : ℕ) (two : 2 ≤ size) where
  home-tick : (x : Bool) (w : ℕ) → tick table_function (two_places size 1 0 0 x) w ≡ finished 0 4 (two_places size 1 2 0 x)
  unfolding tick table_function
  home-tick x w = refl

  call-tick : (x : Bool) (w : ℕ) → tick table_function (two_places size 1 2 0 x) w ≡ finished 0 66 (two_places size 2 2 4 false)
  unfolding tick table_function
  call-tick x w =
      ap (pushed_tick table_function (two_places size 1 2 0 x) 0 66 2 2 (two_places size 1 2 0 x).bits) (lt-leb size 1 (omega arith))

  operation-tick : (w : ℕ) → tick table_function (two_places size 2 2 4 false) w ≡ finished 0 0 (two_places size 2 2 1 true)
  unfolding tick best_row table_function
  operation-tick w = rw (and_zero_r)

  return-tick : (w : ℕ) → tick table_function (two_places size 2 2 1 true) w ≡ finished 0 3 (two_places size 1 3 0 true)
  unfolding tick best_row table_function
  return-tick w = rw (and_zero_r)

  mask-tick : (w : ℕ) → tick table_function (two_places size 1 3 0 true) w ≡ finished 1 0 (two_places size 1 0 0 true)
  unfolding tick best_row table_function
  mask-tick w = rw (and_zero_r)

  -- these ticks are made for the words, and none is refused
  record Makes (s : State) (ws ms ks : List ℕ) : Type 0 where
    masks : (ticks table_function s ws).masks ≡ ms
    codes : (ticks table_function s ws).codes ≡ ks
    verdict : (ticks table_function s ws).verdict ≡ fine

  none : (s : State) → Makes s [] [] []
  unfolding ticks
  none s = record { masks = refl; codes = refl; verdict = refl }

  more : {s t : State} {w m k : ℕ} {ws ms ks : List ℕ} → tick table_function s w ≡ finished m k t → Makes t ws ms ks
      → Makes s (w ∷ ws) (m ∷ ms) (k ∷ ks)
  unfolding ticks
  more {s} {t} {w} {m} {k} {ws} e r = grind (arith, common_steps)

  rounds : (x : Bool) (ws : List ℕ) → Makes (two_places size 1 0 0 x) ws (repeated_list masks5 (length ws))
      (repeated_list codes5 (length ws))
  rounds x [] = none _
  rounds x (a ∷ []) = more (home-tick x a) (none _)
  rounds x (a ∷ b ∷ []) = more (home-tick x a) (more (call-tick x b) (none _))
  rounds x (a ∷ b ∷ c ∷ []) = more (home-tick x a) (more (call-tick x b) (more (operation-tick c) (none _)))
  rounds x (a ∷ b ∷ c ∷ d ∷ []) = more (home-tick x a) (more (call-tick x b) (more (operation-tick c) (more (return-tick d) (none _))))
  rounds x (a ∷ b ∷ c ∷ d ∷ e ∷ ws) = rw (repeats 0 0 0 0 1 (length ws), repeats 4 66 0 3 0 (length ws))
      (more (home-tick x a) (more (call-tick x b) (more (operation-tick c) (more (return-tick d) (more (mask-tick e) (rounds true ws))))))

pub function-run : (size : ℕ) → 2 ≤ size → size ≤ 32 → (ws : List ℕ) → let r = fresh_run image_function size ws in
    (r.reply ≡ success (length ws)) × (r.codes ≡ repeated_list codes5 (length ws)) × (r.masks ≡ repeated_list masks5 (length ws))
function-run size l h ws =
    let n : ℕ = length ws in
    let made = rounds size l false ws in
    let e = fresh-run of-function size (omega arith) h ws
    ∙ finished-run (ticks table_function (fresh size) ws) (fresh size) ws made.verdict
    (ap length made.masks ∙ length-map-range (λ k. slice_index masks5 (k % 5)) 0 n)
    (ap length made.codes ∙ length-map-range (λ k. slice_index codes5 (k % 5)) 0 n) in
    ((parts e).0, (parts e).1 ∙ made.codes, (parts e).2 ∙ made.masks)
