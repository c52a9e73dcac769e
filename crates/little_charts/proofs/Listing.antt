-- The little charts are just the wanted ones, none missing, each once, and their texts increase.
use Rattle.std.proofs.Common.{ℕ, zero, suc, ◌+◌, ◌*◌, ◌≤◌, ◌<◌, true, false, not, ◌≡◌, refl, sym, ◌∙◌, ap, subst, List, [], ◌∷◌, map, arith}
use Rattle.std.proofs.Common.{slice_index, slice_index_or}
use Rattle.std.proofs.Common.{length}
use Rattle.std.proofs.Math.Decide.{dec_lt}
use Rattle.std.proofs.lemmas.Grind.{common_steps}
use Rattle.words.specs.lists.Numbers.{range, any}
use Rattle.words.proofs.lists.Tests.{no_both, not-true, not-false}
use Rattle.words.proofs.lists.Searches.{any-false, any-none}
use Rattle.words.proofs.lists.Ranges.{length-map-range, map-count}
use Rattle.words.proofs.lists.Joins.{all-at, all-of, all-map, all-concat, all-filter, all-range}
use Rattle.std.specs.List.{AllByRecursion}
use Rattle.text.specs.frames.Frame.{contents, size, field, ten_bytes_at, frames_text, frame_text, text_of}
use Rattle.text.specs.frames.Verdict.{Verdict, fine, refused}
use Rattle.text.specs.frames.Check.{text_verdict}
use Rattle.text.proofs.frames.Frames.{Frame, frame-length}
use Rattle.text.proofs.frames.Texts.{text-count, text-fine, text-contents, contents-length, contents-at}
use Rattle.text.proofs.frames.Contents.{text-back, any-contents-length, ten-frames, text_of-contents}
use Rattle.charts.specs.Chart.{Chart}
use Rattle.charts.specs.Check.{chart_verdict}
use Rattle.charts.specs.Entry.{read_verdict}
use Rattle.charts.proofs.Accepted.{Accepted, accepted, accepted-bytes, read-text}
use Rattle.text.proofs.frames.Verdicts.{next-rest}
use Rattle.little_charts.specs.Little.{is_little_node, nodes, lists_of, chart_of, is_fine, little_charts, little_text}
use Rattle.little_charts.specs.Promises.{is_before, little_total, Wanted, AllWanted, NumberedText, NoneMissing, InOrder, EachOnce}
use Rattle.little_charts.proofs.Members.{In, here, in-map, in-concat, in-filter, in-all, all-in, Place, in-place}
use Rattle.little_charts.proofs.Order.{before-self, Ascends, ascends-at, ascends-filter, ascends-as, ascends-map, lists-up}
use Rattle.little_charts.proofs.Nodes.{Fine, NodesFine, nodes-fine, record-in}
use Rattle.std.proofs.lemmas.Bool.Decides.{nat_tests}

-- what the text of a chart tells of its frames
ruleset of_text = (contents-length, text-count, text-fine)

-- ---- lists of m records
pub record MadeOf (rs : List (List ℕ)) (m : ℕ) (fs : List (List ℕ)) : Type 0 where
  pub each : AllByRecursion (λ r. In r rs) fs
  pub count : length fs ≡ m

made-more : (rs : List (List ℕ)) (m : ℕ) (r : List ℕ) (fs : List (List ℕ)) → In r rs → MadeOf rs m fs → MadeOf rs (suc m) (r ∷ fs)
made-more rs m r fs i d = record { each = (i, d.each); count = ap suc d.count }

pub lists-made : (rs : List (List ℕ)) (m : ℕ) → AllByRecursion (MadeOf rs m) (lists_of rs m)
unfolding lists_of
lists-made rs zero = grind (arith, common_steps, nat_tests)
lists-made rs (suc m) = grind (arith, common_steps, nat_tests, lists-made rs m, all-map, all-of, all-concat, all-in, made-more)

made-listed : (rs fs : List (List ℕ)) → AllByRecursion (λ r. In r rs) fs → In fs (lists_of rs (length fs))
unfolding lists_of
made-listed rs [] a = grind (arith, common_steps, here)
made-listed rs (r ∷ fs) a = grind (arith, common_steps, made-listed rs fs a.1, in-map (λ gs. r ∷ gs) fs, in-concat)

-- ---- the text of a list of records
module _ (fs : List (List ℕ)) (F : AllByRecursion Frame fs) where
  pub chart-contents : contents (frames_text fs) ≡ chart_of fs
  chart-contents = text-contents fs F

  pub chart-ten : (v : ℕ) → v < length fs → ten_bytes_at (chart_of fs) v ≡ slice_index_or fs v []
  chart-ten v l =
      let r : List ℕ = slice_index_or fs v [] in
      let f : Frame r = all-at Frame [] fs F v l in
      ap (λ (c : Chart). ten_bytes_at c v) (sym chart-contents)
      ∙ map-count (field (contents (frames_text fs)) v) 0 r 0 10 (sym f.ten)
      (λ k m. ap (field (contents (frames_text fs)) v) (omega arith) ∙ contents-at fs F v k l (omega (arith, f.ten)))

  pub chart-size : size (chart_of fs) ≡ length fs
  chart-size = ap size (sym chart-contents) ∙ omega (arith, contents-length fs F)

  pub chart-text : text_of (chart_of fs) ≡ frames_text fs
  unfolding text_of
  chart-text = ap frames_text (map-count (ten_bytes_at (chart_of fs)) [] fs 0 (size (chart_of fs)) chart-size
      (λ v l. ap (ten_bytes_at (chart_of fs)) (omega arith) ∙ chart-ten v l))

-- the records of a chart, joined
whole : (c : Chart) → ((k : ℕ) → slice_index c k < 256) → length c ≡ 10 * size c → chart_of (map (ten_bytes_at c) (range 0 (size c))) ≡ c
unfolding text_of
whole c bytes e =
    sym (text-contents (map (ten_bytes_at c) (range 0 (size c))) (ten-frames c bytes)) ∙ text_of-contents c bytes (omega arith)

pub passes-fine : (v : Verdict) → is_fine v ≡ true → v ≡ fine
passes-fine fine e = refl
passes-fine (refused k i) e = no_both false e refl

module _ (n : ℕ) (a : 2 ≤ n) (b : n ≤ 4) where
  fine-nodes : NodesFine n
  fine-nodes = nodes-fine n a b

  pub made-fine : (fs : List (List ℕ)) → MadeOf (nodes n) n fs → AllByRecursion Fine fs
  made-fine fs d = all-of (λ r. In r (nodes n)) Fine (λ r i. in-all Fine r (nodes n) i fine-nodes.each) fs d.each

  pub made-frames : (fs : List (List ℕ)) → MadeOf (nodes n) n fs → AllByRecursion Frame fs
  made-frames fs d = all-of Fine Frame (λ r q. q.frame) fs (made-fine fs d)

  made-text : (fs : List (List ℕ)) → MadeOf (nodes n) n fs → text_of (chart_of fs) ≡ frames_text fs
  made-text fs d = chart-text fs (made-frames fs d)

  -- ---- in order
  charts-up : Ascends text_of (little_charts n)
  unfolding little_charts
  charts-up = ascends-filter text_of (λ c. is_fine (chart_verdict c)) (map chart_of (lists_of (nodes n) n))
      (ascends-map chart_of text_of (lists_of (nodes n) n)
      (ascends-as frames_text (λ fs. text_of (chart_of fs)) (lists_of (nodes n) n)
      (all-of (MadeOf (nodes n) n) (λ fs. frames_text fs ≡ text_of (chart_of fs)) (λ fs d. sym (made-text fs d)) (lists_of (nodes n) n)
      (lists-made (nodes n) n))
      (lists-up (nodes n) (all-of Fine (λ r. length (frame_text r) ≡ 23) (λ r q. frame-length r q.frame) (nodes n) fine-nodes.each)
      fine-nodes.up n)))

  order : (i j : ℕ) → i < j → j < little_total n → is_before (little_text n i) (little_text n j) ≡ true
  order i j l m = ascends-at text_of [] (little_charts n) charts-up i j l m

  apart : (i j : ℕ) → i < j → j < little_total n → little_text n i ≡ little_text n j → ⊥
  apart i j l m e = no_both (is_before (little_text n i) (little_text n j)) (order i j l m)
      (ap (λ (t : List ℕ). is_before t (little_text n j)) e ∙ before-self (little_text n j))

  once : (i j : ℕ) → i < little_total n → j < little_total n → little_text n i ≡ little_text n j → i ≡ j
  once i j l m e = grind (arith, common_steps, dec_lt, apart)

  -- ---- all are wanted
  record Kept (c : Chart) : Type 0 where
    frames : List (List ℕ)
    made : MadeOf (nodes n) n frames
    is : chart_of frames ≡ c

  all-kept : AllByRecursion (λ c. Kept c × (is_fine (chart_verdict c) ≡ true)) (little_charts n)
  unfolding little_charts
  all-kept = all-filter Kept (λ c. is_fine (chart_verdict c)) (map chart_of (lists_of (nodes n) n))
      (all-map Kept chart_of (lists_of (nodes n) n)
      (all-of (MadeOf (nodes n) n) (λ fs. Kept (chart_of fs)) (λ fs d. record { frames = fs; made = d; is = refl }) (lists_of (nodes n) n)
      (lists-made (nodes n) n)))

  -- every node is of the form
  pub made-formed : (fs : List (List ℕ)) → MadeOf (nodes n) n fs → (v : ℕ) → v < n → is_little_node (chart_of fs) v ≡ true
  made-formed fs d v l =
      let m : v < length fs = omega (arith, d.count) in
      ap (λ (x : List ℕ). is_little_node x 0) (chart-ten fs (made-frames fs d) v m) ∙ (all-at Fine [] fs (made-fine fs d) v m).formed

  wanted-text : (fs : List (List ℕ)) → MadeOf (nodes n) n fs → chart_verdict (chart_of fs) ≡ fine → Wanted n (frames_text fs)
  unfolding read_verdict
  wanted-text fs d v =
      grind (arith, common_steps, nat_tests, of_text, chart-contents, accepted, any-none, made-frames, made-formed)

  wanted : (k : ℕ) → k < little_total n → Wanted n (little_text n k) × (text_of (contents (little_text n k)) ≡ little_text n k)
  wanted k l =
      let c : Chart = slice_index_or (little_charts n) k [] in
      let q = all-at (λ c. Kept c × (is_fine (chart_verdict c) ≡ true)) [] (little_charts n) all-kept k l in
      let d : MadeOf (nodes n) n q.0.frames = q.0.made in
      let e : frames_text q.0.frames ≡ text_of c = sym (made-text q.0.frames d) ∙ ap text_of q.0.is in (
        subst (Wanted n) e (wanted-text q.0.frames d (ap chart_verdict q.0.is ∙ passes-fine (chart_verdict c) q.1)),
        ap text_of (ap contents (sym e) ∙ chart-contents q.0.frames (made-frames q.0.frames d) ∙ q.0.is),
      )

  -- ---- none is missing
  listed : (t : List ℕ) → Wanted n t → NumberedText n t
  unfolding little_charts read_verdict
  listed t w =
      let c : Chart = contents t in
      let A : Accepted c = accepted t w.accepted in
      let s : size c ≡ n = omega (arith, any-contents-length t, w.frames) in
      let formed : (v : ℕ) → v < size c → is_little_node c v ≡ true = λ v l.
      not-false (is_little_node c v)
      (any-false (λ v. not (is_little_node c v)) 0 (size c) (not-true (any (λ v. not (is_little_node c v)) 0 (size c)) w.formed) v
      (omega arith) (omega arith)) in
      let fs : List (List ℕ) = map (ten_bytes_at c) (range 0 (size c)) in
      let each : AllByRecursion (λ r. In r (nodes (size c))) fs = all-map (λ r. In r (nodes (size c))) (ten_bytes_at c) (range 0 (size c))
      (all-range (λ v. In (ten_bytes_at c v) (nodes (size c))) 0 (size c) (λ v l. record-in c A.sound formed (0 + v) (omega arith))) in
      let m : length fs ≡ size c = length-map-range (ten_bytes_at c) 0 (size c) in
      let i : In fs (lists_of (nodes n) n) = subst (λ (k : ℕ). In fs (lists_of (nodes k) k)) s
      (subst (λ (k : ℕ). In fs (lists_of (nodes (size c)) k)) m (made-listed (nodes (size c)) fs each)) in
      let is : chart_of fs ≡ c = whole c (accepted-bytes t w.accepted) A.whole in
      let p : is_fine (chart_verdict c) ≡ true = ap is_fine (next-rest (text_verdict 5888 t) (λ _. chart_verdict c) w.accepted) in
      let j : In c (little_charts n) = in-filter (λ c. is_fine (chart_verdict c)) c (map chart_of (lists_of (nodes n) n)) p
      (subst (λ (x : Chart). In x (map chart_of (lists_of (nodes n) n))) is (in-map chart_of fs (lists_of (nodes n) n) i)) in
      let r : Place [] c (little_charts n) = in-place [] c (little_charts n) j in
      record { number = r.place; low = r.low; text = ap text_of r.holds ∙ text-back 5888 t (read-text t w.accepted) }

pub all-wanted : AllWanted
unfolding AllWanted
all-wanted n k a b l = wanted n a b k l

pub none-missing : NoneMissing
unfolding NoneMissing
none-missing n t a b w = listed n a b t w

pub in-order : InOrder
unfolding InOrder
in-order n i j a b l m = order n a b i j l m

pub each-once : EachOnce
unfolding EachOnce
each-once n i j a b l m e = once n a b i j l m e
