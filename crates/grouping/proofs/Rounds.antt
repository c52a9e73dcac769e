-- Rounds of parting: each list of classes is an equivalence, each round parts further, and after as many rounds as labels nothing changes.
use Rattle.std.proofs.Common.{ℕ, zero, suc, ◌≤◌, ◌<◌, Bool, true, false, not, ◌≡◌, refl, sym, ◌∙◌, ap, subst, ◌⊎◌, inl, inr, List, arith, ◌==◌}
use Rattle.std.proofs.Common.{length, eqb-true, eq-eqb}
use Rattle.std.proofs.lemmas.Grind.{common_steps}
use Rattle.words.specs.lists.Numbers.{tabulate, count}
use Rattle.words.proofs.lists.Tests.{and-l, and-r, and-true, not-true, split}
use Rattle.words.proofs.lists.Counts.{count-same, count-le, count-some}
use Rattle.words.proofs.lists.Ranges.{map-count, length-map-range}
use Rattle.image.specs.Image.{Image, Label}
use Rattle.image.specs.inner.Sound.{SoundImage}
use Rattle.image.proofs.Accepted.{fields-same}
use Rattle.state.specs.State.{label_at}
use Rattle.grouping.specs.Classes.{has_same_fields, class_of, is_first, is_parted, is_staying_with, classes_by, classes, grouping}
use Rattle.grouping.proofs.Representatives.{lowest_alike, alike-le, tabulated, AlikeBelow, same-lowest, lowest-same, lowest-own}
use Rattle.covering.proofs.Hits.{OneRow}
use Rattle.grouping.proofs.Onward.{same-fields, onward_label, low-same, unparted, not-parted}

-- ---- what holds of every list of classes
pub record ClassRound (i : Image) (c : List ℕ) : Type 0 where
  pub long : length c ≡ length i.labels
  pub below : (l : ℕ) → l < length i.labels → class_of c l ≤ l
  pub own : (l : ℕ) → l < length i.labels → class_of c (class_of c l) ≡ class_of c l
  pub same : (l m : ℕ) → l < length i.labels → m < length i.labels → class_of c l ≡ class_of c m → label_at i l ≡ label_at i m

-- numbers whose labels hold the same
pub fields-alike : (x : ℕ → Label) (n : ℕ) → AlikeBelow n (λ m l. has_same_fields (x m) (x l))
fields-alike x n = record {
  self = λ l h. same-fields (x l) (x l) refl;
  turn = λ l m hl hm t. same-fields (x m) (x l) (sym (fields-same (x l) (x m) t));
  chain = λ l m k hl hm hk t u. same-fields (x l) (x k) (fields-same (x l) (x m) t ∙ fields-same (x m) (x k) u);
}

module _ (i : Image) where
  abbrev n : ℕ
  n = length i.labels

  -- by a test that is an equivalence
  module _ (alike : ℕ → ℕ → Bool) (a : AlikeBelow n alike) where
    pub class-is : (l : ℕ) → l < n → class_of (classes_by i alike) l ≡ lowest_alike alike l
    class-is l h = tabulated alike n l h

    pub class-same : (l m : ℕ) → l < n → m < n → alike l m ≡ true → class_of (classes_by i alike) l ≡ class_of (classes_by i alike) m
    class-same l m hl hm t = grind (arith, class-is, same-lowest n alike a l m)

    pub same-class : (l m : ℕ) → l < n → m < n → class_of (classes_by i alike) l ≡ class_of (classes_by i alike) m → alike l m ≡ true
    same-class l m hl hm e = lowest-same n alike a l m hl hm (sym (class-is l hl) ∙ e ∙ class-is m hm)

    pub round-by : ((l m : ℕ) → l < n → m < n → alike l m ≡ true → label_at i l ≡ label_at i m) → ClassRound i (classes_by i alike)
    round-by h = record {
      long = unfold tabulate in length-map-range (lowest_alike alike) 0 n;
      below = λ l k. omega (arith, class-is l k, alike-le alike l);
      own = λ l k. grind (arith, class-is, alike-le alike l, lowest-own n alike a l);
      same = λ l m hl hm e. h l m hl hm (same-class l m hl hm e);
    }

  -- ---- the first classes
  abbrev pub has_same_fields_at : ℕ → ℕ → Bool
  has_same_fields_at m l = has_same_fields (label_at i m) (label_at i l)

  pub first-alike : AlikeBelow n has_same_fields_at
  first-alike = fields-alike (label_at i) n

  pub first-round : ClassRound i (classes_by i has_same_fields_at)
  first-round = round-by has_same_fields_at first-alike (λ l m hl hm t. fields-same (label_at i l) (label_at i m) t)

  module _ (S : SoundImage i) (one : OneRow i) where
    module _ (c : List ℕ) (R : ClassRound i c) where
      -- labels of one class whose rows lead to the same classes
      pub record StaysTogether (l m : ℕ) : Type 0 where
        pub now : class_of c l ≡ class_of c m
        pub then : (w : ℕ) (b : Bool) → class_of c (onward_label i l w b) ≡ class_of c (onward_label i m w b)

      pub stays-told : (l m : ℕ) → l < n → m < n → is_staying_with i c l m ≡ true → StaysTogether l m
      stays-told l m hl hm t =
          let e : class_of c l ≡ class_of c m =
          eqb-true (class_of c l) (class_of c m) (and-l (class_of c l == class_of c m) (not (is_parted i c l m)) t) in
          record {
            now = e;
            then = go e (not-true (is_parted i c l m) (and-r (class_of c l == class_of c m) (not (is_parted i c l m)) t))
                (split l 2) (split m 2);
          }
        where
          low : l ≡ m → (w : ℕ) (b : Bool) → class_of c (onward_label i l w b) ≡ class_of c (onward_label i m w b)
          low q w b = ap (λ (x : ℕ). class_of c (onward_label i x w b)) q

          go : class_of c l ≡ class_of c m → is_parted i c l m ≡ false → (l < 2) ⊎ (2 ≤ l) → (m < 2) ⊎ (2 ≤ m)
              → (w : ℕ) (b : Bool) → class_of c (onward_label i l w b) ≡ class_of c (onward_label i m w b)
          go e p (inl x) y = low (low-same i S l m hl hm (R.same l m hl hm e) x)
          go e p (inr x) (inl y) = low (sym (low-same i S m l hm hl (sym (R.same l m hl hm e)) y))
          go e p (inr x) (inr y) = unparted i S one c l m x hl y hm p

      pub stays-made : (l m : ℕ) → class_of c l ≡ class_of c m
          → ((w : ℕ) (b : Bool) → w < 65536 → class_of c (onward_label i l w b) ≡ class_of c (onward_label i m w b)) → is_staying_with i c l
          m ≡ true
      stays-made l m e h = grind (arith, common_steps, and-true, eq-eqb, not-parted)

      pub stays-alike : AlikeBelow n (is_staying_with i c)
      stays-alike = record {
        self = λ l h. stays-made l l refl (λ w b k. refl);
        turn = λ l m hl hm t. let x : StaysTogether l m = stays-told l m hl hm t in
            stays-made m l (sym x.now) (λ w b k. sym (x.then w b));
        chain = λ l m k hl hm hk t u.
            let x : StaysTogether l m = stays-told l m hl hm t in
            let y : StaysTogether m k = stays-told m k hm hk u in
            stays-made l k (x.now ∙ y.now) (λ w b j. x.then w b ∙ y.then w b);
      }

      abbrev pub next_classes : List ℕ
      next_classes = classes_by i (is_staying_with i c)

      pub next-round : ClassRound i next_classes
      next-round = round-by (is_staying_with i c) stays-alike (λ l m hl hm t. R.same l m hl hm (stays-told l m hl hm t).now)

      -- labels of one class after a round
      pub next-told : (l m : ℕ) → l < n → m < n → class_of next_classes l ≡ class_of next_classes m → StaysTogether l m
      next-told l m hl hm e = stays-told l m hl hm (same-class (is_staying_with i c) stays-alike l m hl hm e)

      -- the lowest one was of the same class before
      next-lowest : (l : ℕ) → l < n → class_of c (class_of next_classes l) ≡ class_of c l
      next-lowest l h = (next-told (class_of next_classes l) l (omega (arith, next-round.below l h)) h (next-round.own l h)).now

      -- what is lowest in its class stays so
      stays-first : (l : ℕ) → l < n → is_first c l ≡ true → is_first next_classes l ≡ true
      stays-first l h t =
          let m : ℕ = class_of next_classes l in
          let e : class_of c m ≡ l = next-lowest l h ∙ eqb-true (class_of c l) l t in
          eq-eqb m l (omega (arith, next-round.below l h, R.below m (omega (arith, next-round.below l h))))

      -- a round with no more groups changes nothing
      pub settled : count (is_first next_classes) 0 n ≤ count (is_first c) 0 n → next_classes ≡ c
      unfolding tabulate
      settled h = map-count (lowest_alike (is_staying_with i c)) 0 c 0 n (sym R.long) (λ l k.
          let hl : l < n = omega (arith, R.long) in
          let m : ℕ = class_of next_classes l in
          let hm : m < n = omega (arith, next-round.below l hl) in
          let t : is_first next_classes m ≡ true = eq-eqb (class_of next_classes m) m (next-round.own l hl) in
          let u : is_first c m ≡ true =
          sym (count-same (is_first c) (is_first next_classes) 0 n (λ j a b t. stays-first j (omega arith) t) h m (omega arith)
          (omega arith))
          ∙ t in
          ap (lowest_alike (is_staying_with i c)) (omega arith) ∙ sym (class-is (is_staying_with i c) stays-alike l hl)
          ∙ sym (eqb-true (class_of c m) m u) ∙ next-lowest l hl)

    -- ---- all rounds
    pub rounds : (k : ℕ) → ClassRound i (classes i k)
    unfolding classes
    rounds zero = first-round
    rounds (suc k) = next-round (classes i k) (rounds k)

    pub more : (k : ℕ) → classes i (suc k) ≡ next_classes (classes i k) (rounds k)
    unfolding classes
    more k = refl

    again-at-rest : (k : ℕ) → classes i (suc k) ≡ classes i k → classes i (suc (suc k)) ≡ classes i (suc k)
    unfolding classes
    again-at-rest k e = ap (λ (c : List ℕ). classes_by i (is_staying_with i c)) e

    abbrev size_at : ℕ → ℕ
    size_at k = count (is_first (classes i k)) 0 n

    -- nothing changes, or there are more groups than rounds so far
    progress : (k : ℕ) → (classes i (suc k) ≡ classes i k) ⊎ (k < size_at k)
    progress zero = inr (count-some (is_first (classes i 0)) n 0 (omega (arith, S.two))
        (eq-eqb (class_of (classes i 0) 0) 0 (omega (arith, (rounds 0).below 0 (omega (arith, S.two))))))
    progress (suc k) = go (progress k) (split (size_at k) (size_at (suc k)))
      where
        again : classes i (suc k) ≡ classes i k → classes i (suc (suc k)) ≡ classes i (suc k)
        again = again-at-rest k

        go : (classes i (suc k) ≡ classes i k) ⊎ (k < size_at k) → (size_at k < size_at (suc k)) ⊎ (size_at (suc k) ≤ size_at k)
            → (classes i (suc (suc k)) ≡ classes i (suc k)) ⊎ (suc k < size_at (suc k))
        go (inl e) y = inl (again e)
        go (inr x) (inl y) = inr (omega arith)
        go (inr x) (inr y) = inl (again (more k ∙ settled (classes i k) (rounds k)
            (subst (λ (c : List ℕ). count (is_first c) 0 n ≤ size_at k) (more k) y)))

    pub at-rest : classes i (suc n) ≡ classes i n
    at-rest = go (progress n)
      where
        go : (classes i (suc n) ≡ classes i n) ⊎ (n < size_at n) → classes i (suc n) ≡ classes i n
        go (inl e) = e
        go (inr x) = absurd (omega (arith, count-le (is_first (classes i n)) 0 n))

    -- ---- so labels of one group lead to labels of one group
    pub group-round : ClassRound i (grouping i)
    unfolding grouping
    group-round = rounds n

    pub group-leads : (l m : ℕ) → l < n → m < n → class_of (grouping i) l ≡ class_of (grouping i) m
        → (w : ℕ) (b : Bool) → class_of (grouping i) (onward_label i l w b) ≡ class_of (grouping i) (onward_label i m w b)
    unfolding grouping
    group-leads l m hl hm e = grind (arith, next-told (classes i n) (rounds n) l m hl hm, rounds n, at-rest, more n)
