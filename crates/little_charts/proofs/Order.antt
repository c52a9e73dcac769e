-- Lists whose texts increase: joined, filtered, and all lists of records.
use Rattle.std.proofs.Common.{ℕ, zero, suc, ◌<◌, Bool, true, false, ◌≡◌, sym, ◌∙◌, List, [], ◌∷◌, ◌++◌, map}
use Rattle.std.proofs.Common.{slice_index_or, flat_map, filter}
use Rattle.std.proofs.Common.{arith, length, eq-eqb, le-ltb}
use Rattle.std.proofs.lemmas.Grind.{common_steps}
use Rattle.std.specs.List.{AllByRecursion}
use Rattle.words.proofs.lists.Tests.{or-cases, or-true-l, or-true-r, or-none, and-l, and-r, and-true, and-no}
use Rattle.words.proofs.lists.Ranges.{filter-yes, filter-no}
use Rattle.words.proofs.lists.Joins.{all-at, all-every, all-append, all-map, all-of, all-concat, all-filter, concat-cons}
use Rattle.text.specs.frames.Frame.{frame_text, frames_text}
use Rattle.little_charts.specs.Little.{lists_of}
use Rattle.little_charts.specs.Promises.{is_before}

-- ---- the order
pub before-self : (x : List ℕ) → is_before x x ≡ false
unfolding is_before
before-self [] = grind (arith, common_steps)
before-self (a ∷ x) = grind (arith, common_steps, before-self x, or-none, le-ltb, and-no)

pub before-after : (x a b : List ℕ) → is_before a b ≡ true → is_before (x ++ a) (x ++ b) ≡ true
unfolding is_before
before-after [] a b e = grind (arith, common_steps)
before-after (c ∷ x) a b e = grind (arith, common_steps, before-after x a b e, or-true-r, eq-eqb, and-true)

pub before-front : (x y a b : List ℕ) → length x ≡ length y → is_before x y ≡ true → is_before (x ++ a) (y ++ b) ≡ true
unfolding is_before
before-front [] [] a b l e = grind (arith, common_steps)
before-front [] (y ∷ ys) a b l e = grind (arith, common_steps)
before-front (x ∷ xs) [] a b l e = grind (arith, common_steps)
before-front (x ∷ xs) (y ∷ ys) a b l e = grind (arith, common_steps, before-front xs ys a b (omega arith), and-true, and-l, or-cases, or-true-l, and-r, or-true-r)

-- ---- lists that increase by a text of each element
module _ {A : Type 0} (f : A → List ℕ) where
  abbrev Below : A → A → Type 0
  Below x y = is_before (f x) (f y) ≡ true

  abbrev pub Ascends : List A → Type 0
  Ascends [] = Unit {0}
  Ascends (x ∷ xs) = AllByRecursion (Below x) xs × Ascends xs

  pub ascends-at : (d : A) (xs : List A) → Ascends xs → (i j : ℕ) → i < j → j < length xs
      → is_before (f (slice_index_or xs i d)) (f (slice_index_or xs j d)) ≡ true
  ascends-at d [] a i j l m = absurd (omega arith)
  ascends-at d (x ∷ xs) a zero zero l m = absurd (omega arith)
  ascends-at d (x ∷ xs) a zero (suc j) l m = all-at (Below x) d xs a.0 j (omega arith)
  ascends-at d (x ∷ xs) a (suc i) zero l m = absurd (omega arith)
  ascends-at d (x ∷ xs) a (suc i) (suc j) l m = ascends-at d xs a.1 i j (omega arith) (omega arith)

  pub ascends-filter : (p : A → Bool) (xs : List A) → Ascends xs → Ascends (filter p xs)
  ascends-filter p [] a = grind (arith, common_steps)
  ascends-filter p (x ∷ xs) a = grind (arith, common_steps, ascends-filter p xs a.1, all-of, filter-no, all-filter, filter-yes)

  ascends-append : (xs ys : List A) → Ascends xs → Ascends ys → AllByRecursion (λ x. AllByRecursion (Below x) ys) xs → Ascends (xs ++ ys)
  ascends-append [] ys a b c = b
  ascends-append (x ∷ xs) ys a b c = (all-append (Below x) xs ys a.0 c.0, ascends-append xs ys a.1 b c.1)

-- by another text that each element has too
pub ascends-as : {A : Type 0} (f g : A → List ℕ) (xs : List A) → AllByRecursion (λ x. f x ≡ g x) xs → Ascends f xs → Ascends g xs
ascends-as f g [] e a = tt
ascends-as f g (x ∷ xs) e a = (later xs e.1 a.0, ascends-as f g xs e.1 a.1)
  where
    later : (ys : List _) → AllByRecursion (λ y. f y ≡ g y) ys → AllByRecursion (λ y. is_before (f x) (f y) ≡ true) ys
        → AllByRecursion (λ y. is_before (g x) (g y) ≡ true) ys
    later [] q b = tt
    later (y ∷ ys) q b = (rw (← e.0, ← q.0) b.0, later ys q.1 b.1)

pub ascends-map : {A B : Type 0} (f : A → B) (g : B → List ℕ) (xs : List A) → Ascends (λ x. g (f x)) xs → Ascends g (map f xs)
ascends-map f g [] a = tt
ascends-map f g (x ∷ xs) a = (all-map (λ y. is_before (g (f x)) (g y) ≡ true) f xs a.0, ascends-map f g xs a.1)

-- ---- all lists of records
abbrev Lined : List ℕ → Type 0
Lined r = length (frame_text r) ≡ 23

frames-cons : (r : List ℕ) (fs : List (List ℕ)) → frames_text (r ∷ fs) ≡ frame_text r ++ frames_text fs
frames-cons r fs = concat-cons frame_text r fs

module _ (rs : List (List ℕ)) (lined : AllByRecursion Lined rs) (up : Ascends frame_text rs) where
  module _ (m : ℕ) where
    abbrev led : List ℕ → List (List (List ℕ))
    led r = map (λ fs. r ∷ fs) (lists_of rs m)

    led-up : (r : List ℕ) → Ascends frames_text (lists_of rs m) → Ascends frames_text (led r)
    led-up r a = ascends-map (λ fs. r ∷ fs) frames_text (lists_of rs m) (one (lists_of rs m) a)
      where
        one : (xs : List (List (List ℕ))) → Ascends frames_text xs → Ascends (λ fs. frames_text (r ∷ fs)) xs
        one [] b = tt
        one (x ∷ xs) b = (
          all-of (λ y. is_before (frames_text x) (frames_text y) ≡ true) (λ y. is_before (frames_text (r ∷ x)) (frames_text (r ∷ y)) ≡ true)
              (λ y q. rw (frames-cons r x, frames-cons r y) (before-after (frame_text r) (frames_text x) (frames_text y) q)) xs b.0,
          one xs b.1,
        )

    -- lists that begin with r come before those that begin with a later record
    led-before : (r : List ℕ) → Lined r → (qs : List (List ℕ)) → AllByRecursion Lined qs
        → AllByRecursion (λ q. is_before (frame_text r) (frame_text q) ≡ true) qs
        → AllByRecursion (λ x. AllByRecursion (λ y. is_before (frames_text x) (frames_text y) ≡ true) (flat_map led qs)) (led r)
    led-before r l qs ls bs = all-map _ (λ fs. r ∷ fs) (lists_of rs m)
        (all-every _ (λ fs. all-concat _ led qs (each fs qs ls bs)) (lists_of rs m))
      where
        each : (fs : List (List ℕ)) (ps : List (List ℕ)) → AllByRecursion Lined ps
            → AllByRecursion (λ q. is_before (frame_text r) (frame_text q) ≡ true) ps
            → AllByRecursion (λ q. AllByRecursion (λ y. is_before (frames_text (r ∷ fs)) (frames_text y) ≡ true) (led q)) ps
        each fs [] a b = tt
        each fs (q ∷ ps) a b = (
          all-map (λ y. is_before (frames_text (r ∷ fs)) (frames_text y) ≡ true) (λ gs. q ∷ gs) (lists_of rs m)
              (all-every (λ gs. is_before (frames_text (r ∷ fs)) (frames_text (q ∷ gs)) ≡ true)
              (λ gs. rw (frames-cons r fs, frames-cons q gs)
              (before-front (frame_text r) (frame_text q) (frames_text fs) (frames_text gs) (l ∙ sym a.0) b.0))
              (lists_of rs m)),
          each fs ps a.1 b.1,
        )

    more-up : Ascends frames_text (lists_of rs m) → (qs : List (List ℕ)) → AllByRecursion Lined qs → Ascends frame_text qs
        → Ascends frames_text (flat_map led qs)
    more-up a [] l u = tt
    more-up a (q ∷ qs) l u = ascends-append frames_text (led q) (flat_map led qs) (led-up q a) (more-up a qs l.1 u.1)
        (led-before q l.0 qs l.1 u.0)

  pub lists-up : (m : ℕ) → Ascends frames_text (lists_of rs m)
  unfolding lists_of
  lists-up zero = (tt, tt)
  lists-up (suc m) = more-up m (lists-up m) rs lined up
