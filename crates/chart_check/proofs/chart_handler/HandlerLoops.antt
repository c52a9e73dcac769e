-- The passes for the handler: its scheme by the nodes passed, and refusal 19 by the marks passed.
use Rattle.std.proofs.Common.{if◌then◌else◌, ◌≡◌, sym, ◌∙◌, ap, Bool, true, false, ℕ, ◌+◌, ◌-◌, ◌≤◌, ◌<◌, max, arith, lt-ltb, nat_lt, ◌==◌}
use Rattle.std.proofs.Common.{le-ltb, eq-eqb, ne_eqb}
use Rattle.std.proofs.lemmas.Grind.{common_steps}
use Rattle.words.specs.lists.Numbers.{any, count, highest}
use Rattle.std.proofs.lemmas.Bool.{cond-true, cond-false}
use Rattle.words.proofs.lists.Tests.{or-true-l, or-true-r, or-none}
use Rattle.words.proofs.lists.Searches.{any-here, any-on, any-over, highest-next}
use Rattle.words.proofs.lists.Counts.{count-yes, count-pass, count-below}
use Rattle.text.specs.frames.Frame.{size}
use Rattle.charts.specs.Chart.{Chart, scheme, is_handler_mark, handler_at}
use Rattle.charts.specs.Check.{has_bad_marks}

-- ---- the scheme: one node more, with a mark or without
module _ (c : Chart) (v h : ℕ) (e : h ≡ highest (handler_at c) 0 v) where
  pub handler-mark : (s h' : ℕ) → is_handler_mark c v ≡ true → s ≡ scheme c v → h' ≡ max h s → h' ≡ highest (handler_at c) 0 (v + 1)
  handler-mark s h' t is m = omega (arith, highest-next (handler_at c) v, cond-true (is_handler_mark c v) (scheme c v) 0 t)

  pub handler-pass : is_handler_mark c v ≡ false → h ≡ highest (handler_at c) 0 (v + 1)
  handler-pass t = omega (arith, highest-next (handler_at c) v, cond-false (is_handler_mark c v) (scheme c v) 0 t)

-- ---- 19
abbrev is_mark_on_first : Chart → ℕ → Bool
is_mark_on_first c v = handler_at c v == 1

-- none of the nodes below v marks scheme 1, and one of them or none has a mark
pub record Marking (c : Chart) (n v : ℕ) (marked : Bool) : Type 0 where
  pub inside : v ≤ n
  pub all : n ≡ size c
  pub left : any (is_mark_on_first c) v (n - v) ≡ any (is_mark_on_first c) 0 n
  pub one : count (is_handler_mark c) 0 v ≡ (if marked then 1 else 0)

pub marking-none : (c : Chart) (n : ℕ) → n ≡ size c → Marking c n 0 false
unfolding count
marking-none c n e = grind (arith, common_steps)

module _ (c : Chart) (n v : ℕ) (marked : Bool) (d : Marking c n v marked) where
  abbrev firsts : Bool
  firsts = any (is_mark_on_first c) 0 (size c)

  abbrev marks : ℕ
  marks = count (is_handler_mark c) 0 (size c)

  left-all : any (is_mark_on_first c) v (n - v) ≡ firsts
  left-all = d.left ∙ ap (any (is_mark_on_first c) 0) d.all

  pub marking-all : n ≤ v → false ≡ has_bad_marks c
  marking-all l = grind (arith, common_steps, or-none, le-ltb, any-over, left-all)

  module _ (l : v < n) where
    pub marking-pass : is_handler_mark c v ≡ false → Marking c n (v + 1) marked
    marking-pass t = grind (arith, common_steps, any-on, count-pass, cond-false)

    module _ (t : is_handler_mark c v ≡ true) where
      marked-scheme : handler_at c v ≡ scheme c v
      marked-scheme = cond-true (is_handler_mark c v) (scheme c v) 0 t

      pub marking-second : marked ≡ true → true ≡ has_bad_marks c
      marking-second m =
          let more : count (is_handler_mark c) 0 v < marks = count-below (is_handler_mark c) v (size c) (omega (arith, d.all)) t in
          sym (or-true-r firsts (nat_lt 1 marks) (lt-ltb 1 marks (omega (arith, d.one, cond-true {A = ℕ} marked 1 0 m))))

      pub marking-first : (s : ℕ) → s ≡ scheme c v → s ≡ 1 → true ≡ has_bad_marks c
      marking-first s is e = grind (arith, common_steps, eq-eqb, any-here, or-true-l, left-all, marked-scheme)

      pub marking-mark : (s : ℕ) → s ≡ scheme c v → marked ≡ false → (s ≡ 1 → ⊥) → Marking c n (v + 1) true
      marking-mark s is m o = grind (arith, common_steps, ne_eqb, any-on, cond-false, count-yes, marked-scheme)
