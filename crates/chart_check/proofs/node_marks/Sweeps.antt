-- Marked nodes whose arcs are followed in the order of the nodes: a turn of the loop, and what arcs join from the marks stays the same.
use Rattle.std.proofs.Common.{if◌then◌else◌, ◌≡◌, refl, sym, ◌∙◌, subst, ◌⊎◌, inl, inr, Bool, true, false, List, ℕ, zero, suc, ◌+◌, ◌≤◌}
use Rattle.std.proofs.Common.{◌<◌, arith, length}
use Rattle.std.proofs.lemmas.Grind.{common_steps}
use Rattle.std.proofs.lemmas.Bool.{cond-true, cond-false}
use Rattle.words.proofs.lists.Tests.{cases}
use Rattle.words.specs.graph.Reach.{is_marked, reach}
use Rattle.words.specs.inner.Listed.{mark_all}
use Rattle.words.proofs.graph.Lists.{joining-more}
use Rattle.words.proofs.graph.Marking.{Joining, joining-first, joining-same}
use Rattle.text.specs.frames.Frame.{size}
use Rattle.charts.specs.Chart.{Chart}
use Rattle.charts.specs.Check.{arcs}
use Rattle.chart_check.specs.inner.MarkContracts.{marks_swept_to}

-- one node more, followed where it is marked
swept-more : (c : Chart) (first now out : List Bool) (v : ℕ) → length first ≡ size c → Joining (size c) (arcs c) first now
    → out ≡ (if is_marked now v then mark_all (arcs c v) now else now) → Joining (size c) (arcs c) first out
swept-more c first now out v long on e = go (cases (is_marked now v))
  where
    go : (is_marked now v ≡ true) ⊎ (is_marked now v ≡ false) → Joining (size c) (arcs c) first out
    go (inl m) = joining-more (size c) (arcs c) first now out v long m (e ∙ cond-true (is_marked now v) _ _ m) on
    go (inr m) = subst (λ (xs : List Bool). Joining (size c) (arcs c) first xs) (sym (e ∙ cond-false (is_marked now v) _ _ m)) on

-- ---- the loop: nodes 0 to v - 1 had their turn
pub record Sweeping (c : Chart) (first now : List Bool) (v : ℕ) : Type 0 where
  pub low : v ≤ size c
  pub long : length now ≡ length first
  pub is : now ≡ marks_swept_to c v first

module _ (c : Chart) (first : List Bool) where
  pub sweeping-none : Sweeping c first first 0
  unfolding marks_swept_to
  sweeping-none = record { low = omega arith; long = refl; is = refl }

  pub sweeping-turn : (now out : List Bool) (v : ℕ) → Sweeping c first now v → v < size c → length out ≡ length now
      → out ≡ (if is_marked now v then mark_all (arcs c v) now else now) → Sweeping c first out (v + 1)
  unfolding marks_swept_to
  sweeping-turn now out v t h l e = grind (arith, common_steps)

  -- ---- what arcs join from the marks stays the same
  swept-joining : length first ≡ size c → (v : ℕ) → Joining (size c) (arcs c) first (marks_swept_to c v first)
  unfolding marks_swept_to
  swept-joining long zero = joining-first (size c) (arcs c) first long
  swept-joining long (suc v) = swept-more c first (marks_swept_to c v first) _ v long (swept-joining long v) refl

  pub swept-same : (out : List Bool) → length first ≡ size c → out ≡ marks_swept_to c (size c) first
      → reach (size c) (arcs c) (size c) out ≡ reach (size c) (arcs c) (size c) first
  swept-same out long e = grind (arith, common_steps, joining-same, swept-joining)

pub ruleset sweeping = (sweeping-none, sweeping-turn)
