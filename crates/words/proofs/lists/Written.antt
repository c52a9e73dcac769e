-- Laws of a buffer that was written from a place on, or to its front.
use Rattle.std.proofs.Common.{◌≡◌, sym, ◌∙◌, ap, List, [], ◌∷◌, ◌++◌, append_assoc, ℕ, ◌+◌, ◌≤◌, ◌<◌, add-zero, add-one, arith, length}
use Rattle.std.proofs.Common.{take, drop, set, length-append, length-take, length-drop, take-append-drop, take_at, drop_at, drop-drop}
use Rattle.std.proofs.lemmas.Grind.{common_steps}
use Rattle.words.specs.lists.Sequences.{written, over}

pub written-none : (out : List ℕ) (at : ℕ) → written out at [] ≡ out
unfolding written
written-none out at = rw (add-zero at) (take-append-drop at out)

module _ (out : List ℕ) (at : ℕ) (vs : List ℕ) (room : at + length vs ≤ length out) where
  head-length : length (take at out ++ vs) ≡ at + length vs
  head-length = simp (length-append, length-take) (omega arith)

  regroup : written out at vs ≡ (take at out ++ vs) ++ drop (at + length vs) out
  unfolding written
  regroup = sym (append_assoc (take at out) vs (drop (at + length vs) out))

  pub written-length : length (written out at vs) ≡ length out
  unfolding written
  written-length = simp (length-append, length-take, length-drop) (omega arith)

  pub written-drop : drop (at + length vs) (written out at vs) ≡ drop (at + length vs) out
  written-drop = rw regroup (drop_at (take at out ++ vs) (drop (at + length vs) out) (at + length vs) head-length)

  pub written-take : take (at + length vs) (written out at vs) ≡ take at out ++ vs
  written-take = rw regroup (take_at (take at out ++ vs) (drop (at + length vs) out) (at + length vs) head-length)

  -- two runs, the second where the first ends
  pub written-written : (ws : List ℕ) → written (written out at vs) (at + length vs) ws ≡ written out at (vs ++ ws)
  unfolding written
  written-written ws =
      let d : drop (at + length vs + length ws) (written out at vs) ≡ drop (at + length vs + length ws) out =
      sym (drop-drop (length ws) (at + length vs) (written out at vs)) ∙ ap (λ (l : List ℕ). drop (length ws) l) written-drop
      ∙ drop-drop (length ws) (at + length vs) out in
      let n : at + length vs + length ws ≡ at + length (vs ++ ws) = simp length-append (omega arith) in
      grind (arith, common_steps, append_assoc, written-take)

-- one value
pub written-one : (out : List ℕ) (at v : ℕ) → at < length out → set out at v ≡ written out at (v ∷ [])
unfolding written
written-one out at v h = rw (add-one) (lib.Seq.set_split out at v h)

-- one value after a run
pub written-snoc : (out : List ℕ) (at : ℕ) (vs : List ℕ) (v : ℕ) → at + length vs < length out
    → set (written out at vs) (at + length vs) v ≡ written out at (vs ++ (v ∷ []))
written-snoc out at vs v h = grind (arith, common_steps, written-length, written-written, written-one)

-- a turn of a loop that appends: `done` stands in the buffer from `at` on, and `more` is written where it ends
pub written-more : (out₀ : List ℕ) (at : ℕ) (done more out out' : List ℕ) (place : ℕ) → place ≡ at + length done → place ≤ length out₀
    → out ≡ written out₀ at done → out' ≡ written out place more → out' ≡ written out₀ at (done ++ more)
written-more out₀ at done more out out' place p room e e' = grind (arith, common_steps, written-written)

-- a buffer written from its first place on
pub written-front : (out vs : List ℕ) → written out 0 vs ≡ over vs out
unfolding written
written-front out vs = let e : 0 + length vs ≡ length vs = omega arith in ap (λ (k : ℕ). vs ++ drop k out) e

-- a run written in front of another
pub written-before : (out : List ℕ) (at : ℕ) (vs ws : List ℕ) (place : ℕ) → place ≡ at + length vs → place ≤ length out
    → written (written out place ws) at vs ≡ written out at (vs ++ ws)
unfolding written
written-before out at vs ws place p room = grind (arith, common_steps)
