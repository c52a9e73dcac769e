-- The turns in which numbers become records: those from place v on stand.
use Rattle.std.proofs.Common.{ℕ, suc, ◌+◌, ◌*◌, ◌-◌, ◌/◌, ◌%◌, ◌≤◌, ◌<◌, ◌≡◌, refl, sym, ◌∙◌, ap, List, ◌++◌, arith, length, take, drop, append_assoc}
use Rattle.std.proofs.Common.{length-take-le}
use Rattle.std.proofs.Math.Seq.{drop-append_seam}
use Rattle.std.proofs.lemmas.Grind.{common_steps}
use Rattle.words.specs.lists.Sequences.{written}
use Rattle.text.specs.frames.Frame.{size}
use Rattle.little_charts.specs.inner.Search.{node_at}
use Rattle.little_fetch.specs.inner.Trails.{unpacked}
use Rattle.little_fetch.specs.inner.SeekContracts.{FewFrames}

pub record Unpacking (rs₀ : List ℕ) (numbers n : ℕ) (rs : List ℕ) (v rest : ℕ) : Type 0 where
  pub few : FewFrames rs₀
  pub count : n ≡ size rs₀
  pub inside : v ≤ n
  pub long : length rs ≡ length rs₀
  pub same : unpacked n v rest ++ drop (10 * v) rs ≡ unpacked n n numbers

pub node-ten : (n i : ℕ) → length (node_at n i) ≡ 10
unfolding node_at
node-ten n i = grind (arith, common_steps)

-- what stands from a place on after a record was written there
written-from : (rs r : List ℕ) (at : ℕ) → at ≤ length rs → drop at (written rs at r) ≡ r ++ drop (at + length r) rs
unfolding written
written-from rs r at l =
    ap (λ (m : ℕ). drop m (take at rs ++ (r ++ drop (at + length r) rs))) (sym (length-take-le at rs l))
    ∙ drop-append_seam (take at rs) (r ++ drop (at + length r) rs)

module _ (rs₀ : List ℕ) (numbers n : ℕ) (rs : List ℕ) (v rest : ℕ) (k : Unpacking rs₀ numbers n rs v rest) where
  pub unpacking-on : 0 < v → (ten out : List ℕ) → ten ≡ node_at n (rest % 32) → length out ≡ length rs → out ≡ written rs (10 * (v - 1)) ten
      → Unpacking rs₀ numbers n out (v - 1) (rest / 32)
  unfolding unpacked
  unpacking-on l ten out e m w =
      let u : ℕ = v - 1 in
      let s : v ≡ suc u = omega arith in
      let t : length ten ≡ 10 = ap length e ∙ node-ten n (rest % 32) in
      let room : 10 * u ≤ length rs = omega (arith, k.long, k.few.whole, k.inside, k.count) in
      let d : 10 * u + length ten ≡ 10 * v = omega arith in
      let from : drop (10 * u) out ≡ ten ++ drop (10 * v) rs =
      ap (drop (10 * u)) w ∙ written-from rs ten (10 * u) room ∙ ap (λ (j : ℕ). ten ++ drop j rs) d in
      record {
        few = k.few;
        count = k.count;
        inside = omega (arith, k.inside);
        long = m ∙ k.long;
        same = ap (λ (xs : List ℕ). unpacked n u (rest / 32) ++ xs) (from ∙ ap (λ (xs : List ℕ). xs ++ drop (10 * v) rs) e)
            ∙ sym (append_assoc (unpacked n u (rest / 32)) (node_at n (rest % 32)) (drop (10 * v) rs))
            ∙ ap (λ (xs : List ℕ). xs ++ drop (10 * v) rs) (step u) ∙ ap (λ (j : ℕ). unpacked n j rest ++ drop (10 * v) rs) (sym s) ∙ k.same;
      }
    where
      step : (u : ℕ) → unpacked n u (rest / 32) ++ node_at n (rest % 32) ≡ unpacked n (suc u) rest
      step u = refl

  pub unpacking-done : v ≤ 0 → rs ≡ unpacked (size rs₀) (size rs₀) numbers
  unfolding unpacked
  unpacking-done l =
      let z : v ≡ 0 = omega arith in
      ap (λ (j : ℕ). unpacked n j rest ++ drop (10 * j) rs) (sym z) ∙ k.same ∙ ap (λ (m : ℕ). unpacked m m numbers) k.count

pub ruleset unpacking = (unpacking-on, unpacking-done)
