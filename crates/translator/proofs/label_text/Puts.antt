-- Bytes put into a buffer one after the other, at plain values.
use Rattle.std.proofs.Common.{◌≡◌, refl, sym, ◌∙◌, ap, subst, List, [], ◌++◌, ℕ, zero, suc, ◌+◌, ◌-◌, ◌≤◌, ◌<◌, zero-add, add-zero, add-one}
use Rattle.std.proofs.Common.{arith, length, length-append}
use Rattle.std.proofs.lemmas.Grind.{common_steps}
use Rattle.words.specs.lists.Sequences.{written}
use Rattle.words.proofs.lists.Joins.{concat-range-snoc}
use Rattle.words.proofs.lists.Written.{written-none, written-length, written-more, written-before}
use Rattle.translator.specs.inner.LabelBytes.{up_to, Put}

-- ---- bytes put, and others put after them
pub put-length : {out out' t : List ℕ} {at r : ℕ} → at + length t ≤ length out → Put out at t r out' → length out' ≡ length out
put-length {out} {out'} {t} {at} h p = ap (λ (x : List ℕ). length x) p.holds ∙ written-length out at t h

pub record Parted (t a b : List ℕ) : Type 0 where
  pub parts : t ≡ a ++ b

module _ {t a b : List ℕ} (d : Parted t a b) where
  lengths : length t ≡ length a + length b
  lengths = ap (λ (x : List ℕ). length x) d.parts ∙ length-append a b

  pub both-first : (at n : ℕ) → at + length t ≤ n → at + length a ≤ n
  both-first at n h = omega (arith, lengths)

  module _ {out out₁ : List ℕ} {at mid : ℕ} (h : at + length t ≤ length out) (p : Put out at a mid out₁) where
    pub both-second : mid + length b ≤ length out₁
    both-second = omega (arith, lengths, p.ends, put-length (both-first at (length out) h) p)

    pub both-done : {out₂ : List ℕ} {r : ℕ} → Put out₁ mid b r out₂ → Put out at t r out₂
    both-done {out₂} q = grind (arith, common_steps, written-more, lengths)

-- both in one, where the second is put after the first, and where it is put in front of it
pub put-after : {out out₁ out₂ a b : List ℕ} {at mid r : ℕ} → mid ≤ length out → Put out at a mid out₁ → Put out₁ mid b r out₂
    → Put out at (a ++ b) r out₂
put-after room p q = grind (arith, common_steps, written-more, length-append)

pub put-before : {out out₁ out₂ a b : List ℕ} {at mid r : ℕ} → mid ≤ length out → Put out mid b r out₁ → Put out₁ at a mid out₂
    → Put out at (a ++ b) r out₂
put-before room p q = grind (arith, common_steps, written-before, length-append)

pub nothing-put : (out t : List ℕ) (at : ℕ) → t ≡ [] → Put out at t at out
nothing-put out t at e = grind (arith, common_steps, written-none)

pub put-as : {out out' out'' t : List ℕ} {at r r' : ℕ} → r' ≡ r → out'' ≡ out' → Put out at t r out' → Put out at t r' out''
put-as e q p = record { ends = e ∙ p.ends; holds = q ∙ p.holds }

pub room-as : (t u : List ℕ) (at n : ℕ) → t ≡ u → at + length t ≤ n → at + length u ≤ n
room-as t u at n e h = omega (arith, ap (λ (x : List ℕ). length x) e)

pub done-as : (t u out out' : List ℕ) (at r : ℕ) → t ≡ u → Put out at u r out' → Put out at t r out'
done-as t u out out' at r e q = subst (λ (x : List ℕ). Put out at x r out') (sym e) q

-- ---- pieces of any length, one a node
pub record Appended (piece : ℕ → List ℕ) (out₀ out : List ℕ) (at place n v : ℕ) : Type 0 where
  pub within : v ≤ n
  pub size : length out ≡ length out₀
  pub here : place ≡ at + length (up_to piece v)
  pub buffer : out ≡ written out₀ at (up_to piece v)

module _ (piece : ℕ → List ℕ) where
  up-more : (v : ℕ) → up_to piece (v + 1) ≡ up_to piece v ++ piece v
  up-more v = ap (up_to piece) (add-one v) ∙ concat-range-snoc piece 0 v ∙ ap (λ (k : ℕ). up_to piece v ++ piece k) (zero-add v)

  up-mono : (u d : ℕ) → length (up_to piece u) ≤ length (up_to piece (u + d))
  up-mono u zero = omega (arith, ap (λ (k : ℕ). length (up_to piece k)) (add-zero u))
  up-mono u (suc d) =
      let n : u + suc d ≡ u + d + 1 = omega arith in
      let e : up_to piece (u + suc d) ≡ up_to piece (u + d + 1) = ap (up_to piece) n in
      omega (arith, up-mono u d, ap (λ (x : List ℕ). length x) (e ∙ up-more (u + d)) ∙ length-append (up_to piece (u + d)) (piece (u + d)))

  pub appended-start : (out : List ℕ) (at n : ℕ) → Appended piece out out at at n 0
  appended-start out at n = record { within = omega arith; size = refl; here = omega arith; buffer = sym (written-none out at) }

  module _ (out₀ out : List ℕ) (at place n v : ℕ) (t : Appended piece out₀ out at place n v) where
    module _ (l : v < n) (room : at + length (up_to piece n) ≤ length out₀) where
      upper : length (up_to piece v) + length (piece v) ≤ length (up_to piece n)
      upper =
          let m : v + 1 + (n - (v + 1)) ≡ n = omega arith in
          let e : up_to piece (v + 1 + (n - (v + 1))) ≡ up_to piece n = ap (up_to piece) m in
          omega (
            arith,
            up-mono (v + 1) (n - (v + 1)),
            ap (λ (x : List ℕ). length x) e,
            ap (λ (x : List ℕ). length x) (up-more v) ∙ length-append (up_to piece v) (piece v),
          )

      pub appended-room : place + length (piece v) ≤ length out
      appended-room = omega (arith, upper, t.here, t.size)

      pub appended-on : (out' : List ℕ) (place' : ℕ) → Put out place (piece v) place' out' → Appended piece out₀ out' at place' n (v + 1)
      appended-on out' place' p =
          let q : Put out₀ at (up_to piece (v + 1)) place' out' =
          both-done (record { parts = up-more v })
          (omega (arith, upper, ap (λ (x : List ℕ). length x) (up-more v) ∙ length-append (up_to piece v) (piece v)))
          (record { ends = t.here; holds = t.buffer }) p in
          record { within = omega arith; size = put-length appended-room p ∙ t.size; here = q.ends; buffer = q.holds }

    pub appended-done : n ≤ v → out ≡ written out₀ at (up_to piece n)
    appended-done h = let e : v ≡ n = omega (arith, t.within) in t.buffer ∙ ap (λ (k : ℕ). written out₀ at (up_to piece k)) e
