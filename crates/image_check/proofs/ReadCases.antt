-- Reading an image's text into a table: what a good text gives, and the two answers.
use Rattle.std.proofs.Common.{◌≡◌, refl, sym, ◌∙◌, ap, List, ℕ, ◌*◌, ◌/◌, ◌≤◌, arith, length, take, drop, take_at, Ok, Err}
use Rattle.text.specs.frames.Frame.{size, frame_count, contents}
use Rattle.text.specs.frames.Verdict.{fine}
use Rattle.text.specs.frames.Check.{text_verdict}
use Rattle.text.specs.frames.Read.{read_buffer}
use Rattle.text.specs.frames.Answer.{Answer, reply, verdict_reply}
use Rattle.text.specs.declared.frames.refusals.Refusal.{Refusal}
use Rattle.text.specs.frames.Refusal.{number_of, index_of}
use Rattle.text.proofs.frames.Contents.{text-told, any-contents-length}
use Rattle.text.proofs.frames.Reading.{read-fine}
use Rattle.text.proofs.frames.Chains.{next-refused, next-on, ok-fine, err-refused, err-judged}
use Rattle.image.specs.Check.{table_verdict, image_verdict}

-- an image's text of m frames that 1 to 3 let pass
pub record GoodText (t : List ℕ) (m : ℕ) : Type 0 where
  pub verdict : text_verdict 29831 t ≡ fine
  pub count : m ≡ frame_count t
  pub some : 1 ≤ m
  pub most : m ≤ 1297

pub good-text : (t : List ℕ) → text_verdict 29831 t ≡ fine → GoodText t (frame_count t)
good-text t v =
    let L = (text-told 29831 t v).length in
    let n : length t ≡ 0 → ⊥ = L.some in
    let s : 1 ≤ length t = some_or (length t) n in
    record { verdict = v; count = refl; some = omega (arith, L.whole); most = omega (arith, L.fits) }
  where
    some_or : (n : ℕ) → (n ≡ 0 → ⊥) → 1 ≤ n
    some_or Prim.Native.Nat.zero h = absurd (h refl)
    some_or (Prim.Native.Nat.suc n) h = omega arith

module _ (t : List ℕ) {a : Answer} (gives : reply a ≡ verdict_reply (text_verdict 29831 t) (frame_count t)) where
  pub read-good : {m : ℕ} → a ≡ Ok m → GoodText t m
  read-good {m} e =
      let d = ok-fine a (text_verdict 29831 t) (frame_count t) gives m e in
      let g = good-text t d.0 in
      record { verdict = d.0; count = d.1; some = omega (arith, g.some, d.1); most = omega (arith, g.most, d.1) }

  pub read-refused : {r : Refusal} → a ≡ Err r → reply (Err r) ≡ verdict_reply (image_verdict t) 0
  unfolding image_verdict
  read-refused {r} e =
      let p = err-refused a (text_verdict 29831 t) (frame_count t) gives r e in
      err-judged (image_verdict t) r 0
      (next-refused (text_verdict 29831 t) (λ _. table_verdict (contents t)) (number_of r) (index_of r) p.0) p.1

module _ {t : List ℕ} {m : ℕ} (g : GoodText t m) (old : List ℕ) {table : List ℕ} (e : table ≡ read_buffer 29831 t old) where
  pub contents-count : length (contents t) ≡ 10 * m
  contents-count = any-contents-length t ∙ ap (λ (n : ℕ). 10 * n) (sym g.count)

  pub front-contents : take (10 * m) table ≡ contents t
  front-contents =
      ap (λ (l : List ℕ). take (10 * m) l) (e ∙ read-fine 29831 t old g.verdict)
      ∙ take_at (contents t) (drop (length (contents t)) old) (10 * m) contents-count

  pub front-size : size (take (10 * m) table) ≡ m
  front-size = ap (λ (l : List ℕ). length l / 10) front-contents ∙ omega (arith, contents-count)

  pub front-length : 10 * m ≡ length (take (10 * m) table)
  front-length = sym (ap (λ (l : List ℕ). length l) front-contents ∙ contents-count)

  pub read-done : (a : Answer) → reply a ≡ verdict_reply (table_verdict (take (10 * m) table)) 0
      → reply a ≡ verdict_reply (image_verdict t) 0
  unfolding image_verdict
  read-done a r =
      r ∙ ap (λ (l : List ℕ). verdict_reply (table_verdict l) 0) front-contents
      ∙ sym (ap (λ w. verdict_reply w 0) (next-on (text_verdict 29831 t) (λ _. table_verdict (contents t)) g.verdict))
