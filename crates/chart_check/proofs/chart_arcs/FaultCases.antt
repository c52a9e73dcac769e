-- What the searches for bad arcs and bad calls tell of the verdict.
use Rattle.std.proofs.Common.{◌≡◌, refl, sym, ◌∙◌, Bool, ◌||◌, ℕ, Option, None, Some, find}
use Rattle.std.specs.List.{range_with_len}
use Rattle.text.specs.frames.Verdict.{Verdict, fine, refused, next, at_lowest}
use Rattle.text.proofs.frames.Chains.{next-on, next-refused}
use Rattle.chart_check.proofs.Found.{found-refused, none-fine, neither-found, second-found}

module _ (p q : ℕ → Bool) (n : ℕ) where
  abbrev verdict : Verdict
  verdict = next (at_lowest 6 p n) λ _. at_lowest 7 q n

  module _ (fault : Option ℕ) (ef : fault ≡ find (λ v. p v || q v) (range_with_len 0 n)) where
    pub no-fault : fault ≡ None → verdict ≡ fine
    no-fault none =
        let neither = neither-found p q 0 n (sym ef ∙ none) in
        next-on _ _ (none-fine 6 p n None (sym neither.0) refl) ∙ none-fine 7 q n None (sym neither.1) refl

    module _ (arc : Option ℕ) (ea : arc ≡ find p (range_with_len 0 n)) where
      pub arc-fault : (v : ℕ) → arc ≡ Some v → verdict ≡ refused 6 v
      arc-fault v some = next-refused _ _ 6 v (found-refused 6 p n arc ea v some)

      pub call-fault : (v : ℕ) → arc ≡ None → fault ≡ Some v → verdict ≡ refused 7 v
      call-fault v none some =
          next-on _ _ (none-fine 6 p n arc ea none) ∙ found-refused 7 q n fault (ef ∙ second-found p q 0 n (sym ea ∙ none)) v some
