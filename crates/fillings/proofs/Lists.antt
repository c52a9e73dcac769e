-- The numbers below 2 ^ (n * k) are the lists of n words below 2 ^ k, each once.
use Rattle.std.proofs.Common.{ℕ, zero, suc, ◌+◌, ◌*◌, ◌/◌, ◌%◌, ◌^◌, ◌<◌, ◌≡◌, sym, ◌∙◌, ap, ap₂, subst, List, [], ◌∷◌, length, slice_index}
use Rattle.std.proofs.Common.{drop, pow-add, pow_pos, shr_lt, suc-mul, zero-mul, mod-lt, arith}
use Rattle.std.proofs.Math.Arith.{digits_lt}
use Rattle.std.proofs.Math.Pow.{split, high, low}
use Rattle.std.proofs.lemmas.Grind.{common_steps}
use Rattle.std.specs.List.{AllByRecursion}
use Rattle.fillings.specs.Counts.{words_of, lists}
use Rattle.fillings.specs.Promises.{Words, NumberedList, AllLists}

-- one word more
pub lists-suc : (n k : ℕ) → lists (suc n) k ≡ 2 ^ (n * k + k)
lists-suc n k = ap (λ (m : ℕ). 2 ^ m) (suc-mul n k)

numbered-more : (n k w : ℕ) (ws : List ℕ) → w < 2 ^ k → NumberedList n k ws → NumberedList (suc n) k (w ∷ ws)
unfolding words_of
numbered-more n k w ws l r =
    let x : ℕ = r.number * 2 ^ k + w in
    record {
      number = x;
      low = subst (λ (m : ℕ). x < m) (sym (pow-add 2 (n * k) k) ∙ sym (lists-suc n k)) (digits_lt r.low l);
      same = ap₂ (λ (a : ℕ) (s : List ℕ). a ∷ s) (low r.number k l) (ap (words_of n k) (high r.number k l) ∙ r.same);
      only = λ y b e.
          let h : y % 2 ^ k ≡ w = ap (λ (s : List ℕ). slice_index s 0) e in
          let q : words_of n k (y / 2 ^ k) ≡ ws = ap (drop 1) e in
          let d : y / 2 ^ k ≡ r.number = r.only (y / 2 ^ k) (shr_lt (n * k) k (subst (λ (m : ℕ). y < m) (lists-suc n k) b)) q in
          sym (split y k) ∙ ap₂ (λ (a c : ℕ). a * 2 ^ k + c) d h;
    }

numbered : (n k : ℕ) (ws : List ℕ) → length ws ≡ n → AllByRecursion (λ (w : ℕ). w < 2 ^ k) ws → NumberedList n k ws
unfolding words_of
numbered zero k [] e a = grind (arith, common_steps, low, zero-mul)
numbered zero k (w ∷ ws) e a = grind (arith, common_steps)
numbered (suc n) k [] e a = grind (arith, common_steps)
numbered (suc n) k (w ∷ ws) e a = grind (arith, common_steps, numbered n k ws (omega arith) a.1, numbered-more)

each-words : (n k x : ℕ) → Words n k (words_of n k x)
unfolding words_of
each-words zero k x = grind (arith, common_steps, low)
each-words (suc n) k x = grind (arith, common_steps, each-words n k, pow_pos, low, mod-lt)

pub all-lists : AllLists
all-lists = record { each = each-words; once = λ n k words a. numbered n k words a.many a.low }
