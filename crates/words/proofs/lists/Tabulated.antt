-- Lists given by a function of the place: what stands in them, and one place set.
use Rattle.std.proofs.Common.{◌≡◌, sym, ◌∙◌, ap, List, ℕ, ◌<◌, zero-add, arith, length, set, replicate, length-set, ext_get_or, slice_index}
use Rattle.std.proofs.Common.{get_or-set_same, get_or-set_other}
use Rattle.std.proofs.Math.Decide.{ℕ_discrete}
use Rattle.std.proofs.Math.ListN.{length-replicate, get_or-replicate}
use Rattle.words.specs.lists.Numbers.{tabulate}
use Rattle.words.proofs.lists.Ranges.{length-map-range, get_or-map-range}
use Rattle.std.proofs.lemmas.Grind.{common_steps}

pub length-tabulate : (f : ℕ → ℕ) (n : ℕ) → length (tabulate f n) ≡ n
unfolding tabulate
length-tabulate f n = length-map-range f 0 n

pub get_d-tabulate : (f : ℕ → ℕ) (n u : ℕ) → u < n → slice_index (tabulate f n) u ≡ f u
unfolding tabulate
get_d-tabulate f n u l = get_or-map-range f 0 0 n u l ∙ ap f (zero-add u)

-- a list with these numbers
pub tabulate-is : (f : ℕ → ℕ) (n : ℕ) (xs : List ℕ) → length xs ≡ n → ((u : ℕ) → u < n → slice_index xs u ≡ f u) → xs ≡ tabulate f n
tabulate-is f n xs e h = ext_get_or 0 xs (tabulate f n) (e ∙ sym (length-tabulate f n))
    (λ u l. h u (omega arith) ∙ sym (get_d-tabulate f n u (omega arith)))

pub tabulate-alike : (f g : ℕ → ℕ) (n : ℕ) → ((u : ℕ) → u < n → f u ≡ g u) → tabulate f n ≡ tabulate g n
tabulate-alike f g n h = tabulate-is g n (tabulate f n) (length-tabulate f n) (λ u l. get_d-tabulate f n u l ∙ h u l)

pub tabulate-set : (f g : ℕ → ℕ) (n v x : ℕ) → v < n → x ≡ g v → ((u : ℕ) → (u ≡ v → ⊥) → f u ≡ g u) → set (tabulate f n) v x ≡ tabulate g n
tabulate-set f g n v x l e h =
    tabulate-is g n (set (tabulate f n) v x) (length-set (tabulate f n) v x ∙ length-tabulate f n) (λ u lu. go u lu (ℕ_discrete u v))
  where
    go : (u : ℕ) → u < n → Dec (u ≡ v) → slice_index (set (tabulate f n) v x) u ≡ g u
    go u lu (yes q) = grind (arith, common_steps, get_or-set_same, length-tabulate)
    go u lu (no q) = get_or-set_other (tabulate f n) v u x 0 q ∙ get_d-tabulate f n u lu ∙ h u q

pub tabulate-none : (f : ℕ → ℕ) (n : ℕ) → ((u : ℕ) → f u ≡ 0) → replicate n 0 ≡ tabulate f n
tabulate-none f n h = tabulate-is f n (replicate n 0) (length-replicate n 0) (λ u l. get_or-replicate n u 0 0 l ∙ sym (h u))
