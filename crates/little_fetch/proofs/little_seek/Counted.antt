-- How many charts begin with each record: all are counted.
use Rattle.std.proofs.Common.{ℕ, ◌≤◌, ◌<◌, ◌≡◌, refl, sym, ◌∙◌, ap, subst, map, List, length, arith, slice_index_or, zero-add}
use Rattle.std.proofs.Math.Decide.{ℕ_discrete}
use Rattle.words.specs.lists.Numbers.{range}
use Rattle.words.proofs.lists.Ranges.{get_or-map-range}
use Rattle.little_fetch.specs.inner.Trails.{arcs_from, reached, led_to, is_barred, with_node, is_cut_off, start, trails, charts_after, past_number}
use Rattle.little_fetch.proofs.little_seek.Turns.{tried}

-- a frame count is 2, 3 or 4
pub by-count : (P : ℕ → Type 0) → P 2 → P 3 → P 4 → (n : ℕ) → 2 ≤ n → n ≤ 4 → P n
by-count P two three four n a b = go (ℕ_discrete n 2) (ℕ_discrete n 3)
  where
    go : Dec (n ≡ 2) → Dec (n ≡ 3) → P n
    go (yes e) d = subst P (sym e) two
    go (no x) (yes e) = subst P (sym e) three
    go (no x) (no y) = subst P (sym (omega arith)) four

abbrev pub charts_in : ℕ → ℕ → ℕ
charts_in n i = length (tried n 0 start i)

after-two : map (charts_in 2) (range 0 3) ≡ map (charts_after 2) (range 0 3)
unfolding arcs_from reached led_to is_barred with_node is_cut_off trails charts_after
after-two = refl

after-three : map (charts_in 3) (range 0 19) ≡ map (charts_after 3) (range 0 19)
unfolding arcs_from reached led_to is_barred with_node is_cut_off trails charts_after
after-three = refl

after-four : map (charts_in 4) (range 0 29) ≡ map (charts_after 4) (range 0 29)
unfolding arcs_from reached led_to is_barred with_node is_cut_off trails charts_after
after-four = refl

at-number : (f g : ℕ → ℕ) (m i : ℕ) → map f (range 0 m) ≡ map g (range 0 m) → i < m → g i ≡ f i
at-number f g m i e l =
    sym (get_or-map-range g 0 0 m i l ∙ ap g (zero-add i)) ∙ ap (λ (xs : List ℕ). slice_index_or xs i 0) (sym e)
    ∙ get_or-map-range f 0 0 m i l ∙ ap f (zero-add i)

pub counted : (n : ℕ) → 2 ≤ n → n ≤ 4 → (i : ℕ) → i < past_number n 0 start → charts_after n i ≡ charts_in n i
counted = by-count (λ n. (i : ℕ) → i < past_number n 0 start → charts_after n i ≡ charts_in n i)
    (λ i. at-number (charts_in 2) (charts_after 2) 3 i after-two)
    (λ i. at-number (charts_in 3) (charts_after 3) 19 i after-three)
    (λ i. at-number (charts_in 4) (charts_after 4) 29 i after-four)
