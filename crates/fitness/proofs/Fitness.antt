-- What it says that a state fits an image (refusal 15), test by test.
use Rattle.std.proofs.Common.{ℕ, ◌+◌, ◌-◌, ◌≤◌, ◌<◌, Bool, true, false, ◌&&◌, ◌||◌, not, ◌≡◌, length, arith, lt-ltb, le-leb, nat_lt, nat_le}
use Rattle.std.proofs.Common.{leb-false}
use Rattle.std.proofs.lemmas.Grind.{common_steps}
use Rattle.words.specs.lists.Numbers.{any}
use Rattle.words.proofs.lists.Tests.{or-r, or-l, and-true, and-false, not-false}
use Rattle.words.proofs.lists.Searches.{any-false, any-none}
use Rattle.bindings.specs.Binding.{server_of}
use Rattle.image.specs.Image.{Image}
use Rattle.state.specs.State.{State, place_at, number_at, server_at, Sized}
use Rattle.fitness.proofs.Depths.{deep-told, deep-fine}
use Rattle.fitness.specs.Fitness.{is_callable, is_able_to_carry, is_unfit_place, is_filled_place, has_bad_bottom, is_badly_served}
use Rattle.fitness.specs.Fitness.{has_bad_depth, is_unfit}

-- place k may be kept under the one above it
abbrev pub is_carried : Image → State → ℕ → Bool
is_carried i s k = is_able_to_carry i (place_at s k) (number_at s (k + 1)) (server_at s (k + 1)) (place_at s (k + 1))

pub record Fits (i : Image) (s : State) : Type 0 where
  pub whole : Sized s
  pub small : s.size ≤ 32
  pub some : 1 ≤ s.depth
  pub most : s.depth ≤ s.size
  pub labels : (k : ℕ) → k < s.depth → place_at s k < length i.labels
  pub carries : (k : ℕ) → k + 1 < s.depth → is_carried i s k ≡ true
  pub bottom : has_bad_bottom i s ≡ false
  pub above : (k : ℕ) → s.depth ≤ k → k < 32 → is_filled_place s k ≡ false
  pub serves : (h : ℕ) → 2 ≤ h → h < 17 → is_badly_served i s h ≡ false

-- a chain of tests of which none holds
none-of : (a b c d e : Bool) → (a || b || c || d || e) ≡ false → (a ≡ false) × (b ≡ false) × (c ≡ false) × (d ≡ false) × (e ≡ false)
none-of a b c d e p = grind (arith, common_steps)

module _ (i : Image) (s : State) where
  -- place k may not carry the one above it
  abbrev strays : ℕ → Bool
  strays k = nat_lt (k + 1) s.depth && not (is_carried i s k)

  fits-place : Fits i s → (k : ℕ) → k < s.depth → is_unfit_place i s k ≡ false
  fits-place f k l = grind (arith, common_steps)

  pub fits : Fits i s → is_unfit i s ≡ false
  unfolding is_unfit
  fits f = rw (
    deep-fine s (record { some = f.some; most = f.most; small = f.small }),
    any-none (is_unfit_place i s) 0 s.depth (λ k l. fits-place f (0 + k) (omega arith)),
    f.bottom,
    any-none (is_filled_place s) s.depth (32 - s.depth) (λ k l. f.above (s.depth + k) (omega arith) (omega arith)),
    any-none (is_badly_served i s) 2 15 (λ k l. f.serves (2 + k) (omega arith) (omega arith)),
  )

  pub unfits : Sized s → is_unfit i s ≡ false → Fits i s
  unfolding is_unfit
  unfits w e =
      let none =
      none-of (has_bad_depth s) (any (is_unfit_place i s) 0 s.depth) (has_bad_bottom i s)
      (any (is_filled_place s) s.depth (32 - s.depth)) (any (is_badly_served i s) 2 15) e in
      let deep = deep-told s none.0 in
      record {
        whole = w;
        small = deep.small;
        some = deep.some;
        most = deep.most;
        labels = λ k l. leb-false (length i.labels) (place_at s k) (place none.1 k l).0;
        carries = λ k l. not-false _ (and-false (nat_lt (k + 1) s.depth) _
            (place none.1 k (omega arith)).1 (lt-ltb (k + 1) s.depth l));
        bottom = none.2;
        above = λ k l m. any-false (is_filled_place s) s.depth (32 - s.depth) none.3 k l (omega arith);
        serves = λ h l m. any-false (is_badly_served i s) 2 15 none.4 h l (omega arith);
      }
    where
      place : any (is_unfit_place i s) 0 s.depth ≡ false → (k : ℕ) → k < s.depth
          → (nat_le (length i.labels) (place_at s k) ≡ false) × (strays k ≡ false)
      place q k l =
          let p : is_unfit_place i s k ≡ false = any-false (is_unfit_place i s) 0 s.depth q k (omega arith) (omega arith) in
          (or-l (nat_le (length i.labels) (place_at s k)) (strays k) p, or-r (nat_le (length i.labels) (place_at s k)) (strays k) p)

-- ---- who may be called, and who serves
module _ (i : Image) where
  pub callable-range : (k : ℕ) → is_callable i k ≡ true → (2 ≤ k) × (k ≤ length i.entries)
  callable-range k e = grind (arith, common_steps)

  pub range-callable : (k : ℕ) → 2 ≤ k → k ≤ length i.entries → is_callable i k ≡ true
  range-callable k a b = and-true (nat_le 2 k) (nat_le k (length i.entries)) (le-leb 2 k a) (le-leb k (length i.entries) b)

  -- every number of 2 to H is served by a scheme of 2 to H
  pub called-served : length i.entries ≤ 16 → (s : State) → Fits i s → (h : ℕ) → 2 ≤ h → h ≤ length i.entries
      → is_callable i (server_of s.serving h) ≡ true
  called-served few s f h two most = grind (arith, common_steps)

  pub fits-serves : length i.entries ≤ 16 → (s : State) → Fits i s → (h : ℕ) → 2 ≤ h → h ≤ length i.entries
      → (2 ≤ server_of s.serving h) × (server_of s.serving h ≤ length i.entries)
  fits-serves few s f h two most = callable-range (server_of s.serving h) (called-served few s f h two most)
