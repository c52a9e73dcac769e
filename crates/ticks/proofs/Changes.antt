-- Changes of a state that keep it fitting a sound image:
-- the top replaced, a scheme opened above it, the top taken off, one scheme left alone.
use Rattle.std.proofs.Common.{ℕ, zero, suc, ◌+◌, ◌-◌, ◌≤◌, ◌<◌, true, false, ◌&&◌, not, ◌≡◌, refl, ap, ap₂, ◌∙◌, sym, subst, ◌==◌}
use Rattle.std.proofs.Common.{◌⊎◌, inl, inr, slice_index, List, length, set, length-set, get_or-set_same, get_or-set_other, arith}
use Rattle.std.proofs.Math.ListN.{get_or-replicate}
use Rattle.std.proofs.lemmas.Grind.{common_steps}
use Rattle.words.proofs.lists.Tests.{split}
use Rattle.results.specs.Results.{Results}
use Rattle.image.specs.Image.{Image}
use Rattle.image.specs.inner.Sound.{Reaches, SoundImage}
use Rattle.state.specs.State.{State, bottom_alone, label_at, place_at, number_at, server_at}
use Rattle.state.specs.Changes.{with_place, with_bits}
use Rattle.fitness.specs.Fitness.{is_able_to_carry, is_filled_place, is_own_bottom, has_bad_bottom}
use Rattle.fitness.proofs.Fitness.{is_carried, Fits}
use Rattle.ticks.specs.Tick.{popped_state, state_alone, opened_state}
use Rattle.ticks.proofs.Leads.{carry-leads, has_bad_bottom_by, bottom-leads}

-- a list of 32 with one element set, at that place and at others
module _ (xs : List ℕ) (d x : ℕ) where
  set-same : length xs ≡ 32 → d < 32 → slice_index (set xs d x) d ≡ x
  set-same e l = get_or-set_same xs d x 0 (omega arith)

  set-at : length xs ≡ 32 → d < 32 → (k : ℕ) → k ≡ d → slice_index (set xs d x) k ≡ x
  set-at e l k q = ap (λ (j : ℕ). slice_index (set xs d x) j) q ∙ set-same e l

  set-other : (k : ℕ) → (k ≡ d → ⊥) → slice_index (set xs d x) k ≡ slice_index xs k
  set-other k ne = get_or-set_other xs d k x 0 ne

pub only-zero : (l k : ℕ) → 1 ≤ k → k < 32 → slice_index (bottom_alone l) k ≡ 0
only-zero l zero a b = absurd (omega arith)
only-zero l (suc k) a b = get_or-replicate 31 k 0 0 (omega arith)

module _ (i : Image) (sound : SoundImage i) where
  -- ---- states that hold the same at some places
  module _ (s t : State) where
    same-filled : (k : ℕ) → place_at t k ≡ place_at s k → number_at t k ≡ number_at s k
        → server_at t k ≡ server_at s k → is_filled_place t k ≡ is_filled_place s k
    same-filled k a b c = grind (arith, common_steps)

  -- bits are free
  pub bits-fit : (s : State) (b : Results) → Fits i s → Fits i (with_bits s b)
  bits-fit s b f = grind (arith, common_steps)

  pub replaced-fits : (s : State) (u : ℕ) → Fits i s → (place_at s (s.depth - 1) ≡ 1 → ⊥)
      → Reaches i (label_at i (place_at s (s.depth - 1))).owner u → Fits i (with_place s (s.depth - 1) u)
  replaced-fits s u f ne r = record {
    whole = record {
      places = length-set s.places (s.depth - 1) u ∙ f.whole.places;
      serving = f.whole.serving;
      numbers = f.whole.numbers;
      servers = f.whole.servers;
    };
    small = f.small;
    some = f.some;
    most = f.most;
    labels = labels;
    carries = λ k l. carries k l (split (k + 1) (s.depth - 1));
    bottom = bottom (split 0 (s.depth - 1));
    above = λ k l m. same-filled s t k (other k (λ p. omega (arith, f.some))) refl refl ∙ f.above k l m;
    serves = f.serves;
  }
    where
      t : State
      t = with_place s (s.depth - 1) u

      same : (k : ℕ) → k ≡ s.depth - 1 → place_at t k ≡ u
      same = set-at s.places (s.depth - 1) u f.whole.places (omega (arith, f.some, f.most, f.small))

      other : (k : ℕ) → (k ≡ s.depth - 1 → ⊥) → place_at t k ≡ place_at s k
      other = set-other s.places (s.depth - 1) u

      labels : (k : ℕ) → k < s.depth → place_at t k < length i.labels
      labels k l = grind (arith, common_steps, same, other, f.labels k l, r)

      carries : (k : ℕ) → k + 1 < s.depth → (k + 1 < s.depth - 1) ⊎ (s.depth - 1 ≤ k + 1) → is_carried i t k ≡ true
      carries k l (inl p) = grind (arith, common_steps, other, f.carries k l)
      carries k l (inr p) =
          let q : k + 1 ≡ s.depth - 1 = omega arith in
          let into : Reaches i (label_at i (place_at s (k + 1))).owner u = rw q r in
          let led = carry-leads i sound (place_at s k) (number_at s (k + 1)) (server_at s (k + 1)) (place_at s (k + 1)) u
          (λ z. ne (ap (place_at s) (sym q) ∙ z)) (f.carries k l) into in
          ap₂ (λ (x y : ℕ). is_able_to_carry i x (number_at s (k + 1)) (server_at s (k + 1)) y) (other k (λ z. omega arith)) (same (k + 1) q)
          ∙ led

      bottom : (0 < s.depth - 1) ⊎ (s.depth - 1 ≤ 0) → has_bad_bottom i t ≡ false
      bottom (inl p) = grind (arith, common_steps, other 0, f.bottom)
      bottom (inr p) =
          let q : s.depth - 1 ≡ 0 = omega arith in
          ap (λ (x : ℕ). has_bad_bottom_by i sound x (is_own_bottom s 1) (is_own_bottom s i.handler)) (same 0 (sym q))
          ∙ bottom-leads i sound (place_at s (s.depth - 1)) u (is_own_bottom s 1) (is_own_bottom s i.handler) ne (rw q f.bottom) r

  pub opening-fits : (s : State) (l h k : ℕ) (b : Results) → Fits i s → s.depth < s.size → l < length i.labels
      → is_able_to_carry i (place_at s (s.depth - 1)) h k l ≡ true → Fits i (opened_state s l h k b)
  opening-fits s l h k b f room low c = record {
    whole = record {
      places = length-set s.places d l ∙ f.whole.places;
      serving = f.whole.serving;
      numbers = length-set s.numbers d h ∙ f.whole.numbers;
      servers = length-set s.servers d k ∙ f.whole.servers;
    };
    small = f.small;
    some = omega arith;
    most = room;
    labels = labels;
    carries = λ j m. carries j m (split (j + 1) d);
    bottom = bottom;
    above = above;
    serves = f.serves;
  }
    where
      d : ℕ
      d = s.depth

      t : State
      t = opened_state s l h k b

      deep : d < 32
      deep = omega (arith, f.small)

      place : (j : ℕ) → (j ≡ d → ⊥) → place_at t j ≡ place_at s j
      place = set-other s.places d l

      number : (j : ℕ) → (j ≡ d → ⊥) → number_at t j ≡ number_at s j
      number = set-other s.numbers d h

      server : (j : ℕ) → (j ≡ d → ⊥) → server_at t j ≡ server_at s j
      server = set-other s.servers d k

      bottom : has_bad_bottom i t ≡ false
      bottom = grind (arith, common_steps, place, number, server, f.bottom, f.some)

      above : (j : ℕ) → suc d ≤ j → j < 32 → is_filled_place t j ≡ false
      above j a m = grind (arith, common_steps, place, number, server, f.above j)

      labels : (j : ℕ) → j < suc d → place_at t j < length i.labels
      labels j m = grind (arith, common_steps, place, set-at s.places d l f.whole.places deep, f.labels j)

      carries : (j : ℕ) → j + 1 < suc d → (j + 1 < d) ⊎ (d ≤ j + 1) → is_carried i t j ≡ true
      carries j m (inl p) = grind (arith, common_steps, place, number, server, f.carries j p)
      carries j m (inr p) =
          let q : j + 1 ≡ d = omega arith in
          let z : j ≡ d - 1 = omega arith in
          let under : place_at t j ≡ place_at s (d - 1) = place j (λ e. omega arith) ∙ ap (place_at s) z in
          grind (
            arith,
            common_steps,
            under,
            set-at s.places d l f.whole.places deep (j + 1) q,
            set-at s.numbers d h f.whole.numbers deep (j + 1) q,
            set-at s.servers d k f.whole.servers deep (j + 1) q,
            c,
          )

  pub dropping-fits : (s : State) (b : Results) → Fits i s → 2 ≤ s.depth → Fits i (popped_state s b)
  dropping-fits s b f two = record {
    whole = record {
      places = length-set s.places d 0 ∙ f.whole.places;
      serving = f.whole.serving;
      numbers = length-set s.numbers d 0 ∙ f.whole.numbers;
      servers = length-set s.servers d 0 ∙ f.whole.servers;
    };
    small = f.small;
    some = omega arith;
    most = omega (arith, f.most);
    labels = labels;
    carries = carries;
    bottom = bottom;
    above = above;
    serves = f.serves;
  }
    where
      d : ℕ
      d = s.depth - 1

      t : State
      t = popped_state s b

      deep : d < 32
      deep = omega (arith, f.most, f.small)

      place : (k : ℕ) → (k ≡ d → ⊥) → place_at t k ≡ place_at s k
      place = set-other s.places d 0

      number : (k : ℕ) → (k ≡ d → ⊥) → number_at t k ≡ number_at s k
      number = set-other s.numbers d 0

      server : (k : ℕ) → (k ≡ d → ⊥) → server_at t k ≡ server_at s k
      server = set-other s.servers d 0

      labels : (k : ℕ) → k < d → place_at t k < length i.labels
      labels k l = grind (arith, common_steps, place, f.labels k)

      carries : (k : ℕ) → k + 1 < d → is_carried i t k ≡ true
      carries k l = grind (arith, common_steps, place, number, server, f.carries k)

      bottom : has_bad_bottom i t ≡ false
      bottom = grind (arith, common_steps, place, number, server, f.bottom, two)

      above : (k : ℕ) → d ≤ k → k < 32 → is_filled_place t k ≡ false
      above k l m =
          grind (
            arith,
            common_steps,
            place,
            number,
            server,
            f.above k,
            set-at s.places d 0 f.whole.places deep,
            set-at s.numbers d 0 f.whole.numbers deep,
            set-at s.servers d 0 f.whole.servers deep,
          )

  pub alone-fits : (s : State) (l h : ℕ) (b : Results) → Fits i s → l < length i.labels
      → has_bad_bottom_by i sound l (h == 1 && h == 1) (h == i.handler && h == i.handler) ≡ false → Fits i (state_alone s l h b)
  alone-fits s l h b f low o = record {
    whole = record { places = refl; serving = f.whole.serving; numbers = refl; servers = refl };
    small = f.small;
    some = omega arith;
    most = omega (arith, f.some, f.most);
    labels = λ k m. subst (λ (j : ℕ). slice_index (bottom_alone l) j < length i.labels) (let z : 0 ≡ k = omega arith in z) low;
    carries = λ k m. absurd (omega arith);
    bottom = o;
    above = λ k a m. ap₂ (λ (x y : ℕ). not (x == 0 && y == 0 && y == 0)) (only-zero l k a m) (only-zero h k a m);
    serves = f.serves;
  }
