-- How a tick goes on from a state that fits: by the row of the label that it leaves and nothing else of the word, or without a row.
use Rattle.std.proofs.Common.{if◌then◌else◌, ℕ, zero, suc, ◌+◌, ◌-◌, ◌≤◌, ◌<◌, Bool, true, false, ◌≡◌, refl, sym, ◌∙◌, ap, ◌⊎◌, inl, nat_le, ◌==◌, slice_index}
use Rattle.std.proofs.Common.{inr, arith, length, set, length-set, get_or-set_same, le-leb, leb-true, leb-false, eqb-true}
use Rattle.std.proofs.Common.{eq-eqb}
use Rattle.std.proofs.Math.Decide.{dec_lt}
use Rattle.std.proofs.lemmas.Grind.{common_steps}
use Rattle.words.proofs.lists.Tests.{or-cases, or-true-l, or-true-r}
use Rattle.results.specs.Results.{Results, with_result}
use Rattle.bindings.specs.Binding.{server_of}
use Rattle.image.specs.Image.{Image, Label, return_label, nth_row}
use Rattle.image.specs.inner.Sound.{SoundImage}
use Rattle.image.specs.Layout.{tick_kind}
use Rattle.rows.specs.Rows.{Choice, Found, found, missing, lead_of}
use Rattle.rows.proofs.ChoiceLaws.{any-bit}
use Rattle.state.specs.State.{State, label_at, place_at, number_at, server_at}
use Rattle.state.specs.Changes.{with_bits}
use Rattle.fitness.specs.Fitness.{is_call}
use Rattle.fitness.proofs.Fitness.{Fits}
use Rattle.ticks.specs.Tick.{called_bit, choice, MachineTick, finished, stopped, moved_tick, popped_state, pushed_tick}
use Rattle.ticks.specs.Tick.{popped_tick, tick_by, tick, top_of}
use Rattle.ticks.proofs.Leads.{Sort, home_sort, return_sort, numbered_sort, sort, call-kind, kind-high, carry-told}
use Rattle.cause.specs.Cause.{leaves_label, nothing, leaving_by, leaving}
use Rattle.cause.specs.Laws.{Arrives, Rowless, at_home_label, at_call_label, at_last_return}

-- a tick that takes a row of label l, one of 2 to M, goes by that row's next label alone, and has it on top then
pub record Goes (i : Image) (s : State) (l : ℕ) : Type 0 where
  pub low : 2 ≤ l
  pub high : l < length i.labels
  pub go : Found → MachineTick
  pub ticks : (w : ℕ) → tick i s w ≡ go (lead_of (choice i s.bits l w))
  pub arrives : (u : ℕ) → Arrives (go (found u)) u
  pub stops : go missing ≡ stopped 18

-- a tick that takes none is the same by every word, and does not get 18
pub record StaysPut (i : Image) (s : State) : Type 0 where
  pub rowless : Rowless i s
  pub same : (v w : ℕ) → tick i s v ≡ tick i s w
  pub never : (w : ℕ) → tick i s w ≡ stopped 18 → ⊥

pub data Leaves (i : Image) (s : State) : Type 0 where
  by : (l : ℕ) → leaving i s ≡ leaves_label l → Goes i s l → Leaves i s
  stays : leaving i s ≡ nothing → StaysPut i s → Leaves i s

-- a tick that is finished or gets another number
abbrev Other : MachineTick → Type 0
Other (finished m code t) = Unit {0}
Other (stopped n) = n ≡ 18 → ⊥

other-never : (x : MachineTick) → Other x → x ≡ stopped 18 → ⊥
other-never (finished m code t) o e = let z : ◌≡◌ {A = ℕ} 0 1 = cc in omega arith
other-never (stopped n) o e = o (let z : n ≡ 18 = cc in z)

module _ (i : Image) (sound : SoundImage i) (s : State) (f : Fits i s) where
  abbrev x : Label
  x = label_at i (top_of s)

  abbrev bits : Results
  bits = with_result x.result (number_at s (s.depth - 1)) s.bits

  tick-by : (w k : ℕ) → x.kind ≡ k → tick i s w ≡ tick_by i s w (top_of s) x bits (tick_kind k)
  unfolding tick
  tick-by w k e = ap (λ (n : ℕ). tick_by i s w (top_of s) x bits (tick_kind n)) e

  leaving-by : (k : ℕ) → x.kind ≡ k → leaving i s ≡ leaving_by s (tick_kind k)
  unfolding leaving
  leaving-by k e = ap (λ (n : ℕ). leaving_by s (tick_kind n)) e

  top-low : top_of s < length i.labels
  top-low = f.labels (s.depth - 1) (omega (arith, f.some))

  top-sort : Sort i sound (top_of s)
  top-sort = sort i sound (top_of s) top-low

  under-low : 1 < s.depth → place_at s (s.depth - 2) < length i.labels
  under-low h = f.labels (s.depth - 2) (omega arith)

  -- ---- a plain tick: no row of its label asks for a bit, so that the result written first changes nothing
  bit-free : (b : Results) → x.kind ≡ 0 → (w : ℕ) → choice i b (top_of s) w ≡ choice i s.bits (top_of s) w
  bit-free b e w = any-bit (top_of s) w (called_bit i b (top_of s)) (called_bit i s.bits (top_of s)) 0 i.rows each
    where
      each : (j : ℕ) → j < length i.rows → (nth_row i j).from ≡ top_of s → (nth_row i j).bit ≡ 2
      each j h q = go (dec_lt (nth_row i j).bit 2)
        where
          go : Dec ((nth_row i j).bit < 2) → (nth_row i j).bit ≡ 2
          go (yes m) =
              let k : (label_at i (nth_row i j).from).kind ≡ 2 = (sound.each j h).function m in
              absurd (omega (arith, ap (λ (l : ℕ). (label_at i l).kind) q))
          go (no m) = omega (arith, (sound.each j h).bits)

  plain : x.kind ≡ 0 → Goes i s (top_of s)
  plain e = record {
    low = kind-high i sound (top_of s) top-low (omega arith);
    high = top-low;
    go = moved_tick x.mask 0 (with_bits s bits) (s.depth - 1);
    ticks = λ w. tick-by w 0 e
        ∙ ap (λ (c : Choice). moved_tick x.mask 0 (with_bits s bits) (s.depth - 1) (lead_of c)) (bit-free bits e w);
    arrives = λ u. get_or-set_same s.places (s.depth - 1) u 0 (omega (arith, f.whole.places, f.some, f.most, f.small));
    stops = refl;
  }

  -- ---- a return
  return-is : x.kind ≡ 3 → (top_of s ≡ 1) × (x ≡ return_label)
  return-is e = grind (arith, common_steps)

  returns : x.kind ≡ 3 → (w : ℕ) → tick i s w ≡ popped_tick i s w 0 s.bits (nat_le s.depth 1)
  unfolding tick
  returns e w = grind (arith, common_steps)

  back : x.kind ≡ 3 → nat_le s.depth 1 ≡ false → Goes i s (place_at s (s.depth - 2))
  back e t = let two : 1 < s.depth = leb-false s.depth 1 t in record {
    low = kind-high i sound (place_at s (s.depth - 2)) (under-low two) (call-kind i sound (place_at s (s.depth - 2))
        (carry-told i sound _ (number_at s (s.depth - 2 + 1)) (server_at s (s.depth - 2 + 1)) (place_at s (s.depth - 2 + 1))
        (f.carries (s.depth - 2) (omega arith))).0).1;
    high = under-low two;
    go = moved_tick 0 3 (popped_state s s.bits) (s.depth - 2);
    ticks = λ w. returns e w ∙ ap (popped_tick i s w 0 s.bits) t;
    arrives = λ u.
        ap (λ (n : ℕ). slice_index (set (set s.places (s.depth - 1) 0) (s.depth - 2) u) n)
        (let z : s.depth - 1 - 1 ≡ s.depth - 2 = omega arith in z)
        ∙ get_or-set_same (set s.places (s.depth - 1) 0) (s.depth - 2) u 0
        (omega (arith, length-set s.places (s.depth - 1) 0, f.whole.places, f.most, f.small));
    stops = refl;
  }

  last-tick : x.kind ≡ 3 → nat_le s.depth 1 ≡ true → (w : ℕ) → tick i s w ≡ popped_tick i s 0 0 s.bits true
  last-tick e t w = returns e w ∙ ap (popped_tick i s w 0 s.bits) t

  ends : x.kind ≡ 3 → nat_le s.depth 1 ≡ true → StaysPut i s
  ends e t = record {
    rowless = at_last_return (return-is e).0 (let one : s.depth ≤ 1 = leb-true s.depth 1 t in omega (arith, f.some));
    same = λ v w. last-tick e t v ∙ sym (last-tick e t w);
    never = λ w q. other-never (popped_tick i s 0 0 s.bits true) tt (sym (last-tick e t w) ∙ q);
  }

  -- ---- a call, and home

  calls : (code : ℕ) → is_call x ≡ true
      → ((w : ℕ) → tick i s w ≡ pushed_tick i s x.mask code x.called (server_of s.serving x.called) bits (nat_le s.size s.depth))
      → StaysPut i s
  calls code e go = grind (arith, common_steps)

  starts : (k : ℕ) → x.kind ≡ suc (suc (suc (suc k))) → StaysPut i s
  starts k e = record {
    rowless = at_home_label (at top-sort);
    same = λ v w. tick-by v (suc (suc (suc (suc k)))) e ∙ sym (tick-by w (suc (suc (suc (suc k)))) e);
    never = λ w q. other-never _ tt (sym (tick-by w (suc (suc (suc (suc k)))) e) ∙ q);
  }
    where
      at : Sort i sound (top_of s) → top_of s ≡ 0
      at (home_sort z q o) = z
      at (return_sort z q o) = absurd (omega arith)
      at (numbered_sort z q) = absurd (omega arith)

  pub leaves : Leaves i s
  leaves = go x.kind refl
    where
      beneath : x.kind ≡ 3 → (t : Bool) → nat_le s.depth 1 ≡ t → Leaves i s
      beneath e true t = stays (leaving-by 3 e ∙ ap (λ (b : Bool). if b then nothing else leaves_label (place_at s (s.depth - 2))) t)
          (ends e t)
      beneath e false t =
          by (place_at s (s.depth - 2)) (leaving-by 3 e
          ∙ ap (λ (b : Bool). if b then nothing else leaves_label (place_at s (s.depth - 2))) t)
          (back e t)

      go : (k : ℕ) → x.kind ≡ k → Leaves i s
      go zero e = by (top_of s) (leaving-by 0 e) (plain e)
      go (suc zero) e =
          stays (leaving-by 1 e) (calls (16 + x.called) (or-true-l (x.kind == 1) (x.kind == 2) (eq-eqb x.kind 1 e))
          (λ w. tick-by w 1 e))
      go (suc (suc zero)) e =
          stays (leaving-by 2 e) (calls (64 + x.called) (or-true-r (x.kind == 1) (x.kind == 2) (eq-eqb x.kind 2 e))
          (λ w. tick-by w 2 e))
      go (suc (suc (suc zero))) e = beneath e (nat_le s.depth 1) refl
      go (suc (suc (suc (suc k)))) e = stays (leaving-by (suc (suc (suc (suc k)))) e) (starts k e)

  pub rowless-stays : Rowless i s → leaving i s ≡ nothing
  rowless-stays (at_home_label e) = leaving-by 4 (ap (λ (l : ℕ). (label_at i l).kind) e ∙ ap (λ (y : Label). y.kind) sound.home)
  rowless-stays (at_call_label e) = go (or-cases (x.kind == 1) (x.kind == 2) e)
    where
      go : ((x.kind == 1) ≡ true) ⊎ ((x.kind == 2) ≡ true) → leaving i s ≡ nothing
      go (inl p) = leaving-by 1 (eqb-true x.kind 1 p)
      go (inr p) = leaving-by 2 (eqb-true x.kind 2 p)
  rowless-stays (at_last_return e d) =
      leaving-by 3 (ap (λ (l : ℕ). (label_at i l).kind) e ∙ ap (λ (y : Label). y.kind) sound.back)
      ∙ ap (λ (b : Bool). if b then nothing else leaves_label (place_at s (s.depth - 2))) (le-leb s.depth 1 (omega arith))
