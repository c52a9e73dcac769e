-- On a sound image a tick keeps a fitting state fitting, however it ends.
use Rattle.std.proofs.Common.{ℕ, zero, suc, ◌+◌, ◌-◌, ◌≤◌, ◌<◌, Bool, true, false, ◌&&◌, not, ◌≡◌, refl, ap, ap₂, ◌∙◌, nat_le}
use Rattle.std.proofs.Common.{◌==◌, sym, subst, List, length, get_or-set_other, arith, leb-false}
use Rattle.std.proofs.Math.ListN.{get_or-replicate}
use Rattle.std.proofs.lemmas.Grind.{common_steps}
use Rattle.results.specs.Results.{Results, cleared_results}
use Rattle.bindings.specs.Binding.{server_of}
use Rattle.text.specs.frames.Frame.{contents}
use Rattle.text.specs.frames.Verdict.{fine}
use Rattle.image.specs.Layout.{tick_kind}
use Rattle.image.specs.Image.{Image}
use Rattle.image.specs.Decode.{decoded_image}
use Rattle.image.specs.Check.{image_verdict}
use Rattle.image.specs.inner.Sound.{Reaches, SoundImage}
use Rattle.image.proofs.Accepted.{image-sound}
use Rattle.rows.specs.Rows.{Found, found, missing}
use Rattle.state.specs.State.{State, fresh, label_at, entry_at, place_at, number_at, server_at, Sized}
use Rattle.state.specs.Changes.{with_place, with_bits}
use Rattle.fitness.specs.Fitness.{is_call, is_callable, is_badly_served, is_unfit}
use Rattle.fitness.proofs.Fitness.{Fits, fits, unfits, callable-range, called-served}
use Rattle.ticks.specs.Functions.{FreshFits, TickFits}
use Rattle.ticks.specs.Tick.{row_leads, MachineTick, finished, stopped, moved_tick, popped_state, full_tick, pushed_tick}
use Rattle.ticks.specs.Tick.{popped_tick, tick_by, tick}
use Rattle.ticks.proofs.Leads.{Sort, sort, row-leads, call-kind, called-range, not-return}
use Rattle.ticks.proofs.Leads.{reaches-over, enters, carry-told, may-carry, home-bottom, handler-bottom}
use Rattle.ticks.proofs.Changes.{only-zero, bits-fit, replaced-fits, opening-fits, dropping-fits, alone-fits}

module _ (i : Image) (sound : SoundImage i) where
  -- ---- one tick
  abbrev pub Keeps : MachineTick → Type 0
  Keeps (finished m k t) = Fits i t
  Keeps (stopped n) = Unit {0}

  moved-keeps : (m code : ℕ) (t : State) (k : ℕ) (r : Found)
      → ((u : ℕ) → r ≡ found u → Fits i (with_place t k u)) → Keeps (moved_tick m code t k r)
  moved-keeps m code t k (found u) h = h u refl
  moved-keeps m code t k missing h = tt

  module _ (s : State) (f : Fits i s) where
    abbrev top : ℕ
    top = place_at s (s.depth - 1)

    top-low : top < length i.labels
    top-low = f.labels (s.depth - 1) (omega (arith, f.some))

    plain-keeps : (w : ℕ) (b : Results) → (label_at i top).kind ≡ 0 → Keeps (tick_by i s w top (label_at i top) b (tick_kind 0))
    plain-keeps w b e = moved-keeps _ 0 (with_bits s b) _ (row_leads i b top w)
        (λ u q. replaced-fits i sound (with_bits s b) u (bits-fit i sound s b f) (not-return i sound top top-low (λ p. omega arith))
        (row-leads i sound top w _ u q))

    full-keeps : (m : ℕ) (b : Results) → Keeps (full_tick i s m b)
    full-keeps m b =
        let h : ℕ = i.handler in
        grind (
          arith,
          common_steps,
          sound.handled,
          enters i sound,
          handler-bottom i sound,
          alone-fits i sound s (entry_at i h) h (cleared_results h b) f,
        )

    call-keeps : (m code : ℕ) (b : Results) → is_call (label_at i top) ≡ true
        → Keeps (pushed_tick i s m code (label_at i top).called (server_of s.serving (label_at i top).called) b (nat_le s.size s.depth))
    call-keeps m code b e = go (nat_le s.size s.depth) refl
      where
        h : ℕ
        h = (label_at i top).called

        k : ℕ
        k = server_of s.serving h

        range : (2 ≤ h) × (h ≤ length i.entries)
        range = called-range i sound top top-low (call-kind i sound top e)

        may : is_callable i k ≡ true
        may = called-served i sound.most s f h range.0 range.1

        into : Reaches i k (entry_at i k)
        into = enters i sound k (callable-range i k may).0 (callable-range i k may).1

        go : (t : Bool) → nat_le s.size s.depth ≡ t
            → Keeps (pushed_tick i s m code (label_at i top).called (server_of s.serving (label_at i top).called) b t)
        go true q = full-keeps m b
        go false q = opening-fits i sound s (entry_at i k) h k (cleared_results h b) f (leb-false s.size s.depth q) into.inside
            (may-carry i sound top h k (entry_at i k) e refl may (reaches-over i sound k (entry_at i k) (callable-range i k may).0 into))

    return-keeps : (m w : ℕ) (b : Results) → Keeps (popped_tick i s w m b (nat_le s.depth 1))
    return-keeps m w b = go (nat_le s.depth 1) refl
      where
        t : State
        t = popped_state s b

        under : ℕ
        under = place_at s (s.depth - 2)

        back : 2 ≤ s.depth → (u : ℕ) → Reaches i (label_at i (place_at s (s.depth - 2))).owner u
            → Fits i (with_place (popped_state s b) (s.depth - 2) u)
        back two u r =
            let d : s.depth - 1 - 1 ≡ s.depth - 2 = omega arith in
            let same : place_at t (s.depth - 1 - 1) ≡ under =
            ap (place_at t) d ∙ get_or-set_other s.places (s.depth - 1) (s.depth - 2) 0 0 (λ q. omega arith) in
            let told = carry-told i sound under (number_at s (s.depth - 2 + 1))
            (server_at s (s.depth - 2 + 1)) (place_at s (s.depth - 2 + 1))
            (f.carries (s.depth - 2) (omega arith)) in
            let c = call-kind i sound under told.0 in
            subst (λ (j : ℕ). Fits i (with_place (popped_state s b) j u)) d
            (replaced-fits i sound t u (dropping-fits i sound s b f two)
            (λ q. not-return i sound under (f.labels (s.depth - 2) (omega arith)) (λ p. omega arith) (sym same ∙ q))
            (subst (λ (l : ℕ). Reaches i (label_at i l).owner u) (sym same) r))

        go : (t : Bool) → nat_le s.depth 1 ≡ t → Keeps (popped_tick i s w m b t)
        go true q = alone-fits i sound s 0 1 b f (omega (arith, sound.two)) (home-bottom i sound _)
        go false q = moved-keeps m 3 (popped_state s b) _ (row_leads i b (place_at s (s.depth - 2)) w)
            (λ u p. back (leb-false s.depth 1 q) u (row-leads i sound (place_at s (s.depth - 2)) w _ u p))

    home-keeps : (b : Results) → 4 ≤ (label_at i top).kind → Fits i (with_place (with_bits s b) (s.depth - 1) (entry_at i 1))
    home-keeps b e =
        let into : Reaches i 1 (entry_at i 1) = sound.starts 0 sound.first in
        let own : Sort i sound top = sort i sound top top-low in
        grind (arith, common_steps, replaced-fits i sound (with_bits s b) (entry_at i 1) (bits-fit i sound s b f), into, own)

    by-keeps : (w : ℕ) (b : Results) (k : ℕ) → (label_at i top).kind ≡ k → Keeps (tick_by i s w top (label_at i top) b (tick_kind k))
    by-keeps w b zero e = plain-keeps w b e
    by-keeps w b (suc zero) e = call-keeps _ _ b (rw e)
    by-keeps w b (suc (suc zero)) e = call-keeps _ _ b (rw e)
    by-keeps w b (suc (suc (suc zero))) e = return-keeps _ w b
    by-keeps w b (suc (suc (suc (suc n)))) e = home-keeps b (omega arith)

    pub tick-keeps : (w : ℕ) → Keeps (tick i s w)
    unfolding tick
    tick-keeps w = by-keeps w _ (label_at i top).kind refl

  -- ---- a fresh state
  own-serves : (n h : ℕ) → 2 ≤ h → h < 17 → is_badly_served i (fresh n) h ≡ false
  own-serves n h a b = grind (arith, common_steps)

  pub fresh-fits : (n : ℕ) → 1 ≤ n → n ≤ 32 → Fits i (fresh n)
  fresh-fits n l h = record {
    whole = record { places = refl; serving = refl; numbers = refl; servers = refl };
    small = h;
    some = omega arith;
    most = l;
    labels = λ k m. subst (λ (x : ℕ). x < length i.labels) (sym (zero-at k (omega arith))) (omega (arith, sound.two));
    carries = λ k m. absurd (omega arith);
    bottom = home-bottom i sound _;
    above = λ k m j. ap₂ (λ (x y : ℕ). not (x == 0 && y == 0 && y == 0)) (zero-at k j) (only-zero 1 k m j);
    serves = own-serves n;
  }
    where
      zero-at : (k : ℕ) → k < 32 → place_at (fresh n) k ≡ 0
      zero-at k j = get_or-replicate 32 k 0 0 j

-- ---- every accepted image, whatever its rows
module _ (text : List ℕ) (passes : image_verdict text ≡ fine) (s : State) (sized : Sized s)
    (fit : is_unfit (decoded_image (contents text)) s ≡ false) where
  abbrev image : Image
  image = decoded_image (contents text)

  pub tick-fits : (w m code : ℕ) (t : State) → tick image s w ≡ finished m code t → is_unfit image t ≡ false
  tick-fits w m code t e = fits image t
      (subst (Keeps image (image-sound text passes)) e (tick-keeps image (image-sound text passes) s (unfits image s sized fit) w))

pub fresh-fitting : FreshFits
unfolding FreshFits
fresh-fitting text passes n l h = grind (arith, common_steps, image-sound, fits, fresh-fits)

pub tick-fitting : TickFits
unfolding TickFits
tick-fitting text passes s sized fit = tick-fits text passes s sized fit
