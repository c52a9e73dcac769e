-- The finished ticks of a spindle are those of its own walk over their words, over every list of calls.
use Rattle.std.proofs.Common.{if◌then◌else◌, ℕ, ◌≤◌, ◌<◌, Bool, true, false, ◌&&◌, ◌≡◌, refl, sym, ◌∙◌, ap, subst, List, [], ◌∷◌, map, ◌==◌, arith}
use Rattle.std.proofs.Common.{length, take, eq-eqb, ne_eqb}
use Rattle.std.proofs.lemmas.Grind.{common_steps}
use Rattle.std.proofs.Math.Decide.{ℕ_discrete}
use Rattle.std.specs.List.{AllByRecursion}
use Rattle.results.specs.Results.{no_results}
use Rattle.bindings.specs.Binding.{Binding, own_binding}
use Rattle.text.specs.frames.Frame.{contents}
use Rattle.text.specs.frames.Verdict.{fine}
use Rattle.charts.specs.Chart.{Chart}
use Rattle.charts.specs.Entry.{read_verdict}
use Rattle.walk.specs.Walk.{Signal, Tick, walk}
use Rattle.walk.proofs.Facts.{Facts}
use Rattle.walk.proofs.FactsHold.{facts}
use Rattle.walk.proofs.Trace.{WalkPosition, tick_at, move, trace, position_at_home, home-good}
use Rattle.walk.proofs.Recursion.{walk-trace}
use Rattle.image.specs.Decode.{decoded_image}
use Rattle.image.specs.Check.{image_verdict}
use Rattle.translator.specs.Table.{table}
use Rattle.translator.specs.Entry.{translate_verdict, translate}
use Rattle.translator.proofs.Translated.{translated-read, translated-fine, translated-image}
use Rattle.state.specs.State.{fresh, fresh_state}
use Rattle.fitness.proofs.Fitness.{Fits}
use Rattle.ticks.proofs.Keeps.{fresh-fits}
use Rattle.agreement.specs.Agreement.{binding_after}
use Rattle.agreement.proofs.TableFacts.{TableFacts}
use Rattle.agreement.proofs.TableFactsHold.{table-facts}
use Rattle.agreement.proofs.Places.{state_of_position}
use Rattle.agreement.proofs.Images.{translated-passes, translated-decoded}
use Rattle.agreement.proofs.Chain.{fresh-is, home-is, sound}
use Rattle.spindles.specs.Spindles.{state_at, SpinOutcome}
use Rattle.spindles.specs.spindle_places.Calls.{Head, SpindleCall, spins, rebinds, spin_on, head_after}
use Rattle.spindle_walks.specs.Walks.{FinishedTick, is_success, finished_ticks_by, HandsImage, FollowsWalk, OwnWalk}
use Rattle.spindle_walks.proofs.WatchedCalls.{At, signal_told, Turned, stays, steps, turned, passed-over, bound-over, bound-own}

abbrev signals : List FinishedTick → List Signal
signals = map (λ (m : FinishedTick). m.signal)

-- a call that was finished, as a tick that was made
abbrev tick_made : Binding → ℕ → SpinOutcome → FinishedTick
tick_made s w r = record { signal = record { word = w; binding = s }; mask = r.mask; code = r.code }

module _ (c : Chart) (facts : Facts c) (table_facts : TableFacts c) (image : List ℕ) (passes : image_verdict image ≡ fine)
    (decodes : decoded_image (contents image) ≡ table c) (n : ℕ) (n≤ : n ≤ 32) (k : ℕ) where
  abbrev Stood : Head → Binding → WalkPosition → Type 0
  Stood = At c facts table_facts image passes decodes n n≤ k

  -- ticks that are those of the trace from a position on
  pub record Traced (x : WalkPosition) (made : List FinishedTick) : Type 0 where
    pub masks : map (λ (m : FinishedTick). m.mask) made ≡ map (λ (t : Tick). t.mask) (trace n c (signals made) x)
    pub codes : map (λ (m : FinishedTick). m.code) made ≡ map (λ (t : Tick). t.code) (trace n c (signals made) x)

  one-more : (x : WalkPosition) (m : FinishedTick) (made : List FinishedTick) → m.mask ≡ (tick_at n c x).mask
      → m.code ≡ (tick_at n c x).code
      → Traced (move n c m.signal x) made → Traced x (m ∷ made)
  unfolding trace
  one-more x m made p q o = grind (arith, common_steps)

  abbrev More : Binding → Head → List SpindleCall → Type 0
  More s h calls = (x : WalkPosition) → Stood h s x → Traced x (finished_ticks_by c k s h calls)

  -- the ticks of the calls after a tick, and before them its own where t holds
  abbrev with : Binding → Head → List ℕ → ℕ → ℕ → List SpindleCall → Bool → List FinishedTick
  with s h t j w rest b =
      let more = finished_ticks_by c k s (head_after h (spins t j w)) rest in if b then tick_made s w (spin_on h t j w) ∷ more else more

  -- ---- one tick, and the calls after it
  after-spin : (t : List ℕ) (j w : ℕ) (rest : List SpindleCall) → (j ≡ k → t ≡ image) → (s : Binding) (h : Head)
      → More s (head_after h (spins t j w)) rest → More s h (spins t j w ∷ rest)
  unfolding finished_ticks_by
  after-spin t j w rest hand s h ih x z = go (ℕ_discrete k j)
    where
      mine : k ≡ j → Turned c facts table_facts image passes decodes n n≤ k h s x w (spin_on h t j w)
          → Traced x (with s h t j w rest (j == k && is_success (spin_on h t j w).reply))
      mine e (stays d a) = subst (λ (b : Bool). Traced x (with s h t j w rest (j == k && b))) (sym d)
          (subst (λ (b : Bool). Traced x (with s h t j w rest (b && false))) (sym (eq-eqb j k (sym e))) (ih x a))
      mine e (steps d m o a) = subst (λ (b : Bool). Traced x (with s h t j w rest (j == k && b))) (sym d)
          (subst (λ (b : Bool). Traced x (with s h t j w rest (b && true))) (sym (eq-eqb j k (sym e)))
          (one-more x (tick_made s w (spin_on h t j w)) (finished_ticks_by c k s (head_after h (spins t j w)) rest)
          m o (ih (move n c (signal_told s w) x) a)))

      go : Dec (k ≡ j)
          → Traced x (with s h t j w rest (j == k && is_success (spin_on h t j w).reply))
      go (yes e) = mine e
          (subst (λ (i : ℕ). Turned c facts table_facts image passes decodes n n≤ k h s x w (spin_on h t i w)) e
          (subst (λ (u : List ℕ). Turned c facts table_facts image passes decodes n n≤ k h s x w (spin_on h u k w)) (sym (hand (sym e)))
          (turned c facts table_facts image passes decodes n n≤ k h s x w z)))
      go (no e) = subst (λ (b : Bool). Traced x (with s h t j w rest (b && is_success (spin_on h t j w).reply)))
          (sym (ne_eqb j k (λ q. e (sym q)))) (ih x (passed-over c facts table_facts image passes decodes n n≤ k h s x z t j w e))

  -- ---- one rebinding, and the calls after it
  after-rebinding : (t : List ℕ) (j m g : ℕ) (rest : List SpindleCall) → (j ≡ k → t ≡ image) → (s : Binding) (h : Head)
      → ((u : Binding) → More u (head_after h (rebinds t j m g)) rest) → More s h (rebinds t j m g ∷ rest)
  unfolding finished_ticks_by
  after-rebinding t j m g rest hand s h ih x z = go (ℕ_discrete k j)
    where
      own : k ≡ j → Stood (head_after h (rebinds t j m g)) (binding_after c m g s) x
      own e = subst (λ (i : ℕ). Stood (head_after h (rebinds t i m g)) (binding_after c m g s) x) e
          (subst (λ (u : List ℕ). Stood (head_after h (rebinds u k m g)) (binding_after c m g s) x) (sym (hand (sym e)))
          (bound-own c facts table_facts image passes decodes n n≤ k h s x z m g))

      go : Dec (k ≡ j) → Traced x (finished_ticks_by c k (if j == k then binding_after c m g s else s)
          (head_after h (rebinds t j m g)) rest)
      go (yes e) =
          subst (λ (b : Bool). Traced x (finished_ticks_by c k (if b then binding_after c m g s else s)
          (head_after h (rebinds t j m g)) rest))
          (sym (eq-eqb j k (sym e))) (ih (binding_after c m g s) x (own e))
      go (no e) =
          subst (λ (b : Bool). Traced x (finished_ticks_by c k (if b then binding_after c m g s else s)
          (head_after h (rebinds t j m g)) rest))
          (sym (ne_eqb j k (λ q. e (sym q)))) (ih s x (bound-over c facts table_facts image passes decodes n n≤ k h s x z t j m g e))

  own-walk : (calls : List SpindleCall) → AllByRecursion (HandsImage k image) calls → (s : Binding) (h : Head) → More s h calls
  unfolding finished_ticks_by trace
  own-walk [] hands s h x z = grind (arith)
  own-walk (spins t j w ∷ rest) hands s h x z = grind (arith, own-walk rest hands.1 s (head_after h (spins t j w)), after-spin)
  own-walk (rebinds t j m g ∷ rest) hands s h x z = grind (arith, own-walk rest hands.1, after-rebinding)

  pub walk-own : 1 ≤ n → (h : Head) → k < length h.states → state_at h.states k ≡ (fresh_state n).state → (calls : List SpindleCall)
      → AllByRecursion (HandsImage k image) calls
      → FollowsWalk n c (finished_ticks_by c k own_binding h calls)
  walk-own low h inside at calls hands =
      let made : List FinishedTick = finished_ticks_by c k own_binding h calls in
      let home : fresh n ≡ state_of_position c n own_binding (position_at_home c no_results) = home-is c facts n in
      let o : Traced (position_at_home c no_results) made = own-walk calls hands own_binding h (position_at_home c no_results)
      (record {
        inside = inside;
        at = at ∙ fresh-is n low n≤ ∙ home;
        stands = record { low = low; good = home-good c facts no_results };
        fits = subst (Fits (table c)) home (fresh-fits (table c) (sound c facts table_facts image passes decodes n n≤) n low n≤);
      }) in
      let e : walk n c (signals made) ≡ trace n c (signals made) (position_at_home c no_results) = walk-trace n c (signals made) in
      record {
        masks = o.masks ∙ sym (ap (map (λ (t : Tick). t.mask)) e);
        codes = o.codes ∙ sym (ap (map (λ (t : Tick). t.code)) e);
      }

pub own-walks : OwnWalk
unfolding OwnWalk
own-walks text out m translated size low high k h inside at calls hands =
    let c : Chart = contents text in
    let ok : translate_verdict text ≡ fine = translated-fine text out m translated in
    let read : read_verdict text ≡ fine = translated-read text ok in
    let f : Facts c = facts text read in
    let image : List ℕ = take m (translate text out).buffer in
    let passes : image_verdict image ≡ fine =
    ap image_verdict (translated-image text out m translated) ∙ translated-passes text ok f in
    let decodes : decoded_image (contents image) ≡ table c =
    ap (λ (t : List ℕ). decoded_image (contents t)) (translated-image text out m translated) ∙ translated-decoded text ok f in
    walk-own c f (table-facts text read) image passes decodes size high k low h inside at calls hands

pub ruleset spindles_tick_as_their_walks = own-walks
