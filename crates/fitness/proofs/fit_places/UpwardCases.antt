-- The places up to the depth, looked at from the bottom up with the number that the label below calls.
use Rattle.std.proofs.Common.{ℕ, zero, suc, ◌==◌, ◌+◌, ◌≤◌, ◌<◌, Bool, true, false, ◌&&◌, ◌||◌, not, ◌≡◌, ◌≢◌, refl, sym, ◌∙◌, ap, ◌⊎◌, inl, inr, List, nat_lt}
use Rattle.std.proofs.Common.{arith, length, lt-ltb, le-ltb, le-leb, zero-add, nat_le}
use Rattle.std.proofs.lemmas.Bool.{lt-leb}
use Rattle.std.proofs.lemmas.Grind.{common_steps}
use Rattle.words.specs.lists.Numbers.{any}
use Rattle.words.proofs.lists.Tests.{or-none, or-true-l, or-true-r, split}
use Rattle.words.proofs.lists.Searches.{any-true, any-snoc}
use Rattle.text.specs.frames.Frame.{field}
use Rattle.image.specs.Image.{Image, Label}
use Rattle.image.specs.declared.layout.TheConstants.{TICK_KIND, CALLED, OWNER, OPERATION_CALL, FUNCTION_CALL}
use Rattle.image.specs.Decode.{scheme_count, last_label, handler_in, labels_from}
use Rattle.tables.specs.Table.{table_image, table_label}
use Rattle.tables.proofs.TableReads.{labels-count, entries-count, handler-at, label-at, label-on}
use Rattle.state.specs.State.{State, place_at, number_at, server_at}
use Rattle.fitness.specs.Fitness.{is_call, is_able_to_carry, is_unfit_place, has_bad_bottom}
use Rattle.fitness.specs.inner.FitnessContracts.{called_by, is_astray, is_miscalled, is_astray_at_bottom}

module _ (b : List ℕ) (s : State) where
  abbrev image : Image
  image = table_image b

  -- the label at place k
  abbrev at_place : ℕ → Label
  at_place k = table_label b (place_at s k)

  abbrev pub is_any_unfit : Bool
  is_any_unfit = any (is_unfit_place image s) 0 s.depth || has_bad_bottom image s

  -- ---- what a label calls, by itself and by the byte that names it
  pub called-label : (l x : ℕ) → x ≡ (table_label b l).called → (table_label b l).called ≡ called_by (scheme_count b) x
  called-label zero x e = grind (arith, common_steps)
  called-label (suc zero) x e = grind (arith, common_steps)
  called-label (suc (suc l)) x e = grind (arith, common_steps)

  pub called-byte : (l x : ℕ) → 2 ≤ l → l ≤ last_label b → x ≡ field b (labels_from b + l) CALLED
      → (table_label b l).called ≡ called_by (scheme_count b) x
  called-byte zero x h m e = absurd (omega arith)
  called-byte (suc zero) x h m e = absurd (omega arith)
  called-byte (suc (suc l)) x h m e = rw (label-on b (suc (suc l)) m, e) refl

  -- the owner of a label, and whether it is a call, by the bytes of its frame
  pub owner-byte : (l x : ℕ) → 2 ≤ l → l ≤ last_label b → x ≡ field b (labels_from b + l) OWNER → (table_label b l).owner ≡ x
  owner-byte zero x h m e = absurd (omega arith)
  owner-byte (suc zero) x h m e = absurd (omega arith)
  owner-byte (suc (suc l)) x h m e = rw (label-on b (suc (suc l)) m, e) refl

  pub kind-byte : (l x : ℕ) → 2 ≤ l → l ≤ last_label b → x ≡ field b (labels_from b + l) TICK_KIND
      → is_call (table_label b l) ≡ (x == OPERATION_CALL || x == FUNCTION_CALL)
  kind-byte zero x h m e = absurd (omega arith)
  kind-byte (suc zero) x h m e = absurd (omega arith)
  kind-byte (suc (suc l)) x h m e = rw (label-on b (suc (suc l)) m, sym e) (grind (arith, common_steps))

  -- ---- one place
  home-astray : (h called k : ℕ) → is_miscalled (scheme_count b) h called k ≡ false → is_astray (table_label b 0).owner k 0 ≡ true
  home-astray h called k e = grind (arith, common_steps)

  unfit-found : (k : ℕ) → k < s.depth → is_unfit_place image s k ≡ true → true ≡ is_any_unfit
  unfit-found k h e = sym (or-true-l _ _ (any-true (is_unfit_place image s) 0 s.depth k (omega arith) (omega arith) e))

  -- place k, which the label below called as that number, may not stand above it
  abbrev pub is_wrong : ℕ → ℕ → Bool
  is_wrong called k =
      is_miscalled (scheme_count b) (number_at s k) called (server_at s k) || is_astray (at_place k).owner (server_at s k) (place_at s k)

  abbrev is_kept : ℕ → ℕ → Bool
  is_kept j k = is_call (at_place j) && not (is_wrong (at_place j).called k)

  carries-is : (j k : ℕ) → is_able_to_carry image (place_at s j) (number_at s k) (server_at s k) (place_at s k) ≡ is_kept j k
  carries-is j k = grind (arith, common_steps, label-at, entries-count)

  -- place j does not carry the one above it
  abbrev is_loose : ℕ → Bool
  is_loose j = nat_lt (j + 1) s.depth
      && not (is_able_to_carry image (place_at s j) (number_at s (j + 1)) (server_at s (j + 1)) (place_at s (j + 1)))

  module _ (j k : ℕ) (next : k ≡ j + 1) where
    place-loose : k < s.depth → is_kept j k ≡ false → is_unfit_place image s j ≡ true
    place-loose h e = or-true-r (nat_le (length image.labels) (place_at s j)) (is_loose j) (rw (sym next, lt-ltb k s.depth h, carries-is j k, e))

    place-fits : place_at s j ≤ last_label b → (k < s.depth → is_kept j k ≡ true) → is_unfit_place image s j ≡ false
    place-fits h e = or-none _ _ (lt-leb (length image.labels) (place_at s j) (omega (arith, labels-count b))) (go (split k s.depth))
      where
        go : (k < s.depth) ⊎ (s.depth ≤ k) → is_loose j ≡ false
        go (inl l) = rw (sym next, lt-ltb k s.depth l, carries-is j k, e l)
        go (inr l) = rw (sym next, le-ltb k s.depth l)

    any-up : any (is_unfit_place image s) 0 j ≡ false → is_unfit_place image s j ≡ false → any (is_unfit_place image s) 0 k ≡ false
    any-up h e =
        let up : k ≡ suc j = omega arith in
        ap (any (is_unfit_place image s) 0) up ∙ any-snoc (is_unfit_place image s) 0 j
        ∙ or-none _ _ h (ap (is_unfit_place image s) (zero-add j) ∙ e)

  pub bottom-is : has_bad_bottom image s
      ≡ is_astray_at_bottom (handler_in b) (at_place 0).owner (place_at s 0) (number_at s 0) (server_at s 0)
  bottom-is = grind (arith, common_steps, label-at, handler-at)

  -- ---- what is known once the label at place k was found to belong there, and when the place above a call is reached
  pub record Belongs (k : ℕ) : Type 0 where
    pub open-place : k < s.depth
    pub inside : place_at s k ≤ last_label b
    pub lower : any (is_unfit_place image s) 0 k ≡ false
    pub bottom : has_bad_bottom image s ≡ false

  pub record PassedPlaces (called k : ℕ) : Type 0 where
    pub place : ℕ
    pub next : k ≡ place + 1
    pub below : Belongs place
    pub call : is_call (at_place place) ≡ true
    pub number : (at_place place).called ≡ called

  pub pass-high : (k : ℕ) → k < s.depth → last_label b < place_at s k → true ≡ is_any_unfit
  pass-high k h l = unfit-found k h (or-true-l _ _ (le-leb (length image.labels) (place_at s k) (omega (arith, labels-count b))))

  pub pass-bottom : is_astray_at_bottom (handler_in b) (at_place 0).owner (place_at s 0) (number_at s 0) (server_at s 0) ≡ true
      → true ≡ is_any_unfit
  pass-bottom e = sym (or-true-r _ _ (bottom-is ∙ e))

  pub belongs-first : 1 ≤ s.depth → place_at s 0 ≤ last_label b
      → is_astray_at_bottom (handler_in b) (at_place 0).owner (place_at s 0) (number_at s 0) (server_at s 0) ≡ false → Belongs 0
  unfolding any
  belongs-first h l e = record { open-place = omega arith; inside = l; lower = refl; bottom = bottom-is ∙ e }

  module _ (called k : ℕ) (c : PassedPlaces called k) where
    pub pass-wrong : k < s.depth → is_wrong called k ≡ true → true ≡ is_any_unfit
    pass-wrong h e =
        unfit-found c.place c.below.open-place (place-loose c.place k c.next h (rw (c.call, c.number, e)))

    pub belongs-above : k < s.depth → place_at s k ≤ last_label b → is_wrong called k ≡ false → Belongs k
    belongs-above h l e = record {
      open-place = h;
      inside = l;
      lower = any-up c.place k c.next c.below.lower (place-fits c.place k c.next c.below.inside (λ m. rw (c.call, c.number, e)));
      bottom = c.below.bottom;
    }

    -- labels 0 and 1, and those above the last one
    pub pass-home : k < s.depth → is_miscalled (scheme_count b) (number_at s k) called (server_at s k) ≡ false
        → (nat_le 2 (place_at s k) && nat_le (place_at s k) (last_label b)) ≡ false → place_at s k ≢ 1 → true ≡ is_any_unfit
    pass-home h e l n = go (split 2 (suc (place_at s k)))
      where
        go : (2 < suc (place_at s k)) ⊎ (suc (place_at s k) ≤ 2) → true ≡ is_any_unfit
        go (inl p) = pass-high k h (grind (arith, common_steps))
        go (inr p) =
            let zero : place_at s k ≡ 0 = omega (arith, n) in
            pass-wrong h (or-true-r _ _ (ap (λ (l : ℕ). is_astray (table_label b l).owner (server_at s k) l) zero ∙ home-astray _ _ _ e))

  all-fit : (k : ℕ) → Belongs k → s.depth ≤ k + 1 → false ≡ is_any_unfit
  all-fit k y h =
      let top : s.depth ≡ k + 1 = omega (arith, y.open-place) in
      sym (or-none _ _ (any-up k s.depth top y.lower (place-fits k s.depth top y.inside (λ m. absurd (omega arith)))) y.bottom)

  pub pass-top : (k : ℕ) → Belongs k → is_call (at_place k) ≡ false → nat_lt (k + 1) s.depth ≡ is_any_unfit
  pass-top k y e = go (split (k + 1) s.depth)
    where
      go : (k + 1 < s.depth) ⊎ (s.depth ≤ k + 1) → nat_lt (k + 1) s.depth ≡ is_any_unfit
      go (inl h) = lt-ltb (k + 1) s.depth h ∙ unfit-found k y.open-place (place-loose k (k + 1) refl h (rw e))
      go (inr h) = le-ltb (k + 1) s.depth h ∙ all-fit k y h

  pub pass-next : (called k : ℕ) → Belongs k → is_call (at_place k) ≡ true → (at_place k).called ≡ called → PassedPlaces called (k + 1)
  pass-next called k y e q = record { place = k; next = refl; below = y; call = e; number = q }

  pub pass-all : (called k : ℕ) → PassedPlaces called k → s.depth ≤ k → false ≡ is_any_unfit
  pass-all called k c h = all-fit c.place c.below (omega (arith, c.next))
