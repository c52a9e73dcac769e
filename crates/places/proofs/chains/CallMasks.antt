-- The masks of the calls: one node more, and the rounds over them.
use Rattle.std.proofs.Common.{if◌then◌else◌, ℕ, zero, suc, ◌+◌, ◌-◌, ◌^◌, ◌≤◌, ◌<◌, Bool, true, false, ◌&&◌, ◌||◌, ◌≡◌, refl, sym, ◌∙◌, ap, nat_lt}
use Rattle.std.proofs.Common.{◌==◌, slice_index, ◌*◌, ◌%◌, shl_exact, lit<, one-mul, ap₂, List, None, Some, add-one, arith, bit_or, length, set, replicate}
use Rattle.std.proofs.Common.{eq-eqb, ne_eqb, lt-ltb, le-ltb}
use lib.Bits.{or_zero_r}
use Rattle.std.proofs.lemmas.Grind.{common_steps}
use Rattle.std.proofs.lemmas.Bool.Decides.{nat_tests}
use Rattle.words.specs.lists.Numbers.{any, lowest}
use Rattle.std.proofs.lemmas.Bool.{cond-true, cond-false}
use Rattle.words.proofs.lists.Tests.{or-no, or-true-r}
use Rattle.words.proofs.lists.Searches.{any-snoc, lowest-alike, lowest-none, lowest-most, Searching, searching-first, searching-found}
use Rattle.words.proofs.lists.Searches.{searching-next, searching-over}
use Rattle.words.proofs.lists.Tabulated.{length-tabulate, get_d-tabulate, tabulate-alike, tabulate-set, tabulate-none}
use Rattle.std.specs.Int.{bit_at}
use Rattle.words.specs.graph.Reach.{is_marked}
use Rattle.text.specs.frames.Frame.{size}
use Rattle.charts.specs.Chart.{Chart, scheme, argument}
use Rattle.walk.proofs.Facts.{Facts}
use Rattle.chart_rows.proofs.chart_labels.ReadyLaws.{ready-facts}
use Rattle.places.specs.chains.Calls.{has_call, is_call_of, is_caller, is_circular, ends_of, has_no_end, places}
use Rattle.places.specs.inner.Masks.{called_at, mask_of, call_masks, called_by, ends_by, longest_by, longest_chain, CallsAsked}
use Rattle.places.proofs.chains.Longest.{ends-suc}
use Rattle.places.proofs.chains.Circles.{circle-told, circle-long, no-circle-short}
use Rattle.places.proofs.chains.Masks.{mask-bit, mask-alike, mask-or, mask-more, mask-empty}

any-next : (p : ℕ → Bool) (n : ℕ) → any p 0 (n + 1) ≡ (any p 0 n || p n)
any-next p n = ap (any p 0) (add-one n) ∙ any-snoc p 0 n ∙ ap (λ (k : ℕ). any p 0 n || p k) (omega arith)

or-right : (a b : Bool) → b ≡ false → a ≡ (a || b)
or-right a b e = sym (ap (λ (x : Bool). a || x) e ∙ or-no a)

-- the last number tried, where it passes
lowest-last : (p : ℕ → Bool) (i n : ℕ) → p (i + n) ≡ true → lowest p i (suc n) ≡ lowest p i n
unfolding lowest
lowest-last p i zero e = ap (λ (b : Bool). elim b [ true ↦ i | false ↦ suc i ]) (ap p (omega arith) ∙ e)
lowest-last p i (suc n) e = ap (λ (k : ℕ). elim (p i) [ true ↦ i | false ↦ k ]) (lowest-last p (suc i) n (ap p (omega arith) ∙ e))

-- ---- one node more
module _ (c : Chart) where
  pub masks-start : (masks : List ℕ) → masks ≡ replicate 17 0 → masks ≡ call_masks c 0
  unfolding any
  masks-start masks e = e ∙ tabulate-none (λ g. mask_of (λ h. any (is_call_of c g h) 0 0) 17) 17 (λ g. unfold mask_of in refl)

  module _ (v : ℕ) (masks : List ℕ) (e : masks ≡ call_masks c v) where
    pub masks-long : length masks ≡ 17
    masks-long = ap (λ (xs : List ℕ). length xs) e ∙ length-tabulate (λ g. mask_of (λ h. any (is_call_of c g h) 0 v) 17) 17

    masks-at : (g : ℕ) → g < 17 → slice_index masks g ≡ mask_of (λ h. any (is_call_of c g h) 0 v) 17
    masks-at g l = ap (λ (xs : List ℕ). slice_index xs g) e ∙ get_d-tabulate (λ g. mask_of (λ h. any (is_call_of c g h) 0 v) 17) 17 g l

    no-more : (g h : ℕ) → is_call_of c g h v ≡ false → any (is_call_of c g h) 0 v ≡ any (is_call_of c g h) 0 (v + 1)
    no-more g h n = or-right (any (is_call_of c g h) 0 v) (is_call_of c g h v) n ∙ sym (any-next (is_call_of c g h) v)

    -- a node with no call
    pub masks-same : has_call c v ≡ false → masks ≡ call_masks c (v + 1)
    masks-same n = grind (arith, mask-alike, tabulate-alike, no-more)

    -- a node of scheme g that calls scheme k
    module _ (g k : ℕ) (holds : has_call c v ≡ true) (eg : g ≡ scheme c v) (ek : k ≡ argument c v) where
      this-call : is_call_of c g k v ≡ true
      this-call = grind (arith, common_steps, nat_tests)

      other-called : (h : ℕ) → (k ≡ h → ⊥) → is_call_of c g h v ≡ false
      other-called h n = grind (arith, common_steps, nat_tests)

      other-caller : (u h : ℕ) → (u ≡ g → ⊥) → is_call_of c u h v ≡ false
      other-caller u h n = grind (arith, common_steps, nat_tests)

      pub masks-more : g < 17 → k < 17 → set masks g (bit_or (slice_index masks g) (2 ^ k)) ≡ call_masks c (v + 1)
      masks-more lg lk =
          ap (λ (xs : List ℕ). set xs g (bit_or (slice_index masks g) (2 ^ k))) e
          ∙ tabulate-set (λ g. mask_of (λ h. any (is_call_of c g h) 0 v) 17) (λ g. mask_of (λ h. any (is_call_of c g h) 0 (v + 1)) 17) 17 g
          (bit_or (slice_index masks g) (2 ^ k)) lg
          (ap (λ (x : ℕ). bit_or x (2 ^ k)) (masks-at g lg)
          ∙ mask-more (λ h. any (is_call_of c g h) 0 v) (λ h. any (is_call_of c g h) 0 (v + 1)) 17 k lk
          (any-next (is_call_of c g k) v ∙ or-true-r (any (is_call_of c g k) 0 v) (is_call_of c g k v) this-call)
          (λ h n. no-more g h (other-called h n)))
          (λ u n. mask-alike _ _ 17 (λ h m. no-more u h (other-caller u h n)))

-- a node by the scheme that it calls
module _ {c : Chart} {v : ℕ} {masks : List ℕ} (asked : CallsAsked c v masks) {r : ℕ} (e : r ≡ called_at c v) where
  has-none : r ≡ 0 → has_call c v ≡ false
  has-none z = grind (arith, common_steps, ready-facts)

  pub none-noted : r ≡ 0 → masks ≡ call_masks c (v + 1)
  none-noted z = masks-same c v masks asked.noted (has-none z)

  module _ (n : r ≡ 0 → ⊥) where
    has-one : (has_call c v ≡ true) × (r ≡ argument c v)
    has-one = grind (arith, common_steps)

    low : (scheme c v < 17) × (r < 17)
    low = grind (arith, common_steps, ready-facts)

    pub called-low : r < 17
    called-low = low.1

    module _ {g : ℕ} (eg : g ≡ scheme c v) where
      pub caller-inside : g < length masks
      caller-inside = omega (arith, low.0, masks-long c v masks asked.noted)

      pub call-noted : set masks g (bit_or (slice_index masks g) ((1 * 2 ^ r) % 2 ^ 32)) ≡ call_masks c (v + 1)
      call-noted =
          ap (λ (x : ℕ). set masks g (bit_or (slice_index masks g) x))
          (shl_exact 1 r 32 (lit< tt) (omega (arith, called-low)) ∙ one-mul (2 ^ r))
          ∙ masks-more c v masks asked.noted g r has-one.0 eg has-one.1 (omega (arith, low.0)) called-low

pub ruleset calls = (caller-inside, call-noted)

pub ruleset none_yet = (masks-start)

-- ---- one call more
module _ (p : ℕ → ℕ → Bool) (s : ℕ → Bool) (masks : List ℕ) (are : (g : ℕ) → g < 17 → slice_index masks g ≡ mask_of (p g) 17) where
  -- one of the first n schemes of the set calls scheme h
  abbrev by : ℕ → ℕ → Bool
  by n h = any (λ g. s g && p g h) 0 n

  called-by : (n : ℕ) → n ≤ 17 → called_by masks (mask_of s 17) n ≡ mask_of (by n) 17
  unfolding called_by
  called-by zero l = unfold mask_of any in refl
  called-by (suc n) l = go (s n) refl (called-by n (omega arith))
    where
      bit_is : (b : Bool) → s n ≡ b → (bit_at (mask_of s 17) n == 1) ≡ b
      bit_is true e = eq-eqb (bit_at (mask_of s 17) n) 1 (mask-bit s 17 n (omega arith) ∙ ap (λ (b : Bool). if b then 1 else 0) e)
      bit_is false e = ne_eqb (bit_at (mask_of s 17) n) 1
          (λ z. let o : bit_at (mask_of s 17) n ≡ 0 = mask-bit s 17 n (omega arith) ∙ ap (λ (b : Bool). if b then 1 else 0) e in
          omega arith)

      with-one : (b : Bool) → s n ≡ b → (h : ℕ) → by (suc n) h ≡ (by n h || (b && p n h))
      with-one b e h = any-snoc (λ g. s g && p g h) 0 n ∙ ap (λ (k : ℕ). by n h || (s k && p k h)) (omega arith)
          ∙ ap (λ (b : Bool). by n h || (b && p n h)) e

      go : (b : Bool) → s n ≡ b → called_by masks (mask_of s 17) n ≡ mask_of (by n) 17
          → bit_or (called_by masks (mask_of s 17) n) (if bit_at (mask_of s 17) n == 1 then slice_index masks n else 0)
          ≡ mask_of (by (suc n)) 17
      go true e ih =
          ap₂ bit_or ih (ap (λ (b : Bool). if b then slice_index masks n else 0) (bit_is true e) ∙ are n (omega arith))
          ∙ mask-or (by n) (p n) 17
          ∙ mask-alike (λ h. by n h || p n h) (by (suc n)) 17 (λ h m. sym (with-one true e h))
      go false e ih =
          ap₂ bit_or ih (ap (λ (b : Bool). if b then slice_index masks n else 0) (bit_is false e)) ∙ or_zero_r (mask_of (by n) 17)
          ∙ mask-alike (by n) (by (suc n)) 17 (λ h m. or-right (by n h) false refl ∙ sym (with-one false e h))

-- ---- the loops over the masks
module _ (masks : List ℕ) where
  pub called-yes : (set g x : ℕ) → x ≡ called_by masks set g → bit_at set g ≡ 1
      → bit_or x (slice_index masks g) ≡ called_by masks set (g + 1)
  unfolding called_by
  called-yes set g x e o = grind (arith, eq-eqb, add-one)

  pub called-no : (set g x : ℕ) → x ≡ called_by masks set g → (bit_at set g ≡ 1 → ⊥) → x ≡ called_by masks set (g + 1)
  unfolding called_by
  called-no set g x e n = grind (arith, common_steps, or_zero_r, add-one, ne_eqb)

  -- chains of k calls end nowhere
  abbrev pub is_empty_by : ℕ → Bool
  is_empty_by k = ends_by masks k == 0

  -- the chains of fewer than s calls end somewhere, those of s - 1 in these schemes
  pub record MaskRound (ends s : ℕ) : Type 0 where
    pub some : 1 ≤ s
    pub search : Searching is_empty_by 17 s (lowest is_empty_by 0 17)
    pub held : ends ≡ ends_by masks (s - 1)

  pub round-first : MaskRound 2 1
  unfolding ends_by
  round-first = record {
    some = omega arith;
    search =
        searching-next is_empty_by 17 0 (lowest is_empty_by 0 17) (searching-first is_empty_by 17) (omega arith) refl;
    held = refl;
  }

  module _ {ends s r : ℕ} (h : MaskRound ends s) (e : r ≡ called_by masks ends 17) where
    round-ends : r ≡ ends_by masks s
    unfolding ends_by
    round-ends = grind (arith, common_steps)

    pub round-found : s < 17 → r ≡ 0 → Some s ≡ longest_by masks
    unfolding longest_by
    round-found l z = grind (arith, common_steps, lt-ltb, eq-eqb, searching-found, cond-true, round-ends)

    pub round-next : s < 17 → (r ≡ 0 → ⊥) → MaskRound r (s + 1)
    round-next l n = grind (arith, common_steps, searching-next, ne_eqb, round-ends)

  pub round-over : {ends s : ℕ} → MaskRound ends s → 17 ≤ s → None ≡ longest_by masks
  unfolding longest_by
  round-over {ends} {s} h l = grind (arith, common_steps, cond-false, searching-over, le-ltb)

pub ruleset rounds = (round-found, round-over)

-- ---- the rounds
places-lowest : (c : Chart) → lowest (has_no_end c) 0 16 ≡ places c
unfolding places
places-lowest c = refl

module _ (c : Chart) (masks : List ℕ) (e : masks ≡ call_masks c (size c)) where
  pub ends-by : (k : ℕ) → ends_by masks k ≡ mask_of (is_marked (ends_of c k)) 17
  unfolding ends_by
  ends-by zero = unfold mask_of ends_of in refl
  ends-by (suc k) =
      ap (λ (set : ℕ). called_by masks set 17) (ends-by k)
      ∙ called-by (is_caller c) (is_marked (ends_of c k)) masks (λ g l. masks-at c (size c) masks e g l ∙ (unfold is_caller in refl)) 17
      (omega arith)
      ∙ mask-alike (λ h. any (λ g. is_marked (ends_of c k) g && is_caller c g h) 0 17)
      (is_marked (ends_of c (suc k))) 17 (λ h l. sym (ends-suc c k h l))

  none-by : (k : ℕ) → (ends_by masks k == 0) ≡ has_no_end c k
  none-by k = ap (λ (x : ℕ). x == 0) (ends-by k) ∙ mask-empty (is_marked (ends_of c k)) 17

  pub longest-by : Facts c → longest_by masks ≡ longest_chain c
  unfolding longest_by
  longest-by f = ap (λ (k : ℕ). if nat_lt k 17 then Some k else None)
      (lowest-alike (λ k. ends_by masks k == 0) (has_no_end c) 0 17 (λ k a b. none-by k))
      ∙ go (is_circular c) refl
    where
      go : (b : Bool) → is_circular c ≡ b → (if nat_lt (lowest (has_no_end c) 0 17) 17 then Some (lowest (has_no_end c) 0 17) else None)
          ≡ longest_chain c
      go true q =
          let k : lowest (has_no_end c) 0 17 ≡ 17 = lowest-none (has_no_end c) 0 17 (λ k l. circle-long c f (circle-told c q) (0 + k)) in
          ap (λ (k : ℕ). if nat_lt k 17 then Some k else None) k ∙ sym (ap (λ (b : Bool). if b then None else Some (places c)) q)
      go false q =
          let k : lowest (has_no_end c) 0 17 ≡ lowest (has_no_end c) 0 16 = lowest-last (has_no_end c) 0 16 (no-circle-short c f q) in
          ap (λ (b : Bool). if b then Some (lowest (has_no_end c) 0 17) else None)
          (lt-ltb (lowest (has_no_end c) 0 17) 17 (omega (arith, lowest-most (has_no_end c) 0 16)))
          ∙ ap Some (k ∙ places-lowest c) ∙ sym (ap (λ (b : Bool). if b then None else Some (places c)) q)
