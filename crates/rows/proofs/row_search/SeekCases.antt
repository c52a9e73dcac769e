-- A search among the rows of a label: rows that do not agree are passed over, and the row found so far is kept.
use Rattle.std.proofs.Common.{ℕ, zero, suc, ◌+◌, ◌-◌, ◌≤◌, ◌<◌, Bool, true, false, ◌≡◌, refl, sym, ◌∙◌, ap, subst, List, map, arith, ◌⊎◌, inl, inr, nat_lt, lt-ltb, le-ltb, slice_index}
use Rattle.std.proofs.lemmas.Grind.{common_steps}
use Rattle.words.specs.lists.Numbers.{range}
use Rattle.words.proofs.lists.Tests.{split}
use Rattle.text.specs.frames.Frame.{size}
use Rattle.image.specs.Image.{Row}
use Rattle.image.specs.Decode.{last_label}
use Rattle.tables.specs.Table.{first_on, end_on, row_on, rows_on, table_image}
use Rattle.tables.specs.inner.Asked.{Whole}
use Rattle.rows.specs.declared.TheConstants.{NO_FRAME}
use Rattle.rows.specs.Rows.{Choice, row, no_choice, better_choice, best_row, Found, lead_of}
use Rattle.rows.specs.inner.Search.{is_matching_frame, found_at, is_found, chosen_frame, Chosen}
use Rattle.rows.specs.inner.Search.{Deciding, BestFrom}
use Rattle.rows.specs.inner.NextMatch.{Unmatched, NextMatch}
use Rattle.rows.proofs.TableRows.{own-leads}
use Rattle.rows.proofs.SearchCases.{Reached, Searched, all-searched, reached-over, search-other, search-own, better-only, at-frame, past-table, frame-named}
use Rattle.rows.proofs.SearchCases.{chosen-found, few-frames, end-within}

-- of two rows one is taken
row-first : (r : Row) (k : ℕ) (y : Choice) → is_found (lead_of (better_choice (row k r) y)) ≡ true
row-first r k no_choice = refl
row-first r k (row j q) = grind (arith, common_steps)

-- over n rows that do not match
over : (b : List ℕ) (l w bit first end : ℕ) → Deciding b l bit → {x : Choice} → (best n f r : ℕ) → r ≡ f + n → r ≤ end
    → ((k : ℕ) → f ≤ k → k < r → is_matching_frame b w bit k ≡ false) → Reached b l w bit first end x f best → Reached b l w bit first end x r best
over b l w bit first end d {x} best zero f r e h none s = subst (λ (k : ℕ). Reached b l w bit first end x k best) (let y : f ≡ r = omega arith in y) s
over b l w bit first end d best (suc n) f r e h none s =
    over b l w bit first end d best n (f + 1) r (omega arith) h (λ k g m. none k (omega arith) m)
    (search-other b l w bit first end f best s d (omega arith) false (sym (none f (omega arith) (omega arith))) refl)

-- what is known at frame f: the row found so far, or none, with the rows from there on gives the choice among all from first up to end
record Seeking (b : List ℕ) (l w bit first end f found : ℕ) : Type 0 where
  most : found ≤ NO_FRAME
  inside : found < NO_FRAME → found < size b
  reached : Searched b l w bit first end f found

-- ---- the search of label l, whose rows stand in the frames from first up to end
module _ (b : List ℕ) (l w bit first end : ℕ) (d : Deciding b l bit) (p : first ≡ first_on b l) (q : end ≡ end_on b l) (whole : Whole b)
    (bytes : (k : ℕ) → slice_index b k < 256)
  where
    few : size b < NO_FRAME
    few = few-frames b whole bytes

    within : end ≤ size b
    within = end-within b l end whole q

    seek-start : Seeking b l w bit first end first NO_FRAME
    seek-start = record {
      most = omega arith;
      inside = λ h. absurd (omega arith);
      reached = ap (λ (x : Choice). better_choice x (best_row l w bit first (map (row_on b l) (range first (end - first))))) (past-table b NO_FRAME l (omega (arith, few)));
    }

    module _ (f found : ℕ) (s : Seeking b l w bit first end f found) where
      named : chosen_frame (found_at b l found) ≡ found
      named = go (split found NO_FRAME)
        where
          go : (found < NO_FRAME) ⊎ (NO_FRAME ≤ found) → chosen_frame (found_at b l found) ≡ found
          go (inl h) = frame-named b found l (s.inside h)
          go (inr h) = ap chosen_frame (past-table b found l (omega (arith, few))) ∙ let e : NO_FRAME ≡ found = omega (arith, s.most) in e

      all : (x : Choice) → x ≡ best_row l w bit first (map (row_on b l) (range first (end - first))) → chosen_frame x
          ≡ chosen_frame (best_row l w bit (first_on b l) (rows_on b l))
      all x e = ap chosen_frame (all-searched b l w bit first end x e p q)

      seek-end : end ≤ f → Chosen b l w bit found
      seek-end h = sym named ∙ all (found_at b l found) (reached-over b l w bit first end f found s.reached h)

      seek-best : (v : ℕ) → v ≡ w → (r : ℕ) → BestFrom b v bit found f end r → Chosen b l w bit r
      seek-best v e r y =
          let x : BestFrom b w bit found f end r = subst (λ (u : ℕ). BestFrom b u bit found f end r) e y in
          sym (frame-named b r l x.inside) ∙ all (found_at b l r) (x.best l d ∙ s.reached)

      -- the next row that matches
      seek-over : (v : ℕ) → v ≡ w → (r : ℕ) → NextMatch b v bit f end r → f ≤ end → Seeking b l w bit first end r found
      seek-over v e r y h = record {
        most = s.most;
        inside = s.inside;
        reached = over b l w bit first end d found (r - f) f r (omega (arith, passed.on)) y.within
            (λ k g m. ap (λ (u : ℕ). is_matching_frame b u bit k) (sym e) ∙ passed.none k g m) s.reached;
      }
        where
          passed : Unmatched b v bit f r
          passed = y.passed h

      seek-own : f < end → is_matching_frame b w bit f ≡ true → NO_FRAME ≤ found → Seeking b l w bit first end (f + 1) f
      seek-own h y k = record {
        most = omega (arith, few, within);
        inside = λ _. omega (arith, within);
        reached = search-own b l w bit first end f found s.reached d h true (sym y) refl f
            (better-only b found f (omega (arith, within)) (omega (arith, few)));
      }

    -- the row found first, and the one found behind it
    module _ (v : ℕ) (e : v ≡ w) (found : ℕ) (x : NextMatch b v bit first end found) where
      pub none-found : end ≤ found → Chosen b l w bit NO_FRAME
      none-found h = go (split first end)
        where
          go : (first < end) ⊎ (end ≤ first) → Chosen b l w bit NO_FRAME
          go (inl g) = seek-end found NO_FRAME (seek-over first NO_FRAME seek-start v e found x (omega arith)) h
          go (inr g) = seek-end first NO_FRAME seek-start g

      module _ (h : found < end) where
        one-found : Seeking b l w bit first end (found + 1) found
        one-found =
            let stop = x.stopped h in
            seek-own found NO_FRAME (seek-over first NO_FRAME seek-start v e found x (omega (arith, stop.0))) h
            (ap (λ (u : ℕ). is_matching_frame b u bit found) (sym e) ∙ stop.1) (omega arith)

        module _ (second : ℕ) (y : NextMatch b v bit (found + 1) end second) where
          to-second : Seeking b l w bit first end second found
          to-second = seek-over (found + 1) found one-found v e second y (omega arith)

          pub only-found : end ≤ second → Chosen b l w bit found
          only-found g = seek-end second found to-second g

          pub best-found : (r : ℕ) → BestFrom b v bit found second end r → Chosen b l w bit r
          best-found r z = seek-best second found to-second v e r z

      -- the first that matches is enough to know that one is taken
      module _ (low : 2 ≤ l) (high : l ≤ last_label b) where
        abbrev leads : Found
        leads = lead_of (best_row l w bit 0 (table_image b).rows)

        taken : found < end → is_found leads ≡ true
        taken h =
            ap is_found (sym (own-leads b l w bit low high) ∙ ap lead_of (sym (all-searched b l w bit first end _ (one-found h).reached p q)))
            ∙ ap (λ (c : Choice). is_found (lead_of (better_choice c (best_row l w bit (found + 1) (map (row_on b l) (range (found + 1) (end - (found + 1))))))))
            (at-frame b found l (omega (arith, within)))
            ∙ row-first (row_on b l found) found _

        none-taken : end ≤ found → is_found leads ≡ false
        none-taken h =
            ap is_found (sym (own-leads b l w bit low high))
            ∙ ap (λ (c : Choice). is_found (lead_of c))
            (sym (chosen-found b l w bit whole bytes NO_FRAME (none-found h)) ∙ past-table b NO_FRAME l (omega (arith, few)))

        pub takes : nat_lt found end ≡ is_found leads
        takes = go (split found end)
          where
            go : (found < end) ⊎ (end ≤ found) → nat_lt found end ≡ is_found leads
            go (inl h) = lt-ltb found end h ∙ sym (taken h)
            go (inr h) = le-ltb found end h ∙ sym (none-taken h)

-- ---- a label with two rows, one of which matches
module _ (b : List ℕ) (l w bit first end : ℕ) (d : Deciding b l bit) (few : size b < NO_FRAME) (p : first ≡ first_on b l) (q : end ≡ end_on b l)
    (two : end ≡ first + 2) (within : end ≤ size b) (t v : Bool) (x : t ≡ is_matching_frame b w bit first)
    (y : v ≡ is_matching_frame b w bit (first + 1)) where
  begun : Searched b l w bit first end first NO_FRAME
  begun = ap (λ (x : Choice). better_choice x (best_row l w bit first (map (row_on b l) (range first (end - first))))) (past-table b NO_FRAME l (omega arith))

  alone : (f : ℕ) → f < size b → Searched b l w bit first end (first + 1 + 1) f → Chosen b l w bit f
  alone f h s =
      sym (frame-named b f l h)
      ∙ ap chosen_frame (all-searched b l w bit first end _ (reached-over b l w bit first end (first + 1 + 1) f s (omega arith)) p q)

  pub first-of-two : t ≡ true → v ≡ false → Chosen b l w bit first
  first-of-two g n =
      let one = search-own b l w bit first end first NO_FRAME begun d (omega arith) t x g first (better-only b NO_FRAME first (omega arith) (omega arith)) in
      alone first (omega arith) (search-other b l w bit first end (first + 1) first one d (omega arith) v y n)

  pub second-of-two : t ≡ false → v ≡ true → Chosen b l w bit (first + 1)
  second-of-two n g =
      let none = search-other b l w bit first end first NO_FRAME begun d (omega arith) t x n in
      alone (first + 1) (omega arith)
      (search-own b l w bit first end (first + 1) NO_FRAME none d (omega arith) v y g (first + 1) (better-only b NO_FRAME (first + 1) (omega arith) (omega arith)))
