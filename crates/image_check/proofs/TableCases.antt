-- The verdict on a table, as the code comes to it; what acceptance of one gives first.
use Rattle.std.proofs.Common.{◌≡◌, ◌∙◌, ap, Bool, true, false, ◌||◌, not, List, ℕ, ◌+◌, ◌≤◌, ◌<◌, arith, lt-ltb, le-ltb, eqb-true, ◌==◌}
use Rattle.words.specs.lists.Numbers.{lowest}
use Rattle.words.proofs.lists.Tests.{or-l, or-r, not-false}
use Rattle.words.proofs.lists.Searches.{lowest-past, lowest-none, lowest-alike}
use Rattle.text.specs.frames.Frame.{size, field}
use Rattle.text.specs.frames.Answer.{success, refusal, verdict_reply}
use Rattle.image.specs.Decode.{row_count, rows_from}
use Rattle.image.specs.Check.{is_filled, has_bad_handler, has_bad_counts, is_bad_header, is_stray, has_bad_content, table_verdict}
use Rattle.image_check.specs.inner.FaultyFrames.{is_faulty}

-- a good header tells how many frames there are
pub header-size : (b : List ℕ) → is_bad_header b ≡ false → size b ≡ rows_from b + row_count b
unfolding is_bad_header
header-size b e =
    eqb-true (size b) (rows_from b + row_count b)
    (not-false (size b == rows_from b + row_count b)
    (or-r (not (field b 0 0 == 15) || is_filled b 0 6 4 || has_bad_handler b || has_bad_counts b)
    (not (size b == rows_from b + row_count b)) e))

module _ (b : List ℕ) where
  pub table-header : is_bad_header b ≡ true → refusal 11 0 0 ≡ verdict_reply (table_verdict b) 0
  unfolding table_verdict
  table-header h = simp h

  module _ (h : is_bad_header b ≡ false) (t : ℕ) (q : t ≡ lowest (is_faulty b) 0 (size b)) where
    none : size b ≤ t → (k : ℕ) → k < size b → is_faulty b k ≡ false
    none l k m = lowest-past (is_faulty b) 0 (size b) (omega arith) k (omega arith) (omega arith)

    pub table-good : size b ≤ t → success 0 ≡ verdict_reply (table_verdict b) 0
    unfolding table_verdict
    table-good l =
        let s : lowest (is_stray b) 0 (size b) ≡ 0 + size b =
        lowest-none (is_stray b) 0 (size b) (λ k m. or-l (is_stray b (0 + k)) (has_bad_content b (0 + k)) (none l (0 + k) (omega arith))) in
        let c : lowest (has_bad_content b) 0 (size b) ≡ 0 + size b =
        lowest-none (has_bad_content b) 0 (size b) (λ k m. or-r (is_stray b (0 + k)) (has_bad_content b (0 + k))
        (none l (0 + k) (omega arith))) in
        simp (
          h,
          le-ltb (lowest (is_stray b) 0 (size b)) (size b) (omega arith),
          le-ltb
              (lowest (has_bad_content b) 0 (size b)) (size b) (omega arith),
        )

    module _ (s : ℕ) (p : s ≡ lowest (is_stray b) 0 (size b)) where
      pub table-stray : s < size b → refusal 12 s 0 ≡ verdict_reply (table_verdict b) 0
      unfolding table_verdict
      table-stray l = ap (λ (n : ℕ). refusal 12 n 0) p ∙ simp (h, lt-ltb (lowest (is_stray b) 0 (size b)) (size b) (omega arith))

      -- where no frame is stray, one at fault has bad fields
      pub table-bad : size b ≤ s → t < size b → refusal 13 t 0 ≡ verdict_reply (table_verdict b) 0
      unfolding table_verdict
      table-bad l m =
          let same : t ≡ lowest (has_bad_content b) 0 (size b) =
          q ∙ lowest-alike (is_faulty b) (has_bad_content b) 0 (size b)
          (λ k a e. ap (λ (x : Bool). x || has_bad_content b k) (lowest-past (is_stray b) 0 (size b) (omega arith) k a e)) in
          ap (λ (n : ℕ). refusal 13 n 0) same
          ∙ simp (
            h,
            le-ltb (lowest (is_stray b) 0 (size b)) (size b) (omega arith),
            lt-ltb
                (lowest (has_bad_content b) 0 (size b)) (size b) (omega arith),
          )

pub ruleset table_cases = (table-header, table-good, table-stray, table-bad)
