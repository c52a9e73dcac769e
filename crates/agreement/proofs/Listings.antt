-- What a caller learns by the contract of list_rows, and of fairleadow_list_rows from C:
-- with success the two buffers hold the rows of each label.
-- `a` has the arguments, `r` the result, and `s` the arguments at exit, as in Contracts.
use Rattle.std.proofs.Common.{ℕ, ◌≡◌, sym, ◌∙◌, ap, subst, List, arith}
use denote.Triple.Clauses.{AtExit}
use borrow.Fn.World.{ArgsD, ResD}
use contract.Lifetimes.{Lfts}
use Rattle.text.specs.frames.Answer.{success, reply}
use Rattle.rows.specs.listing.Listing.{list}
use Rattle.rows.specs.listing.Exact.{Held}
use Rattle.rows.proofs.listing.Answers.{held}
use Rattle.fairleadow.specs.ImagesForC.{GivesListingC}
use Rattle.agreement.specs.Told.{RowsListed, RowsListedC}
use Rattle.agreement.proofs.Contracts.{list-rows-lends-c}
use Rattle.agreement.proofs.Numbers.{list-success}
use Rattle.rows.specs.contracts.image_rows.list_rows as list-rows
use Rattle.rows.proofs.image_rows.list_rows.Reads as list-rows-reads
use Rattle.fairleadow.specs.contracts.images_for_c.fairleadow_list_rows as c-list-rows
use Rattle.fairleadow.proofs.images_for_c.fairleadow_list_rows.Reads as c-list-rows-reads

holding : (t xs ys : List ℕ) (n : ℕ) → (list t xs ys).reply ≡ success n → (us vs : List ℕ)
    → us ≡ (list t xs ys).firsts → vs ≡ (list t xs ys).counts
    → Held t us vs n
holding t xs ys n e us vs p q = grind (arith, held t xs ys n e)

-- ---- by the records of the two calls
pub rows-held : RowsListed
unfolding RowsListed
rows-held t xs ys r us vs c n d = holding t xs ys n (sym c.answered ∙ d) us vs c.firsts c.counts

pub rows-held-c : RowsListedC
unfolding RowsListedC
rows-held-c t xs ys at n us vs c =
    holding t xs ys n (list-success t xs ys (sym c.told.number-is) ∙ ap success (sym c.told.count-is)) us vs c.firsts c.counts

-- ---- by what the contracts let a caller learn
pub rows-listed : (κs : Lfts 3) (a : ArgsD list-rows.signature κs) (r : ResD list-rows.signature κs) (s : AtExit list-rows.ended κs)
    → list-rows-reads.Learnt κs a r s → (n : ℕ) → reply r ≡ success n → Held a.0.now s.1.0.now s.1.1.0.now n
unfolding RowsListed
rows-listed κs a r s e n d = rows-held a.0.now a.1.0.now a.1.1.0.now r s.1.0.now s.1.1.0.now e n d

pub rows-listed-c : (κs : Lfts 5) (a : ArgsD c-list-rows.signature κs) (r : ResD c-list-rows.signature κs) (s : AtExit c-list-rows.ended κs)
    → c-list-rows-reads.Learnt κs a r s → r ≡ 0 → Held a.0.now s.1.0.now s.1.1.0.now s.1.1.1.1.0.now
unfolding RowsListedC
rows-listed-c κs a r s e z =
    let t : List ℕ = a.0.now in
    let xs : List ℕ = a.1.0.now in
    let ys : List ℕ = a.1.1.0.now in
    let at : ℕ = s.1.1.1.0.now in
    let n : ℕ = s.1.1.1.1.0.now in
    let us : List ℕ = s.1.0.now in
    let vs : List ℕ = s.1.1.0.now in
    rows-held-c t xs ys at n us vs (subst (λ (x : ℕ). GivesListingC (list t xs ys) x at n us vs) z (list-rows-lends-c κs a r s e))
