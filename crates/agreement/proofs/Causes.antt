-- What a caller learns by the contract of cause_of, and of fairleadow_cause from C:
-- with success the row, the mask and the bit that are reported explain the tick, so that the laws of a cause hold of them.
-- `a` has the arguments, `r` the result, and `s` the arguments at exit, as in Contracts.
use Rattle.std.proofs.Common.{ℕ, ◌≡◌, sym, ◌∙◌, subst, List, arith}
use denote.Triple.Clauses.{AtExit}
use borrow.Fn.World.{ArgsD, ResD}
use contract.Lifetimes.{Lfts}
use Rattle.text.specs.frames.Answer.{success, reply_count}
use Rattle.state.specs.declared.State.{State as Kept}
use Rattle.state.specs.State.{State, Sized}
use Rattle.state.specs.Kept.{view}
use Rattle.cause.specs.Cause.{explain, cause_reply, cause_row, cause_mask, cause_bit}
use Rattle.cause.specs.Laws.{Explains}
use Rattle.cause.proofs.Answers.{answered}
use Rattle.fairleadow.specs.CausesForC.{GivesCauseC, cause_for}
use Rattle.agreement.specs.Told.{cause_report, CauseTold, CauseToldC}
use Rattle.agreement.proofs.Contracts.{cause-tells-c}
use Rattle.agreement.proofs.Numbers.{cause-success}
use Rattle.cause.specs.contracts.explaining.cause_of as cause-of
use Rattle.cause.proofs.explaining.cause_of.Reads as cause-of-reads
use Rattle.fairleadow.specs.contracts.causes_for_c.fairleadow_cause as c-cause
use Rattle.fairleadow.proofs.causes_for_c.fairleadow_cause.Reads as c-cause-reads

-- ---- by the records of the two calls
explained : (t : List ℕ) (s : State) (w n : ℕ) → Sized s → (explain t s w).reply ≡ success n → (k m b : ℕ)
    → k ≡ (explain t s w).cause.row → m ≡ (explain t s w).cause.mask → b ≡ (explain t s w).cause.bit → Explains t s w (cause_report k m b)
explained t s w n h e k m b p q o = grind (arith, answered t s w n h e)

pub cause-explains : CauseTold
unfolding CauseTold
cause-explains t s w r c h n d = explained t (view s) w n h (sym c.answered ∙ d) (cause_row r) (cause_mask r) (cause_bit r) c.row c.mask c.bit

pub cause-explains-c : CauseToldC
unfolding CauseToldC
cause-explains-c t s w at made k m o c =
    explained t (view s) w (reply_count (explain t (view s) w).reply) c.sized (cause-success t (view s) w (sym c.told.number-is)) k m o
    c.row c.mask c.bit

-- ---- by what the contracts let a caller learn
pub cause-told : (κs : Lfts 2) (a : ArgsD cause-of.signature κs) (r : ResD cause-of.signature κs) (s : AtExit cause-of.ended κs)
    → cause-of-reads.Learnt κs a r s → Sized (view a.1.0.now) → (n : ℕ) → cause_reply r ≡ success n
    → Explains a.0.now (view a.1.0.now) a.1.1.0 (cause_report (cause_row r) (cause_mask r) (cause_bit r))
unfolding CauseTold
cause-told κs a r s e h n d = cause-explains a.0.now a.1.0.now a.1.1.0 r e h n d

pub cause-told-c : (κs : Lfts 7) (a : ArgsD c-cause.signature κs) (r : ResD c-cause.signature κs) (s : AtExit c-cause.ended κs)
    → c-cause-reads.Learnt κs a r s → r ≡ 0
    → Explains a.0.now (view a.1.0.now) a.1.1.0 (cause_report s.1.1.1.0.now s.1.1.1.1.0.now s.1.1.1.1.1.0.now)
unfolding CauseToldC
cause-told-c κs a r s e z =
    let t : List ℕ = a.0.now in
    let b : Kept = a.1.0.now in
    let w : ℕ = a.1.1.0 in
    let k : ℕ = s.1.1.1.0.now in
    let m : ℕ = s.1.1.1.1.0.now in
    let o : ℕ = s.1.1.1.1.1.0.now in
    let at : ℕ = s.1.1.1.1.1.1.0.now in
    let made : ℕ = s.1.1.1.1.1.1.1.0.now in
    cause-explains-c t b w at made k m o (subst (λ (x : ℕ). GivesCauseC b (cause_for t b w) x at made k m o) z (cause-tells-c κs a r s e))
