-- The calls that notice damage, as in Contracts: what a caller learns of one is the very verdict, or the very sum.
-- `a` has the arguments, `r` the result, and `s` the arguments at exit, each in the order of the function's parameters.
use Rattle.std.proofs.Common.{◌≡◌}
use contract.Lifetimes.{Lfts}
use denote.Triple.Clauses.{AtExit}
use borrow.Fn.World.{ArgsD, ResD}
use Rattle.text.specs.frames.Answer.{reply, verdict_reply}
use Rattle.table_check.specs.TableCheck.{prepared_verdict}
use Rattle.crc.specs.Crc.{crc}
use Rattle.fairleadow.specs.AnswersForC.{GivesReplyC}
use Rattle.table_check.specs.contracts.check_table as check-table
use Rattle.table_check.proofs.check_table.Reads as check-table-reads
use Rattle.crc.specs.contracts.sum as sum
use Rattle.crc.proofs.sum.Reads as sum-reads
use Rattle.fairleadow.specs.contracts as c
use Rattle.fairleadow.proofs as c-proofs

pub check-table-answered : (κs : Lfts 1) (a : ArgsD check-table.signature κs) (r : ResD check-table.signature κs) (s : AtExit check-table.ended κs)
    → check-table-reads.Learnt κs a r s → reply r ≡ verdict_reply (prepared_verdict a.0.now) 0
check-table-answered κs a r s e = e

pub sum-told : (κs : Lfts 1) (a : ArgsD sum.signature κs) (r : ResD sum.signature κs) (s : AtExit sum.ended κs) → sum-reads.Learnt κs a r s
    → r ≡ crc a.0 a.1.0.now
sum-told κs a r s e = e

-- ---- the functions for C
pub check-table-answered-c : (κs : Lfts 3) (a : ArgsD c.damage_for_c.fairleadow_check_table.signature κs)
    (r : ResD c.damage_for_c.fairleadow_check_table.signature κs) (s : AtExit c.damage_for_c.fairleadow_check_table.ended κs)
    → c-proofs.damage_for_c.fairleadow_check_table.Reads.Learnt κs a r s
    → GivesReplyC (verdict_reply (prepared_verdict a.0.now) 0) r s.1.0.now s.1.1.0.now
check-table-answered-c κs a r s e = e

pub sum-told-c : (κs : Lfts 1) (a : ArgsD c.damage_for_c.fairleadow_sum.signature κs) (r : ResD c.damage_for_c.fairleadow_sum.signature κs)
    (s : AtExit c.damage_for_c.fairleadow_sum.ended κs) → c-proofs.damage_for_c.fairleadow_sum.Reads.Learnt κs a r s → r ≡ crc a.0 a.1.0.now
sum-told-c κs a r s e = e
