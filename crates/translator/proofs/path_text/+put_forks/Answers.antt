-- `translator::path_text::put_forks`: a row where the path ends, else the paths of both sides, each where the one before ends.
use Rattle.std.proofs.Common.{ℕ, arith, rules}
use Rattle.text.specs.frames.Frame.{size}
use Rattle.chart_rows.specs.inner.NodeRows.{paths_from}
use Rattle.chart_rows.specs.inner.PathContracts.{PathAt}
use Rattle.chart_rows.proofs.PathCases.{Fork, arrived-inside, paths-fork, side-0, side-1}
use Rattle.translator.specs.inner.LabelBytes.{Put}
use Rattle.translator.specs.inner.RowBytes.{rows_bytes}
use Rattle.translator.proofs.label_text.Puts.{both-first, both-second, both-done, put-as}
use Rattle.translator.proofs.path_text.RowPuts.{ends, ends-at-once, end-room, end-done, fork-parts}
use Rattle.translator.proofs.path_text.+put_forks.Goals as goal
use Rattle.translator.proofs.path_text.+put_forks.Goals.{After-field-high, Joined-notes-end-gt15, then-notes-end-gt15, else-notes-end-gt15}

pub put_row-requires : goal.put_row-requires
put_row-requires t c = end-room (ends c.requires.path_at c.settle-v.ensures c.if-i-gt15.true) _ _ _ c.requires.room

pub returns-then-i-gt15 : goal.returns-then-i-gt15
returns-then-i-gt15 t c = end-done (ends c.requires.path_at c.settle-v.ensures c.if-i-gt15.true) _ _ c.put_row.ensures

pub field-low-requires : goal.field-low-requires
field-low-requires t c = let inside = arrived-inside c.requires.path_at c.settle-v.ensures in search rules

pub field-high-requires : goal.field-high-requires
field-high-requires t c = let inside = arrived-inside c.requires.path_at c.settle-v.ensures in search rules

fork : (t : ℕ) (c : After-field-high t)
    → Fork c.args.records.now c.args.care c.args.values c.args.node c.with_bit-tested.result c.with_bit-valued.result c.field-low.result c.field-high.result
fork t c =
    paths-fork c.requires.path_at c.settle-v.ensures c.if-i-gt15.false c.with_bit-tested.ensures c.with_bit-valued.ensures
    c.field-low.ensures c.field-high.ensures

pub put_row-place-requires : goal.put_row-place-requires
put_row-place-requires t c =
    let k = fork t (goal.at.put_row-place-requires t c).After-field-high in
    end-room (ends-at-once (side-0 c.requires.path_at k) c.if-notes-end-gt15.true) _ _ _ (both-first (fork-parts k _ _) _ _ c.requires.room)

pub put_forks-place-requires : goal.put_forks-place-requires
put_forks-place-requires t c =
    let k = fork t (goal.at.put_forks-place-requires t c).After-field-high in (
      omega (arith, k.falls0, c.decreases),
      (side-0 c.requires.path_at k, both-first (fork-parts k _ _) _ _ c.requires.room),
    )

-- the rows of the 0 side, written by either branch
low : (t : ℕ) (c : Joined-notes-end-gt15 t) → let a = c.args in
    PathAt a.records.now a.notes.now c.with_bit-tested.result a.values c.field-low.result → Put a.out.now a.at
    (rows_bytes (paths_from (size a.records.now) a.records.now a.from a.bit c.with_bit-tested.result a.values c.field-low.result))
    c.if-notes-end-gt15.place c.if-notes-end-gt15.out
low t c side = elim c.if-notes-end-gt15.branch [
  | then-notes-end-gt15 w ↦ put-as w.place-is w.out-is
      (end-done (ends-at-once side w.if-notes-end-gt15.true) _ _ w.put_row-place.ensures)
  | else-notes-end-gt15 w ↦ put-as w.place-is w.out-is w.put_forks-place.ensures
]

pub put_forks-requires : goal.put_forks-requires
put_forks-requires t c =
    let at = goal.at.put_forks-requires t c in
    let k = fork t at.After-field-high in
    let done = low t at.Joined-notes-end-gt15 (side-0 c.requires.path_at k) in (
      omega (arith, k.falls1, c.decreases),
      (side-1 c.requires.path_at k, both-second (fork-parts k _ _) c.requires.room done),
    )

pub returns : goal.returns
returns t c =
    let at = goal.at.returns t c in
    let k = fork t at.After-field-high in
    both-done (fork-parts k _ _) c.requires.room (low t at.Joined-notes-end-gt15 (side-0 c.requires.path_at k)) c.put_forks.ensures
