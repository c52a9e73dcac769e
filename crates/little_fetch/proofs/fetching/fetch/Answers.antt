use Rattle.std.proofs.Common.{arith, refl}
use Rattle.little_fetch.proofs.fetching.LittleChartCases.{too-short, fetched}
use Rattle.little_fetch.proofs.fetching.fetch.Goals as goal

pub returns-then-text-count : goal.returns-then-text-count
returns-then-text-count c =
    let r = c.requires in
    too-short _ _ _ r.few.some r.few.few r.low _ refl c.if-text-count.true

pub returns : goal.returns
returns c =
    let r = c.requires in
    fetched _ _ _ r.few.some r.few.few r.low _ c.seek_first.ensures _ c.unwrap_or-numbers.ensures _ c.unpack.ensures
    _ refl (omega (arith, r.few.whole, c.unpack.auto.records)) c.if-text-count.false _ c.put_text.ensures
