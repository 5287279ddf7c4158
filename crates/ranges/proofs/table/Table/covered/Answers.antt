use Rattle.std.proofs.Common.{arith}
use Rattle.ranges.proofs.Covering.{count_below, covered_more}
use Rattle.ranges.proofs.table.Table.covered.Goals as goal

pub loop-range-preserved : goal.loop-range-preserved
loop-range-preserved g c =
    let rows = c.args.self.now.records.now in
    let i = c.loop-range.range-index in
    let row = c.range-item.result in
    let more = covered_more rows i row c.loop-range-test.true c.range-item.is in
    let below = count_below c.loop-range.total rows i row c.loop-range-test.true c.range-item.is c.loop-range.invariant.1 in
    (omega (arith, c.loop-range.invariant.0), below.2, omega arith)
