use Rattle.std.proofs.Common.{◌≡◌, ◌+◌, ◌^◌, ◌≤◌, true, drop}
use Rattle.ranges.proofs.table.Table.covered.Given as goal
use Rattle.ranges.specs.Rows.{ascending_from, covered}

abbrev pub invariant-loop-range : goal.invariant-loop-range
invariant-loop-range g l =
    (l.total + covered (drop l.range-index l.self.records.now) ≡ covered l.self.records.now)
    × (ascending_from l.total (drop l.range-index l.self.records.now) ≡ true)
    × (l.total ≤ 2 ^ 32)
