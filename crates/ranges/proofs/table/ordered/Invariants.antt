use Rattle.std.proofs.Common.{◌≡◌, ◌+◌, length, drop}
use Rattle.ranges.proofs.table.ordered.Given as goal
use Rattle.ranges.specs.Rows.{front, front_from}

abbrev pub invariant-loop-i : goal.invariant-loop-i
invariant-loop-i g l = l.i + length (front_from l.low (drop l.i l.records)) ≡ length (front l.records)
