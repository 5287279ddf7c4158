use Rattle.std.proofs.Common.{◌≡◌, ◌<◌, ◌⊎◌, length, drop, inl, inr, arith}
use Rattle.std.proofs.lemmas.List.{at_drop_all}
use Rattle.ranges.proofs.Fronts.{front_counted, front_stops}
use Rattle.ranges.specs.Rows.{front_from}
use Rattle.ranges.proofs.table.ordered.Goals as goal
use Rattle.ranges.proofs.table.ordered.Goals.{then-range-low-via-then-range-low, then-range-low-via-else-range-low+then-range}

pub returns-then-range-low : goal.returns-then-range-low
returns-then-range-low g c =
    let rows = c.args.records.now in
    let row = c.index-records-i.result in
    let stops : (row.first < c.loop-i.low) ⊎ (row.last < row.first) = elim c.then-range-low.branch [
      | then-range-low-via-then-range-low w ↦ inl w.if-range-low.true
      | then-range-low-via-else-range-low+then-range w ↦ inr w.if-range.true
    ] in
    let none = front_stops c.loop-i.low rows c.loop-i.i row c.loop-i-test.true c.index-records-i.is stops in
    let counted = front_counted rows c.loop-i.i (omega (arith, c.loop-i.invariant)) in
    record { within = counted.0; front = counted.1; ascends = counted.2 }

pub returns : goal.returns
returns g c =
    let rows = c.args.records.now in
    let none : length (front_from c.loop-i.low (drop c.loop-i.i rows)) ≡ 0 = at_drop_all (λ all. length (front_from c.loop-i.low all)) rows c.loop-i.i c.loop-i-test.false in
    let counted = front_counted rows (length rows) (omega (arith, c.loop-i.invariant)) in
    record { within = counted.0; front = counted.1; ascends = counted.2 }
