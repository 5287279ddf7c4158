use Rattle.std.proofs.Common.{ltb, rules}
use Rattle.std.proofs.lemmas.List.Sorted.{IsPartitionPoint-from_clause, IsPartitionedBy-ltb}
use Rattle.ranges.proofs.Places.{ends_ascend, place_is}
use Rattle.ranges.proofs.table.Table.place_of.Goals as goal

pub returns : goal.returns
returns g c =
    let table = c.args.self.now in
    let at = c.args.c in
    let point = c.partition_point.ensures in
    let parted = IsPartitionedBy-ltb (λ row. row.last) table.records.now at (ends_ascend 0 table.records.now table.ascends) in
    place_is at table.records.now c.partition_point.result point.bound
    (IsPartitionPoint-from_clause (λ row. ltb row.last at) _ _ point.partitioned parted (λ a r q k. search rules))
