use Rattle.std.proofs.Common.{length, ap, ◌∙◌, arith}
use Rattle.std.proofs.lemmas.List.{length-take-le}
use Rattle.ranges.proofs.Places.{place_within}
use Rattle.ranges.proofs.Placing.{placed_from}
use Rattle.ranges.proofs.Refusing.{kept_ascending}
use Rattle.ranges.specs.Tables.{kept}
use Rattle.ranges.proofs.filling.Filling.insert.Goals as goal

pub put-requires-clause-among : goal.put-requires-clause-among
put-requires-clause-among g c =
    let slots = c.args.self.now.slots in
    let long = ap length c.kept.ensures ∙ length-take-le slots.used slots.records.now slots.within in
    omega (arith, long, c.in_ok-place.ensures.place, place_within c.args.range.first c.kept.result.now)

pub invariant_of-self : goal.invariant_of-self
invariant_of-self g c =
    let filling = c.args.self.now in
    let found = rw c.kept.ensures at c.in_ok-place.ensures in
    let placed = placed_from c.args.range (kept filling) _ c.in_ok-place.place c.put.ensures.rows found.place in
    record { ascends = kept_ascending c.capacity.result c.args.range (kept filling) _ filling.ascends found.told placed }
