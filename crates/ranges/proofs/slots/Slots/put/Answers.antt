use Rattle.std.proofs.Common.{◌-◌, arith}
use Rattle.ranges.proofs.Shifting.{shifted}
use Rattle.ranges.proofs.slots.Slots.put.Goals as goal

pub returns-clause-rows : goal.returns-clause-rows
returns-clause-rows g c =
    let slots = c.args.self.now in
    let place = c.args.place in
    shifted slots.records.now c.copy_within.new.self c.args.range slots.used place (slots.used - place) c.copy_within.ensures.after (omega arith) c.requires.free
