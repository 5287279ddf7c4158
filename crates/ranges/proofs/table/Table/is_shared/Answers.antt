use Rattle.std.proofs.Common.{rules}
use Rattle.ranges.proofs.Sharing.{shares_asked}
use Rattle.ranges.proofs.table.Table.is_shared.Goals as goal

pub returns : goal.returns
returns g c =
    let table = c.args.self.now in
    shares_asked table.records.now c.args.range c.args.place c.get.result c.is_some_and.result table.ascends c.requires c.get.ensures.lookup c.is_some_and.ensures (λ x q. search rules)
