use Rattle.std.proofs.Common.{◌∙◌}
use Rattle.ranges.proofs.Fronts.{front_whole}
use Rattle.ranges.proofs.table.Table.new.Goals as goal

pub returns-clause-whole : goal.returns-clause-whole
returns-clause-whole g c = λ up. c.ordered.ensures.front ∙ front_whole 0 c.args.records.now up
