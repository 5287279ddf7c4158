use Rattle.std.proofs.Common.{sym, ◌∙◌}
use Rattle.cutting.specs.Pieces.{Hash, ends}
use Rattle.cutting.proofs.Cuts.{first_piece}
use Rattle.cutting.proofs.places.statement.Goals as goal

pub returns : goal.returns
returns c = c.cut.ensures.front ∙ sym (first_piece (ends Hash) c.args.line.now)
