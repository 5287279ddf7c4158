use Rattle.std.proofs.Common.{◌<◌, length, arith, false-eqb}
use Rattle.cutting.specs.Pieces.{Newline, ends}
use Rattle.cutting.proofs.Cuts.{pieces_first, fewer}
use Rattle.cutting.proofs.lines.LinesIterator.next.Goals as goal

pub returns-clause-steps : goal.returns-clause-steps
returns-clause-steps c =
    let bytes = c.args.self.now.rest.now in
    let some : 0 < length bytes = omega (arith, false-eqb _ 0 c.if-is_empty.ensures) in
    simp (c.cut.ensures.front, c.cut.ensures.rest) (pieces_first (ends Newline) bytes some)

pub returns-clause-goes : goal.returns-clause-goes
returns-clause-goes c = record { on = λ _. (tt, tt, fewer _ _ _ (returns-clause-steps c)); keeps = tt; rests = λ _. tt }
