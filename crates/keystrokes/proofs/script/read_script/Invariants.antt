use Rattle.cutting.specs.Left.{lines_left}
use Rattle.cutting.specs.Pieces.{lines}
use Rattle.keystrokes.proofs.Listing.{Sofar}
use Rattle.keystrokes.proofs.script.read_script.Given as goal

abbrev pub invariant-loop-line : goal.invariant-loop-line
invariant-loop-line l = Sofar (lines l.bytes) (lines_left l.line-iterator) l.script
