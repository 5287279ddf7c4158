use Rattle.std.proofs.Common.{length}
use Rattle.ucd.proofs.Digits.{Remains}
use Rattle.ucd.proofs.points.hex.Given as goal

abbrev pub invariant-loop-rest : goal.invariant-loop-rest
invariant-loop-rest l = Remains l.text l.number l.rest

abbrev pub decreases-loop-rest : goal.decreases-loop-rest
decreases-loop-rest l = length l.rest
