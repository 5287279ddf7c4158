use Rattle.std.proofs.Common.{◌≡◌}
use Rattle.cutting.specs.Left.{lines_left}
use Rattle.cutting.specs.Pieces.{lines}
use Rattle.ranges.specs.Tables.{kept, room}
use Rattle.ucd.proofs.Reading.{Sofar}
use Rattle.ucd.proofs.files.read_lines.Given as goal

abbrev pub invariant-loop-i : goal.invariant-loop-i
invariant-loop-i g l =
    Sofar g.P.Property.listed g.P.Property.meant g.P.Property.shared (room l.initial.table) (lines l.bytes) (lines_left l.i-iterator.iter) l.count (kept l.initial.table) (kept l.table)
    × (l.i-iterator.count ≡ l.count)
    × (room l.table ≡ room l.initial.table)
