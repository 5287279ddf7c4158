-- Numbers and sentences of faults. Assumes nothing.
use Rattle.std.specs.Prelude.{ℕ, List, ◌++◌, codes}
use Rattle.std.specs.Fmt.{decimal}
use Rattle.ucd.specs.declared.faults.Fault.{Fault}
use Rattle.ucd.specs.declared.faults.Field.{Field}
use Rattle.ucd.specs.declared.faults.Field.TheVariants.{Whole, First, Second}
use Rattle.ucd.specs.declared.faults.Finder.{Finder}
use Rattle.ucd.specs.declared.faults.Finder.TheVariants.{Line as line_reader, Field as field_reader, File as file_reader}
use Rattle.ucd.specs.declared.faults.Reason.{Reason}
use Rattle.ucd.specs.declared.faults.Reason.TheVariants.{LongLine, FieldCount, BadRange, BadPoint, BadName, Shared, Full}

abbrev pub reason_number : Reason → ℕ
reason_number LongLine = 1
reason_number FieldCount = 2
reason_number BadRange = 3
reason_number BadPoint = 4
reason_number BadName = 5
reason_number Shared = 6
reason_number Full = 7

abbrev pub reason_sentence : Reason → List ℕ
reason_sentence LongLine = codes "the line has over 1,024 bytes"
reason_sentence FieldCount = codes "the data line does not have two fields"
reason_sentence BadRange = codes "field 1 is neither one code point nor two joined by \"..\", each of 4 to 6 digits 0-9 or A-F"
reason_sentence BadPoint = codes "a code point of field 1 is above 10FFFF, or the first is above the last"
reason_sentence BadName = codes "field 2 is no name of this file's property"
reason_sentence Shared = codes "the range shares a code point with a kept one"
reason_sentence Full = codes "the table has no free record"

-- 0 stands for the whole line
abbrev pub field_number : Field → ℕ
field_number Whole = 0
field_number First = 1
field_number Second = 2

abbrev pub finder_name : Finder → List ℕ
finder_name line_reader = codes "line reader"
finder_name field_reader = codes "field reader"
finder_name file_reader = codes "file reader"

-- a fault as it is told: its line, field and place, then the number and the sentence of its reason
abbrev pub fault_text : Fault → List ℕ
fault_text fault =
    codes "line " ++ (decimal fault.line
    ++ (codes ", field " ++ (decimal (field_number fault.in_line.field)
    ++ (codes ", byte " ++ (decimal fault.in_line.place
    ++ (codes ": refused " ++ (decimal (reason_number fault.in_line.reason)
    ++ (codes ": " ++ reason_sentence fault.in_line.reason))))))))
