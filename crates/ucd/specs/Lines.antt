-- Lines of a data file: fields parted by ';', and a comment from '#' on. Assumes nothing.
use Rattle.std.specs.Prelude.{◌≡◌, ℕ, ◌+◌, ◌-◌, Bool, false, cond, ◌&&◌, List, length, take, drop, Ok, Err, Result, ◌==◌, nat_lt, slice_index}
use Rattle.std.specs.List.{prefix_len}
use Rattle.ucd.specs.Bytes.{Uncommented, InField, Blank, is, stripped}
use Rattle.ucd.specs.declared.faults.Field.TheVariants.{Whole}
use Rattle.ucd.specs.declared.faults.Finder.TheVariants.{Line}
use Rattle.ucd.specs.declared.faults.LineFault.{LineFault}
use Rattle.ucd.specs.declared.faults.Reason.{Reason}
use Rattle.ucd.specs.declared.faults.Reason.TheVariants.{LongLine, FieldCount}
use Rattle.ucd.specs.declared.pieces.Parts.{Parts}
use Rattle.ucd.specs.declared.pieces.Parts.TheVariants.{Blank as blank_parts, Listing as listing_parts}
use Rattle.ucd.specs.declared.pieces.Piece.{Piece}

-- bytes of a line, and where in the line they begin
pub record Part : Type 0 where
  pub text : List ℕ
  pub start : ℕ

-- a piece as the program holds it
abbrev pub seen : Piece → Part
seen p = record { text = p.bytes.now; start = p.place }

-- what a line may hold: no more than a comment, or a range, a value and a comment
pub data Layout : Type 0 where
  blank : Part → Layout
  listing : Part → Part → Part → Layout

-- the parts as the program holds them
abbrev pub laid_out : Parts → Layout
laid_out (blank_parts comment) = blank (seen comment)
laid_out (listing_parts range value comment) = listing (seen range) (seen value) (seen comment)

-- without the carriage return at the end, if one is there
abbrev pub unreturned : List ℕ → List ℕ
unreturned s = cond (slice_index s (length s - 1) == 13) (take (length s - 1) s) s

-- without the blanks around them, and without the carriage return at their end if they close the line
abbrev pub core_of : Bool → List ℕ → List ℕ
core_of closing s = stripped (cond closing (unreturned s) s)

-- a field that begins at this place of the line; where nothing is left of it, it lies at its end
abbrev pub field : Bool → ℕ → List ℕ → Part
field closing place s = record {
  text = core_of closing s;
  start = place + cond (length (core_of closing s) == 0) (length s) (prefix_len (is Blank) s);
}

-- a fault of the whole line
abbrev pub whole : Reason → LineFault
whole why = record { reason = why; field = Whole; place = 0; finder = Line }

-- whether the first ';', which stands at `first`, is there, and no other follows it
abbrev pub parts_once : List ℕ → ℕ → Bool
parts_once s first = nat_lt first (length s) && prefix_len (is InField) (drop (first + 1) s) == length (drop (first + 1) s)

-- the parts of a line with these bytes before its comment, if the first ';' stands at `first`: no other may follow
abbrev pub fields_at : Bool → List ℕ → Part → ℕ → Result Layout LineFault
fields_at closing s comment first =
    cond (parts_once s first)
    (Ok (listing (field false 0 (take first s)) (field closing (first + 1) (drop (first + 1) s)) comment))
    (Err (whole FieldCount))

-- the parts of a line with these bytes before its comment
abbrev pub two_fields : Bool → List ℕ → Part → Result Layout LineFault
two_fields closing s comment = fields_at closing s comment (prefix_len (is InField) s)

-- '#' and what follows it, or nothing at the line's end
abbrev pub comment_at : List ℕ → ℕ → Part
comment_at line end = record { text = drop end line; start = end }

-- the parts of a line whose first '#' stands at `end`, or which ends there without one
abbrev pub parts_at : List ℕ → ℕ → Result Layout LineFault
parts_at line end =
    cond (length (core_of (end == length line) (take end line)) == 0)
    (Ok (blank (comment_at line end)))
    (two_fields (end == length line) (take end line) (comment_at line end))

-- the parts of a line
abbrev pub layout : List ℕ → Result Layout LineFault
layout line = cond (nat_lt 1024 (length line)) (Err (whole LongLine)) (parts_at line (prefix_len (is Uncommented) line))

-- an answer with these parts, as the program holds them, or with this fault
abbrev pub Laid : Result Parts LineFault → Result Layout LineFault → Type 0
Laid (Ok parts) x = x ≡ Ok (laid_out parts)
Laid (Err fault) x = x ≡ Err fault
