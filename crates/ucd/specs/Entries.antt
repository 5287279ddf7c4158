-- What a line of a data file lists of a property. Assumes nothing.
use Rattle.std.specs.Prelude.{ℕ, Bool, cond, List, Some, None, Ok, Err, Option, Result}
use Rattle.ucd.specs.Lines.{Part, Layout, blank, listing, layout}
use Rattle.ucd.specs.Points.{range_of}
use Rattle.ucd.specs.declared.faults.Field.{Field}
use Rattle.ucd.specs.declared.faults.Field.TheVariants.{First, Second}
use Rattle.ucd.specs.declared.faults.Finder.TheVariants.{Field as field_reader}
use Rattle.ucd.specs.declared.faults.LineFault.{LineFault}
use Rattle.ucd.specs.declared.faults.Reason.{Reason}
use Rattle.ucd.specs.declared.faults.Reason.TheVariants.{BadName}
use Rattle.ucd.specs.declared.listings.Listing.{Listing}

-- a fault of a field that begins at this place
abbrev pub blame : Reason → Field → ℕ → LineFault
blame why which place = record { reason = why; field = which; place = place; finder = field_reader }

-- a fault of field 1, if there is one
abbrev pub blamed : ℕ → Result (ℕ × ℕ) Reason → Result (ℕ × ℕ) LineFault
blamed place (Ok ends) = Ok ends
blamed place (Err why) = Err (blame why First place)

-- the first and the last code point of the range
abbrev pub range_field : Part → Result (ℕ × ℕ) LineFault
range_field field = blamed field.start (range_of field.text)

-- the value that a name stands for; another name stands for none in a file that lists other properties too
abbrev pub known : {V : Type 0} → Bool → ℕ → Option V → Result (Option V) LineFault
known shared place (Some v) = Ok (Some v)
known shared place None = cond shared (Ok None) (Err (blame BadName Second place))

-- what field 2 says, where names stand for values as `meant` tells
abbrev pub value_field : {V : Type 0} → (List ℕ → Option V) → Bool → Part → Result (Option V) LineFault
value_field meant shared field = known shared field.start (meant field.text)

-- the value of a range whose field begins at this place
abbrev pub with_value : {V : Type 0} → ℕ → ℕ × ℕ → Result (Option V) LineFault → Result (Option (Listing V)) LineFault
with_value place ends (Ok (Some v)) = Ok (Some (record { range = record { first = ends.0; last = ends.1; value = v }; place = place }))
with_value place ends (Ok None) = Ok None
with_value place ends (Err fault) = Err fault

-- a range and its value; a fault of field 1 comes first
abbrev pub with_range : {V : Type 0} → ℕ → Result (ℕ × ℕ) LineFault → Result (Option V) LineFault → Result (Option (Listing V)) LineFault
with_range place (Ok ends) value = with_value place ends value
with_range place (Err fault) value = Err fault

-- the parts of a line, read
abbrev pub with_parts : {V : Type 0} → (List ℕ → Option V) → Bool → Result Layout LineFault → Result (Option (Listing V)) LineFault
with_parts meant shared (Ok (blank comment)) = Ok None
with_parts meant shared (Ok (listing range value comment)) = with_range range.start (range_field range) (value_field meant shared value)
with_parts meant shared (Err fault) = Err fault

-- what a line lists
abbrev pub entry_of : {V : Type 0} → (List ℕ → Option V) → Bool → List ℕ → Result (Option (Listing V)) LineFault
entry_of meant shared line = with_parts meant shared (layout line)
