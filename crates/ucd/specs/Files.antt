-- What a data file lists of a property, and what reading it leaves in a table. Assumes nothing.
use Rattle.std.specs.Prelude.{◌≡◌, ℕ, suc, ◌<◌, Bool, cond, ◌⊎◌, List, [], ◌∷◌, ◌++◌, length, Some, None, Ok, Err, Option, Result, MatchResult, nat_lt, slice_index_or}
use Rattle.ranges.specs.Rows.{lookup, placed, shares_any}
use Rattle.ranges.specs.Tables.{rows}
use Rattle.ranges.specs.declared.range.Range.{Range}
use Rattle.ranges.specs.declared.table.Table.{Table}
use Rattle.ucd.specs.Entries.{entry_of}
use Rattle.ucd.specs.Written.{Tells}
use Rattle.ucd.specs.declared.faults.Fault.{Fault}
use Rattle.ucd.specs.declared.faults.Field.TheVariants.{Whole, First}
use Rattle.ucd.specs.declared.faults.Finder.TheVariants.{File}
use Rattle.ucd.specs.declared.faults.LineFault.{LineFault}
use Rattle.ucd.specs.declared.faults.Reason.TheVariants.{Shared, Full}
use Rattle.ucd.specs.declared.listings.Listing.{Listing}

-- a fault of the line of this number
abbrev pub on_line : ℕ → LineFault → Fault
on_line number f = record { line = number; in_line = f }

-- a range whose field begins at this place shares a code point with a kept one
abbrev pub shared_fault : ℕ → ℕ → Fault
shared_fault number place = on_line number (record { reason = Shared; field = First; place = place; finder = File })

-- no record is free for the range of the line
abbrev pub full_fault : ℕ → Fault
full_fault number = on_line number (record { reason = Full; field = Whole; place = 0; finder = File })

-- the fault of the line of this number, if it has one, with these rows in a table with so much room
abbrev pub fault_in : {V : Type 0} → ℕ → List (Range V) → ℕ → Result (Option (Listing V)) LineFault → Option Fault
fault_in room rows number (Ok None) = None
fault_in room rows number (Ok (Some listing)) =
    cond (shares_any rows listing.range) (Some (shared_fault number listing.place)) (cond (nat_lt (length rows) room) None (Some (full_fault number)))
fault_in room rows number (Err fault) = Some (on_line number fault)

-- an answer refuses the line for its fault, and takes it if it has none
abbrev pub Answered : {V T : Type 0} → ℕ → List (Range V) → ℕ → Result (Option (Listing V)) LineFault → Result T Fault → Type 0
Answered room rows number entry r = MatchResult r (λ _. fault_in room rows number entry ≡ None) (λ fault. fault_in room rows number entry ≡ Some fault)

-- the rows with what the line lists
abbrev pub rows_with : {V : Type 0} → List (Range V) → Result (Option (Listing V)) LineFault → List (Range V)
rows_with rows (Ok None) = rows
rows_with rows (Ok (Some listing)) = placed listing.range rows
rows_with rows (Err fault) = rows

-- some line lists this value for the code point
abbrev pub SomeLine : {V : Type 0} → (V → Option (List ℕ)) → List (List ℕ) → ℕ → V → Type 0
SomeLine listed ls c v = (k : ℕ) × (k < length ls) × Tells listed (slice_index_or ls k []) c v

-- each code point has the value that it had before or that is listed for it, and none has another
pub record Grown {V : Type 0} (listed : ℕ → V → Type 0) (before after : List (Range V)) : Type 0 where
  pub stays : (c : ℕ) (v : V) → lookup before c ≡ Some v → lookup after c ≡ Some v
  pub gains : (c : ℕ) (v : V) → listed c v → lookup after c ≡ Some v
  pub only : (c : ℕ) (v : V) → lookup after c ≡ Some v → (lookup before c ≡ Some v) ⊎ listed c v

-- lines read one after the other, the first of this number, none of which is refused, and the rows that they leave
abbrev pub Reads : {V : Type 0} → (List ℕ → Option V) → Bool → ℕ → ℕ → List (List ℕ) → List (Range V) → List (Range V) → Type 0
Reads meant shared room number [] before after = after ≡ before
Reads meant shared room number (line ∷ ls) before after =
    (fault_in room before number (entry_of meant shared line) ≡ None) × Reads meant shared room (suc number) ls (rows_with before (entry_of meant shared line)) after

-- all lines were read: so many, none of which is refused, and what they list is in the rows
pub record ReadAll {V : Type 0} (listed : V → Option (List ℕ)) (meant : List ℕ → Option V) (shared : Bool) (room : ℕ) (ls : List (List ℕ)) (before after : List (Range V)) (number : ℕ) : Type 0 where
  pub count : number ≡ length ls
  pub read : Reads meant shared room 1 ls before after
  pub values : Grown (SomeLine listed ls) before after

-- the first line that is refused, and what the lines before it left
pub record Stopped {V : Type 0} (meant : List ℕ → Option V) (shared : Bool) (room : ℕ) (ls : List (List ℕ)) (before after : List (Range V)) (fault : Fault) : Type 0 where
  pub seen : List (List ℕ)
  pub line : List ℕ
  pub unseen : List (List ℕ)
  pub split : ls ≡ seen ++ (line ∷ unseen)
  pub read : Reads meant shared room 1 seen before after
  pub refused : fault_in room after (suc (length seen)) (entry_of meant shared line) ≡ Some fault

-- lines read into rows, up to the first that is refused
abbrev pub Goes : {V : Type 0} → (V → Option (List ℕ)) → (List ℕ → Option V) → Bool → ℕ → List (List ℕ) → List (Range V) → List (Range V) → Result ℕ Fault → Type 0
Goes listed meant shared room ls before after (Ok number) = ReadAll listed meant shared room ls before after number
Goes listed meant shared room ls before after (Err fault) = Stopped meant shared room ls before after fault

-- a table of a whole file: each code point has the value that some line lists for it, and none has another
pub record Loaded {V : Type 0} (listed : V → Option (List ℕ)) (meant : List ℕ → Option V) (shared : Bool) (room : ℕ) (ls : List (List ℕ)) (rows : List (Range V)) (number : ℕ) : Type 0 where
  pub count : number ≡ length ls
  pub read : Reads meant shared room 1 ls [] rows
  pub has : (c : ℕ) (v : V) → SomeLine listed ls c v → lookup rows c ≡ Some v
  pub only : (c : ℕ) (v : V) → lookup rows c ≡ Some v → SomeLine listed ls c v

-- no table of a file, since a line of it is refused, and what the lines before it left
pub record Unloaded {V : Type 0} (meant : List ℕ → Option V) (shared : Bool) (room : ℕ) (ls : List (List ℕ)) (fault : Fault) : Type 0 where
  pub left : List (Range V)
  pub stopped : Stopped meant shared room ls [] left fault

-- the answer of a file: its table and how many lines it has, or its fault
abbrev pub Loads : {V : Type 0} → (V → Option (List ℕ)) → (List ℕ → Option V) → Bool → ℕ → List (List ℕ) → Result (Table V × ℕ) Fault → Type 0
Loads listed meant shared room ls (Ok answer) = Loaded listed meant shared room ls (rows answer.0) answer.1
Loads listed meant shared room ls (Err fault) = Unloaded meant shared room ls fault
