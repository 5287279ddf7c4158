-- Extended_Pictographic, a property that a code point has or lacks. Assumes nothing.
use Rattle.std.specs.Prelude.{ℕ, Bool, true, false, cond, List, Some, None, codes, Option}
use Rattle.std.specs.Str.{bytes_eq}

-- the file lists only those that have it
abbrev pub pictograph_name : Bool → Option (List ℕ)
pictograph_name true = Some (codes "Extended_Pictographic")
pictograph_name false = None

abbrev pub pictograph_read : List ℕ → Option Bool
pictograph_read name = cond (bytes_eq (codes "Extended_Pictographic") name) (Some true) None
