-- Data lines as the files write them. Assumes nothing.
use Rattle.std.specs.Prelude.{◌≡◌, ℕ, ◌-◌, ◌≤◌, true, false, ◌⊎◌, List, [], ◌∷◌, ◌++◌, reverse, length, Some, Ok, Err, Option, Result, ◌≢◌, slice_index}
use Rattle.std.specs.Str.Parse.{digits_value as value}
use Rattle.std.specs.List.{AllByRecursion}
use Rattle.ucd.specs.Bytes.{Kind, Uncommented, InField, Blank, Digit, is}
use Rattle.ucd.specs.Lines.{Part, Layout, blank, listing}
use Rattle.ucd.specs.declared.faults.LineFault.{LineFault}

-- each byte is of the kind
abbrev pub Of : Kind → List ℕ → Type 0
Of kind s = AllByRecursion (λ b. is kind b ≡ true) s

-- the first byte, if there is one, is not
abbrev pub Breaks : Kind → List ℕ → Type 0
Breaks kind [] = Unit {0}
Breaks kind (b ∷ s) = is kind b ≡ false

-- bytes with blanks around a core, which itself neither begins nor ends with one
pub record Padded (s core : List ℕ) : Type 0 where
  pub before : List ℕ
  pub behind : List ℕ
  pub whole : s ≡ before ++ (core ++ behind)
  pub blank_before : Of Blank before
  pub blank_behind : Of Blank behind
  pub bare_front : Breaks Blank core
  pub bare_back : Breaks Blank (reverse core)

-- 4 to 6 digits that write this code point
pub record Writes (ds : List ℕ) (n : ℕ) : Type 0 where
  pub digits : Of Digit ds
  pub least : 4 ≤ length ds
  pub most : length ds ≤ 6
  pub number : n ≡ value 16 ds

-- one code point, or two joined by ".."
abbrev pub Spells : List ℕ → ℕ → ℕ → Type 0
Spells s first last =
    (Writes s first × (last ≡ first)) ⊎ ((ds : List ℕ) × (es : List ℕ) × (s ≡ ds ++ (46 ∷ (46 ∷ es))) × Writes ds first × Writes es last)

-- a line that holds a range and a value: two fields parted by ';', then a comment from '#' on or, where there is none,
-- perhaps a carriage return; blanks may stand around what the fields hold, and neither has a ';' or a '#'
pub record Written (line range value : List ℕ) : Type 0 where
  pub first : List ℕ
  pub second : List ℕ
  pub return : List ℕ
  pub comment : List ℕ
  pub whole : line ≡ first ++ (59 ∷ (second ++ (return ++ comment)))
  pub range_in : Padded first range
  pub value_in : Padded second value
  pub no_parting : Of InField first × Of InField second
  pub no_comment : Of Uncommented first × Of Uncommented second
  pub comment_begins : Breaks Uncommented comment
  -- a carriage return closes a line without a comment, and is no part of the field then
  pub returned : (return ≡ []) ⊎ ((return ≡ 13 ∷ []) × (comment ≡ []))
  pub unreturned : comment ≡ [] → return ≡ [] → slice_index second (length second - 1) ≢ 13

-- the line lists this value for the code point, under the name that the file has for it
pub record Tells {V : Type 0} (listed : V → Option (List ℕ)) (line : List ℕ) (c : ℕ) (v : V) : Type 0 where
  pub range : List ℕ
  pub name : List ℕ
  pub first : ℕ
  pub last : ℕ
  pub written : Written line range name
  pub spelled : Spells range first last
  pub from : first ≤ c
  pub to : c ≤ last
  pub high : last ≤ 1114111
  pub named : listed v ≡ Some name

-- the part stands in the line, at its place
pub record Stands (line : List ℕ) (part : Part) : Type 0 where
  pub before : List ℕ
  pub behind : List ℕ
  pub whole : line ≡ before ++ (part.text ++ behind)
  pub place : part.start ≡ length before

-- so do all parts of a line
abbrev pub PartsStand : List ℕ → Result Layout LineFault → Type 0
PartsStand line (Ok (blank comment)) = Stands line comment
PartsStand line (Ok (listing range value comment)) = Stands line range × Stands line value × Stands line comment
PartsStand line (Err fault) = Unit {0}
