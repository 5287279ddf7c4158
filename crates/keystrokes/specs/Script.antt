-- What a line of a keystroke script says. Assumes nothing.
use Rattle.std.specs.Prelude.{◌≡◌, ℕ, suc, List, [], ◌∷◌, ◌++◌, map, length, Some, None, Ok, Err, vec_items, Option, Result, Vec}
use Rattle.std.specs.declared.alloc.Global.{Global}
use Rattle.keystrokes.specs.Numerals.{decimal, code_point}
use Rattle.cutting.specs.Pieces.{statement, words}
use Rattle.keystrokes.specs.declared.faults.LineError.{LineError}
use Rattle.keystrokes.specs.declared.faults.LineError.TheVariants.{Fault, OutOfMemory}
use Rattle.keystrokes.specs.declared.faults.LineFault.{LineFault}
use Rattle.keystrokes.specs.declared.faults.LineFault.TheVariants.{BadPlace, NoCount, BadCount, BadCodePoint}
use Rattle.keystrokes.specs.declared.scripts.BadLine.{BadLine}
use Rattle.keystrokes.specs.declared.scripts.Script.{Script}
use Rattle.keystrokes.specs.declared.strokes.Keystroke.{Keystroke}

-- one code point more in front, if the word writes one; n is the word's number
abbrev pub point : ℕ → Option ℕ → Result (List ℕ) ℕ → Result (List ℕ) ℕ
point n None rest = Err n
point n (Some c) (Ok cs) = Ok (c ∷ cs)
point n (Some c) (Err m) = Err m

-- the code points that words write, or the number of the first word that writes none; the first has number n
abbrev pub points : ℕ → List (List ℕ) → Result (List ℕ) ℕ
points n [] = Ok []
points n (w ∷ ws) = point n (code_point w) (points (suc n) ws)

-- the code points as the program holds them, unless memory ran out
abbrev pub Spells : Result (Vec ℕ Global) LineError → Result (List ℕ) ℕ → Type 0
Spells (Ok put) x = x ≡ Ok (vec_items put)
Spells (Err (Fault f)) x = (n : ℕ) × (f ≡ BadCodePoint n) × (x ≡ Err n)
Spells (Err (OutOfMemory e)) x = Unit {0}

-- nothing, a keystroke as its place, its count to take and its code points, or why there is none
pub data Reading : Type 0 where
  nothing : Reading
  press : ℕ → ℕ → List ℕ → Reading
  fault : LineFault → Reading

-- what the words say, from the last to the first: code points, after a place and a count
abbrev pub with_points : ℕ → ℕ → Result (List ℕ) ℕ → Reading
with_points place count (Ok put) = press place count put
with_points place count (Err n) = fault (BadCodePoint n)

-- a count and code points, after a place
abbrev pub with_count : ℕ → Option ℕ → List (List ℕ) → Reading
with_count place None ws = fault BadCount
with_count place (Some count) ws = with_points place count (points 1 ws)

-- a place, a count and code points
abbrev pub with_place : Option ℕ → List (List ℕ) → Reading
with_place None ws = fault BadPlace
with_place (Some place) [] = fault NoCount
with_place (Some place) (w ∷ ws) = with_count place (decimal w) ws

-- all words; the first that is not what it should be is the fault
abbrev pub with_words : List (List ℕ) → Reading
with_words [] = nothing
with_words (w ∷ ws) = with_place (decimal w) ws

-- what a line says
abbrev pub reading : List ℕ → Reading
reading line = with_words (words (statement line))

-- what the line of this number says, as the program holds it, unless memory ran out
abbrev pub Says : ℕ → Result (Option Keystroke) LineError → Reading → Type 0
Says number (Ok None) x = x ≡ nothing
Says number (Ok (Some k)) x = (k.line ≡ number) × (x ≡ press k.place k.take (vec_items k.put))
Says number (Err (Fault f)) x = x ≡ fault f
Says number (Err (OutOfMemory e)) x = Unit {0}

-- what one reading adds to the keystrokes and the bad lines
abbrev pub Adds : ℕ → Reading → List Keystroke → List BadLine → Type 0
Adds number nothing keys bad = (keys ≡ []) × (bad ≡ [])
Adds number (press place count put) keys bad =
    (k : Keystroke) × (keys ≡ k ∷ []) × (k.line ≡ number) × (k.place ≡ place) × (k.take ≡ count) × (vec_items k.put ≡ put) × (bad ≡ [])
Adds number (fault f) keys bad = (keys ≡ []) × (bad ≡ record { line = number; fault = f } ∷ [])

-- the keystrokes and the bad lines of a script, in its order; the first line has this number
abbrev pub Listed : ℕ → List Reading → List Keystroke → List BadLine → Type 0
Listed number [] keys bad = (keys ≡ []) × (bad ≡ [])
Listed number (r ∷ rs) keys bad =
    (here : List Keystroke) × (there : List Keystroke) × (keys ≡ here ++ there) ×
    (bad_here : List BadLine) × (bad_there : List BadLine) × (bad ≡ bad_here ++ bad_there) × Adds number r here bad_here × Listed (suc number) rs there bad_there

-- a script as it was read from these lines
pub record Reads (ls : List (List ℕ)) (s : Script) : Type 0 where
  pub count : s.lines ≡ length ls
  pub listed : Listed 1 (map reading ls) (vec_items s.keys) (vec_items s.bad)
