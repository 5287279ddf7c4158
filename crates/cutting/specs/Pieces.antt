-- Rows of bytes cut into pieces: a script into lines, a line into words. Assumes nothing.
use Rattle.std.specs.Prelude.{◌≡◌, ℕ, ◌<◌, Bool, cond, ◌||◌, ◌⊎◌, List, [], ◌∷◌, ◌++◌, length, ◌==◌, ◌≢◌, slice_index}
use Rattle.std.specs.List.{AllByRecursion}
pub use Rattle.cutting.specs.declared.stops.Stop.{Stop}
pub use Rattle.cutting.specs.declared.stops.Stop.TheVariants.{Newline, Hash, Blank}

-- whether a byte ends a piece: a line feed a line, '#' a statement, and a space, a tab or a carriage return a word
abbrev pub ends : Stop → ℕ → Bool
ends Newline b = b == 10
ends Hash b = b == 35
ends Blank b = b == 32 || (b == 9 || b == 13)

-- the byte in front of the first piece
abbrev pub onto : ℕ → List (List ℕ) → List (List ℕ)
onto b [] = (b ∷ []) ∷ []
onto b (p ∷ ps) = (b ∷ p) ∷ ps

-- the pieces of a row of bytes, by a test of what ends one: each goes up to such a byte, which it lacks, or to the row's end
abbrev pub pieces_by : (ℕ → Bool) → List ℕ → List (List ℕ)
pieces_by end [] = []
pieces_by end (b ∷ bs) = cond (end b) ([] ∷ pieces_by end bs) (onto b (pieces_by end bs))

-- the pieces that end at a stop
abbrev pub pieces : Stop → List ℕ → List (List ℕ)
pieces stop bytes = pieces_by (ends stop) bytes

-- a line ends at a line feed
abbrev pub lines : List ℕ → List (List ℕ)
lines bytes = pieces Newline bytes

-- lines, each with a line feed behind it
abbrev pub fed : List (List ℕ) → List ℕ
fed [] = []
fed (l ∷ ls) = l ++ (10 ∷ fed ls)

abbrev pub WithoutFeed : List ℕ → Type 0
WithoutFeed line = (k : ℕ) → k < length line → slice_index line k ≢ 10

-- the bytes end with another byte than a line feed
pub record Unended (bytes : List ℕ) : Type 0 where
  pub front : List ℕ
  pub last : ℕ
  pub whole : bytes ≡ front ++ (last ∷ [])
  pub other : last ≡ 10 → ⊥

-- what lines are: no line holds a line feed, and with one behind each they are the script, which may lack its last
pub record Lined (bytes : List ℕ) : Type 0 where
  pub plain : AllByRecursion WithoutFeed (lines bytes)
  pub whole : (fed (lines bytes) ≡ bytes) ⊎ ((fed (lines bytes) ≡ bytes ++ (10 ∷ [])) × Unended bytes)

-- the first piece, and nothing where there is none
abbrev pub first : List (List ℕ) → List ℕ
first [] = []
first (p ∷ ps) = p

-- what stands before the comment
abbrev pub statement : List ℕ → List ℕ
statement line = first (pieces Hash line)

-- the pieces that are not empty
abbrev pub filled : List (List ℕ) → List (List ℕ)
filled [] = []
filled ([] ∷ ps) = filled ps
filled ((b ∷ bs) ∷ ps) = (b ∷ bs) ∷ filled ps

-- words are parted by one blank or more
abbrev pub words : List ℕ → List (List ℕ)
words bytes = filled (pieces Blank bytes)

-- the first word of a text and what follows it; an empty word where the text has none
pub record Begins (text word rest : List ℕ) : Type 0 where
  pub some : 0 < length word → words text ≡ word ∷ words rest
  pub none : length word ≡ 0 → words text ≡ []
  pub shorter : 0 < length word → length rest < length text
