-- Where in the rows a code point belongs. Assumes nothing.
use Rattle.std.specs.Prelude.{ℕ, suc, cond, List, [], ◌∷◌, nat_lt}
use Rattle.ranges.specs.declared.range.Range.{Range}

-- how many rows, from the first on, end before the code point
abbrev pub place : {V : Type 0} → ℕ → List (Range V) → ℕ
place c [] = 0
place c (row ∷ rows) = cond (nat_lt row.last c) (suc (place c rows)) 0
