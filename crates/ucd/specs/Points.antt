-- Field 1 of a data line: one code point, or two joined by "..", in base sixteen. Assumes nothing.
use Rattle.std.specs.Prelude.{ℕ, Bool, cond, ◌&&◌, List, [], ◌∷◌, length, take, drop, Some, None, Ok, Err, Option, Result, ◌==◌, nat_le}
use Rattle.std.specs.Str.Parse.{digits_value}
use Rattle.std.specs.Char.{digit_value}
use Rattle.std.specs.List.{prefix_len}
use Rattle.ucd.specs.Bytes.{Digit, is}
use Rattle.ucd.specs.declared.faults.Reason.{Reason}
use Rattle.ucd.specs.declared.faults.Reason.TheVariants.{BadRange, BadPoint}

-- the value of a digit
abbrev pub digit_of : ℕ → Option ℕ
digit_of b = cond (is Digit b) (Some (digit_value b)) None

-- whether 4 to 6 digits stand at the start
abbrev pub pointed : List ℕ → Bool
pointed s = nat_le 4 (prefix_len (is Digit) s) && nat_le (prefix_len (is Digit) s) 6

-- the number that the digits at the start write
abbrev pub point_of : List ℕ → ℕ
point_of s = digits_value 16 (take (prefix_len (is Digit) s) s)

-- what stands behind them
abbrev pub behind : List ℕ → List ℕ
behind s = drop (prefix_len (is Digit) s) s

-- a second code point, and nothing else
abbrev pub last_point : List ℕ → Result ℕ Reason
last_point s = cond (pointed s && length (behind s) == 0) (Ok (point_of s)) (Err BadRange)

-- the last code point of a range, from the first and what stands behind it
abbrev pub end_of : ℕ → List ℕ → Result ℕ Reason
end_of first [] = Ok first
end_of first (a ∷ []) = Err BadRange
end_of first (a ∷ b ∷ s) = cond (a == 46 && b == 46) (last_point s) (Err BadRange)

-- a range in order, up to the last code point
abbrev pub in_order : ℕ → Result ℕ Reason → Result (ℕ × ℕ) Reason
in_order first (Ok last) = cond (nat_le first last && nat_le last 1114111) (Ok (first, last)) (Err BadPoint)
in_order first (Err why) = Err why

-- the first and the last code point that field 1 writes
abbrev pub range_of : List ℕ → Result (ℕ × ℕ) Reason
range_of s = cond (pointed s) (in_order (point_of s) (end_of (point_of s) (behind s))) (Err BadRange)
