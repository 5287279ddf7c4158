-- The numbers that words write. Assumes nothing.
use Rattle.std.specs.Prelude.{ℕ, ◌^◌, Bool, true, false, cond, ◌&&◌, List, [], ◌∷◌, Some, None, Option, nat_lt}
use Rattle.std.proofs.Math.Utf8.{scalar}
use Rattle.std.specs.Str.Parse.{digits_value}
use Rattle.std.specs.Char.{digit_value}

-- digits of the base alone; a letter of either case is a digit from ten on
abbrev pub digits : ℕ → List ℕ → Bool
digits base [] = true
digits base (c ∷ cs) = nat_lt (digit_value c) base && digits base cs

-- at least one digit
abbrev pub numeral : ℕ → List ℕ → Bool
numeral base [] = false
numeral base (c ∷ cs) = digits base (c ∷ cs)

-- a number in base ten that 64 bits hold
abbrev pub decimal : List ℕ → Option ℕ
decimal word = cond (numeral 10 word && nat_lt (digits_value 10 word) (2 ^ 64)) (Some (digits_value 10 word)) None

-- a scalar value in base sixteen
abbrev pub code_point : List ℕ → Option ℕ
code_point word = cond (numeral 16 word && scalar (digits_value 16 word)) (Some (digits_value 16 word)) None
