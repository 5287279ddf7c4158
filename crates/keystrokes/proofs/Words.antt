-- Words, and the numbers that they write. Assumes nothing.
use Rattle.std.proofs.Common.{◌≡◌, ℕ, ◌^◌, ◌<◌, ◌≤◌, Bool, true, false, cond, ◌&&◌, ltb, List, [], ◌∷◌, Some, None, IsUtf8, IsAscii, Decides, Option, refl, ap, arith, rules}
use lib.Utf8.{scalar}
use Rattle.std.proofs.lemmas.Str.Ascii.{IsAscii-nil, IsAscii-cons}
use Rattle.std.proofs.lemmas.Str.{IsUtf8-from_ascii}
use Rattle.std.proofs.lemmas.Bool.Decides.{nat_tests, Decides-and, Decides-ltb}
use Rattle.std.specs.Option.{SomeIff}
use Rattle.std.specs.Str.Parse.{AllDigits, IsNumeral, digits_value}
use Rattle.std.specs.Char.{digit_value}
use Rattle.keystrokes.specs.Numerals.{digits, numeral, decimal, code_point}

-- a digit is ASCII, and no plus
digit_ascii : (c base : ℕ) → base ≤ 36 → digit_value c < base → c < 128
digit_ascii c base small digit = grind (arith, nat_tests)

pub digits_ascii : (base : ℕ) (cs : List ℕ) → base ≤ 36 → AllDigits base cs → IsAscii cs
digits_ascii base [] small d = IsAscii-nil
digits_ascii base (c ∷ cs) small d = IsAscii-cons c cs (digit_ascii c base small d.0) (digits_ascii base cs small d.1)

pub numeral_utf8 : (base : ℕ) (cs : List ℕ) → base ≤ 36 → IsNumeral base cs → IsUtf8 cs
numeral_utf8 base cs small n = IsUtf8-from_ascii cs (digits_ascii base cs small n.1)

-- the definitions as tests
digits_decides : (base : ℕ) (cs : List ℕ) → Decides (digits base cs) (AllDigits base cs)
digits_decides base [] = (λ _. tt, λ _. refl)
digits_decides base (c ∷ cs) = Decides-and (ltb (digit_value c) base) (digits base cs) (Decides-ltb (digit_value c) base) (digits_decides base cs)

numeral_decides : (base : ℕ) (cs : List ℕ) → Decides (numeral base cs) (IsNumeral base cs)
numeral_decides base [] = (λ no. absurd (search rules), λ n. absurd (omega (arith, n.0)))
numeral_decides base (c ∷ cs) = (λ yes. (omega arith, (digits_decides base (c ∷ cs)).0 yes), λ n. (digits_decides base (c ∷ cs)).1 n.1)

checked_is : {P : Type 0} (r : Option ℕ) (v : ℕ) (b : Bool) → SomeIff r P v → Decides b P → r ≡ cond b (Some v) None
checked_is None v true none d = absurd (none (d.0 refl))
checked_is None v false none d = refl
checked_is (Some x) v true some d = ap Some some.1
checked_is (Some x) v false some d = absurd (search (rules, d.1 some.0))

pub decimal_is : (r : Option ℕ) (w : List ℕ) → SomeIff r (IsNumeral 10 w × (digits_value 10 w < 2 ^ 64)) (digits_value 10 w) → r ≡ decimal w
decimal_is r w c = checked_is r (digits_value 10 w) (numeral 10 w && ltb (digits_value 10 w) (2 ^ 64)) c (Decides-and (numeral 10 w) (ltb (digits_value 10 w) (2 ^ 64)) (numeral_decides 10 w) (Decides-ltb (digits_value 10 w) (2 ^ 64)))

pub code_point_is : (r : Option ℕ) (w : List ℕ) → SomeIff r (IsNumeral 16 w × (scalar (digits_value 16 w) ≡ true)) (digits_value 16 w) → r ≡ code_point w
code_point_is r w c = checked_is r (digits_value 16 w) (numeral 16 w && scalar (digits_value 16 w)) c (Decides-and (numeral 16 w) (scalar (digits_value 16 w)) (numeral_decides 16 w) (λ e. e, λ e. e))
