-- A text of numbers as UTF-8. Assumes nothing.
use Rattle.std.specs.Prelude.{ℕ, cond, List, map}
use Rattle.std.proofs.Math.Utf8.{scalar, encodes}

-- a number that is no scalar value is shown as U+FFFD
abbrev pub shown : ℕ → ℕ
shown c = cond (scalar c) c 65533

abbrev pub utf8 : List ℕ → List ℕ
utf8 text = encodes (map shown text)
