-- Bytes of a data file. Assumes nothing.
use Rattle.std.specs.Prelude.{ℕ, ◌-◌, Bool, not, ◌&&◌, ◌||◌, List, length, take, drop, ◌==◌, nat_le}
use Rattle.std.specs.List.{prefix_len, suffix_len}

-- kinds of bytes that stand in a row
pub data Kind : Type 0 where
  Uncommented : Kind
  InField : Kind
  Blank : Kind
  Digit : Kind

-- whether a byte is of the kind: not '#', which begins a comment; not ';', which parts fields; a space or a tab; 0 to 9 or A to F
abbrev pub is : Kind → ℕ → Bool
is Uncommented b = not (b == 35)
is InField b = not (b == 59)
is Blank b = b == 32 || b == 9
is Digit b = (nat_le 48 b && nat_le b 57) || (nat_le 65 b && nat_le b 70)

-- the bytes without the blanks around them
abbrev pub stripped : List ℕ → List ℕ
stripped s = take (length s - suffix_len (is Blank) s - prefix_len (is Blank) s) (drop (prefix_len (is Blank) s) s)
