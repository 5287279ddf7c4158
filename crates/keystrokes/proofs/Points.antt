-- Code points that words write, one after the other. Assumes nothing.
use Rattle.std.proofs.Common.{ℕ, List, ◌++◌, Ok, Err, Result}

-- what is read after the code points cs
abbrev pub behind : List ℕ → Result (List ℕ) ℕ → Result (List ℕ) ℕ
behind cs (Ok more) = Ok (cs ++ more)
behind cs (Err n) = Err n
