-- Names of values in a data file. Assumes nothing.
use Rattle.std.specs.Prelude.{ℕ, List, Some, Option}
use Rattle.std.specs.List.{find}
use Rattle.std.specs.Str.{bytes_eq}

-- the first of the values that is spelled so
abbrev pub called : {V : Type 0} → (V → List ℕ) → List V → List ℕ → Option V
called spelling vs name = find (λ v. bytes_eq (spelling v) name) vs

-- the file lists each value under the name that it has
abbrev pub same_name : {V : Type 0} → (V → List ℕ) → V → Option (List ℕ)
same_name spelling v = Some (spelling v)
