-- A text around a gap. Assumes nothing.
use Rattle.std.specs.Prelude.{ℕ, List, ◌++◌, take, drop}
use Rattle.store.specs.declared.gap.place.Gap.{Gap}

-- all of the array but the gap
abbrev pub around : Gap → List ℕ → List ℕ
around gap cells = take gap.start cells ++ drop gap.end cells
