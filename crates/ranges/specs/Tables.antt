-- What a table holds, while it is filled and then. Assumes nothing.
use Rattle.std.specs.Prelude.{◌≡◌, ℕ, List, length, take}
use Rattle.ranges.specs.declared.filling.Filling.{Filling}
use Rattle.ranges.specs.declared.range.Range.{Range}
use Rattle.ranges.specs.declared.table.Table.{Table}

-- the ranges that are kept so far are the first records
abbrev pub kept : {V : Type 0} → Filling V → List (Range V)
kept filling = take filling.slots.used filling.slots.records.now

-- how many there may be
abbrev pub room : {V : Type 0} → Filling V → ℕ
room filling = length filling.slots.records.now

-- all records and their count are as they were
abbrev pub Untouched : {V : Type 0} → Filling V → Filling V → Type 0
Untouched before after = (after.slots.records.now ≡ before.slots.records.now) × (after.slots.used ≡ before.slots.used)

-- the ranges of a table
abbrev pub rows : {V : Type 0} → Table V → List (Range V)
rows table = table.records.now
