-- What each store means. Assumes nothing.
use Rattle.std.specs.Prelude.{ℕ, List, take, vec_items, vec_len}
use Rattle.store.specs.Gaps.{around}
use Rattle.store.specs.Texts.{capacity_of}
use Rattle.store.specs.declared.flat.FlatStore.{FlatStore}
use Rattle.store.specs.declared.gap.GapStore.{GapStore}

-- a flat text is the start of the array
abbrev pub flat_text : FlatStore → List ℕ
flat_text s = take s.used (vec_items s.cells)

-- its capacity
abbrev pub flat_room : FlatStore → ℕ
flat_room s = capacity_of (vec_len s.cells)

-- a gapped text is all of the array but the gap
abbrev pub gap_text : GapStore → List ℕ
gap_text s = around s.gap (vec_items s.cells)

-- its capacity
abbrev pub gap_room : GapStore → ℕ
gap_room s = capacity_of (vec_len s.cells)
