-- How long the text of a store is. Assumes nothing.
use Rattle.std.specs.Prelude.{◌≡◌, ◌+◌, ◌-◌, ◌≤◌, length, vec_len}
use Rattle.std.proofs.Common.{arith, length-append, length-take, length-drop}
use Rattle.store.specs.Stores.{flat_text, gap_text, gap_room}
use Rattle.store.specs.declared.flat.FlatStore.{FlatStore}
use Rattle.store.specs.declared.gap.GapStore.{GapStore}

pub length_flat_text : (s : FlatStore) → length (flat_text s) ≡ s.used
length_flat_text s = simp length-take (omega (arith, s.cells.ok.0))

pub length_gap_text : (s : GapStore) → length (gap_text s) ≡ s.gap.start + (vec_len s.cells - s.gap.end)
length_gap_text s = simp (length-append, length-take, length-drop) (omega (arith, s.cells.ok.0))

pub gap_text_within : (s : GapStore) → length (gap_text s) ≤ gap_room s
gap_text_within s = omega (arith, length_gap_text s)
