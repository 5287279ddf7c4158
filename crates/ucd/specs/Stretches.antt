-- Stretches of a line. Assumes nothing.
use Rattle.std.specs.Prelude.{◌≡◌, ℕ, ◌+◌, Bool, true, false, List, take, drop, Some, None, Option}
use Rattle.std.specs.List.{prefix_len}
use Rattle.ucd.specs.Bytes.{InField, is}
use Rattle.ucd.specs.Lines.{parts_once}
use Rattle.ucd.specs.declared.stretches.Stretch.{Stretch}

-- a stretch of these bytes, which closes its line or does not and begins at this place
abbrev pub Holds : Stretch → Bool → ℕ → List ℕ → Type 0
Holds x closing place text = (x.closing ≡ closing) × (x.place ≡ place) × (x.bytes.now ≡ text)

-- a stretch cut at its only ';', and none where it has none, or another
abbrev pub Halved : Stretch → Option (Stretch × Stretch) → Type 0
Halved s None = parts_once s.bytes.now (prefix_len (is InField) s.bytes.now) ≡ false
Halved s (Some halves) =
    (parts_once s.bytes.now (prefix_len (is InField) s.bytes.now) ≡ true)
    × Holds halves.0 false s.place (take (prefix_len (is InField) s.bytes.now) s.bytes.now)
    × Holds halves.1 s.closing (s.place + (prefix_len (is InField) s.bytes.now + 1)) (drop (prefix_len (is InField) s.bytes.now + 1) s.bytes.now)
