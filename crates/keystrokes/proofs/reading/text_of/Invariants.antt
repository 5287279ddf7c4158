use Rattle.std.proofs.Common.{◌≡◌, take, string_bytes}
use Rattle.keystrokes.specs.Shown.{utf8}
use Rattle.keystrokes.proofs.reading.text_of.Given as goal

abbrev pub invariant-loop-place : goal.invariant-loop-place
invariant-loop-place g l = string_bytes l.out ≡ utf8 (take l.place (g.S.TextStore.text l.store))
