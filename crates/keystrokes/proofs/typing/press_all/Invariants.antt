use Rattle.std.proofs.Common.{◌≡◌, ◌≤◌, length, take, vec_items, vec_len, vec_capacity}
use Rattle.keystrokes.specs.Typing.{Typed}
use Rattle.keystrokes.proofs.typing.press_all.Given as goal

abbrev pub invariant-loop-key : goal.invariant-loop-key
invariant-loop-key g l =
    let s = g.S.TextStore in
    (s.room l.store ≡ s.room l.initial.store)
    × (vec_len l.outcomes ≡ l.key-index)
    × (length l.keys ≤ vec_capacity l.outcomes)
    × Typed (s.room l.initial.store) (take l.key-index l.keys) (s.text l.initial.store) (vec_items l.outcomes) (s.text l.store)
