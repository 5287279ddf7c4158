use Rattle.std.proofs.Common.{◌≡◌, ℕ, ◌<◌, get_or}
use Rattle.keystrokes.proofs.reading.same_text.Given as goal

abbrev pub invariant-loop-place : goal.invariant-loop-place
invariant-loop-place g l = (p : ℕ) → p < l.place → get_or (g.S.TextStore.text l.one) p 0 ≡ get_or (g.T.TextStore.text l.other) p 0
