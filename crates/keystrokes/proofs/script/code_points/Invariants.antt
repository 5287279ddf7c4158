use Rattle.std.proofs.Common.{◌≡◌, suc, vec_items, vec_len}
use Rattle.cutting.specs.Left.{words_left}
use Rattle.keystrokes.specs.Script.{points}
use Rattle.keystrokes.proofs.Points.{behind}
use Rattle.keystrokes.proofs.script.code_points.Given as goal

abbrev pub invariant-loop-word : goal.invariant-loop-word
invariant-loop-word l = behind (vec_items l.put) (points (suc (vec_len l.put)) (words_left l.word-iterator)) ≡ points 1 (words_left l.words)
