-- What an iterator over pieces has left to give. Assumes nothing.
use Rattle.std.specs.Prelude.{ℕ, List}
use Rattle.cutting.specs.Pieces.{lines, words}
use Rattle.cutting.specs.declared.lines.Lines.{Lines}
use Rattle.cutting.specs.declared.words.Words.{Words}

abbrev pub lines_left : Lines → List (List ℕ)
lines_left s = lines s.rest.now

abbrev pub words_left : Words → List (List ℕ)
words_left s = words s.rest.now
