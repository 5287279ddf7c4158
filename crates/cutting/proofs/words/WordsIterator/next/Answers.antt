use Rattle.std.proofs.Common.{◌<◌, length, ap, arith, false-eqb, true-eqb}
use Rattle.cutting.proofs.Cuts.{part_from, word_on, first_word_cut, no_word, fewer}
use Rattle.cutting.proofs.words.WordsIterator.next.Goals as goal

pub returns-then-is_empty-clause-steps : goal.returns-then-is_empty-clause-steps
returns-then-is_empty-clause-steps c =
    let rest = c.args.self.now.rest.now in
    let text = part_from rest c.blanks_len.result c.blanks_len.ensures.run in
    let none = no_word rest (rw text at (true-eqb _ 0 c.if-is_empty.ensures)) in
    (none, none)

pub returns-clause-steps : goal.returns-clause-steps
returns-clause-steps c =
    let rest = c.args.self.now.rest.now in
    let text = part_from rest c.blanks_len.result c.blanks_len.ensures.run in
    let some : 0 < length (word_on rest) = omega (arith, ap length text, false-eqb _ 0 c.if-is_empty.ensures) in
    simp (c.cut.ensures.front, c.cut.ensures.rest, text) (first_word_cut rest some)

pub returns-clause-goes : goal.returns-clause-goes
returns-clause-goes c = record { on = λ _. (tt, tt, fewer _ _ _ (returns-clause-steps c)); keeps = tt; rests = λ _. tt }
