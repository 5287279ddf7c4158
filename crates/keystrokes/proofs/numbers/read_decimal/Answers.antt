use Rattle.keystrokes.proofs.Words.{decimal_is}
use Rattle.keystrokes.proofs.numbers.read_decimal.Goals as goal

pub returns : goal.returns
returns c = decimal_is c.number.result c.args.word.now c.number.ensures
