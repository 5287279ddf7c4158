use Rattle.cutting.proofs.Cuts.{begins, part_from}
use Rattle.cutting.proofs.words.next_word.Goals as goal

pub returns : goal.returns
returns c =
    let text = c.args.text.now in
    let part = part_from text c.blanks_len.result c.blanks_len.ensures.run in
    simp (c.cut.ensures.front, c.cut.ensures.rest, part) (begins text)
