use Rattle.std.proofs.Common.{◌≡◌, ◌+◌, ◌-◌, ◌++◌, take, drop, ap, ◌∙◌, arith}
use Rattle.store.proofs.GapArray.{carried_front}
use Rattle.store.proofs.gap.moves.carry_front.Goals as goal

pub returns : goal.returns
returns c =
    let cells = c.args.cells.now in
    let count = c.args.count in
    let size = c.args.size in
    let all : size + count - size ≡ count = omega arith in
    let none : 0 + (size + count - size) ≡ count = omega arith in
    ap (λ xs. take count xs ++ drop (count + size) xs)
    (c.copy_within.ensures.after ∙ (λ i. take (all i) (drop size cells) ++ drop (none i) cells))
    ∙ carried_front cells count size c.requires
