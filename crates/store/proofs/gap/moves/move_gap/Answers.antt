use Rattle.std.proofs.Common.{◌≡◌, ◌+◌, ◌-◌, ◌++◌, take, drop, refl, ap, ◌∙◌, arith}
use Rattle.std.proofs.lemmas.List.{take_rest}
use Rattle.store.proofs.GapArray.{moved_back, moved_front}
use Rattle.store.proofs.Pieces.{put_rest}
use Rattle.store.proofs.gap.moves.move_gap.Goals as goal
use Rattle.store.proofs.gap.moves.move_gap.Goals.{then-place-start, else-place-start}

pub returns : goal.returns
returns c =
    let cells = c.args.cells.now in
    let start = c.args.gap.start in
    let end = c.args.gap.end in
    let place = c.args.place in
    let size = end - start in
    record {
      text = elim c.if-place-start.branch [
        | then-place-start w ↦
            let count = start - place in
            let part = w.carry_back.new.cells in
            let carried = simp take_rest at w.carry_back.ensures in
            let start_is : place + count ≡ start = omega arith in
            let end_is : place + (count + size) ≡ end = omega arith in
            ap (λ xs. take place xs ++ drop (place + size) xs) (w.cells-is ∙ put_rest place cells part (omega arith))
            ∙ moved_back cells part place count size (omega arith) carried
            ∙ (λ i. take (start_is i) cells ++ drop (end_is i) cells)
        | else-place-start w ↦
            let count = place - start in
            let part = w.carry_front.new.cells in
            let carried = simp take_rest at w.carry_front.ensures in
            let start_is : place ≡ start + count = omega arith in
            let new_end_is : place + size ≡ start + (count + size) = omega arith in
            let end_is : start + size ≡ end = omega arith in
            ap (λ xs. take place xs ++ drop (place + size) xs) (w.cells-is ∙ put_rest start cells part (omega arith))
            ∙ (λ i. take (start_is i) (take start cells ++ part) ++ drop (new_end_is i) (take start cells ++ part))
            ∙ moved_front cells part start count size (omega arith) carried
            ∙ ap (λ n. take start cells ++ drop n cells) end_is
      ];
      start = refl;
      end = omega arith;
    }
