use Rattle.std.proofs.Common.{◌+◌, ◌≤◌, ◌++◌, length, take, drop, sym, refl, ap, ◌∙◌, arith}
use Rattle.std.proofs.lemmas.List.{take_rest}
use Rattle.store.proofs.GapArray.{gap_spliced}
use Rattle.store.proofs.Pieces.{put_rest}
use Rattle.store.specs.Texts.{spliced}
use Rattle.store.proofs.gap.moves.splice.Goals as goal

pub returns : goal.returns
returns c =
    let moved = c.move_gap-moved.ensures in
    let cells = c.move_gap-moved.new.cells in
    let put = c.args.change.put.now in
    let place = c.args.change.place in
    let count = c.args.change.take in
    let end = c.move_gap-moved.result.end in
    let inside : place ≤ length cells = omega (arith, moved.end, c.move_gap-moved.auto.cells) in
    let written = simp take_rest at c.write_front.ensures in
    record {
      text =
          ap (λ xs. take (place + length put) xs ++ drop (end + count) xs)
          (put_rest place cells c.write_front.new.cells inside ∙ ap (λ xs. take place cells ++ xs) written)
          ∙ gap_spliced cells put place count end inside (omega (arith, moved.end))
          ∙ ap (spliced place count put) (ap (λ n. take n cells ++ drop end cells) (sym moved.start) ∙ moved.text);
      start = refl;
      end = omega (arith, moved.end);
    }
