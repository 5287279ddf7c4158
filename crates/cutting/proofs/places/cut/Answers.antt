use Rattle.std.proofs.Common.{◌≡◌, ◌+◌, [], ◌∷◌, take, drop, sym, ap, ◌∙◌, drop-drop, arith}
use Rattle.std.proofs.lemmas.Grind.{common_steps}
use Rattle.std.proofs.lemmas.List.{take_rest}
use Rattle.std.specs.List.{after_first, before_first}
use Rattle.cutting.specs.Pieces.{pieces_by}
use Rattle.cutting.proofs.Cuts.{pieces_first}
use Rattle.cutting.proofs.places.cut.Goals as goal

pub returns-in-len1-up-clause-rest : goal.returns-in-len1-up-clause-rest
returns-in-len1-up-clause-rest g c =
    let bytes = c.args.bytes.now in
    take_rest c.split_at.result.1.now 1
    ∙ ap (drop 1) c.split_at.ensures.back
    ∙ drop-drop 1 c.piece_len.result bytes
    ∙ ap (λ n. drop (n + 1) bytes) c.piece_len.ensures.run

pub returns-in-len1-up-clause-others : goal.returns-in-len1-up-clause-others
returns-in-len1-up-clause-others g c =
    let bytes = c.args.bytes.now in
    let end = g.E.Ending.is_end c.args.end in
    let front : c.split_at.result.0.now ≡ before_first end bytes = c.split_at.ensures.front ∙ ap (λ n. take n bytes) c.piece_len.ensures.run in
    let rest = returns-in-len1-up-clause-rest g c in
    λ some. pieces_first end bytes some ∙ sym (λ i. front i ∷ pieces_by end (rest i))

pub returns-in-empty-clause-others : goal.returns-in-empty-clause-others
returns-in-empty-clause-others g c =
    let bytes = c.args.bytes.now in
    let end = g.E.Ending.is_end c.args.end in
    let front : c.split_at.result.0.now ≡ before_first end bytes = c.split_at.ensures.front ∙ ap (λ n. take n bytes) c.piece_len.ensures.run in
    let rest : [] ≡ after_first end bytes = grind (arith, common_steps) in
    λ some. pieces_first end bytes some ∙ sym (λ i. front i ∷ pieces_by end (rest i))
