-- A replacement in a flat array. Assumes nothing.
use Rattle.std.proofs.Common.{◌≡◌, ℕ, ◌+◌, ◌≤◌, List, ◌++◌, length, take, drop, sym, ap, ◌∙◌, append_assoc, arith, length-append, length-drop, length-take}
use lib.Seq.{paste, take-length}
use Rattle.std.proofs.lemmas.List.{take_at, take-take, drop-take}
use Rattle.store.proofs.Pieces.{take_before_paste, drop_at_paste}
use Rattle.store.specs.Texts.{spliced}

-- the n numbers behind what is taken move, then the list is written
pub flat_spliced : (cells put : List ℕ) (used place count n new : ℕ) → used ≡ place + count + n → new ≡ place + length put + n → used ≤ length cells → new ≤ length cells →
    take new (paste (paste cells (place + length put) (drop (place + count) cells) n) place put (length put)) ≡ spliced place count put (take used cells)
flat_spliced cells put used place count n new used-is New-is inside fits =
    let end = place + length put in
    let behind = drop (place + count) cells in
    let moved = paste cells end behind n in
    let rest = drop (end + n) cells in
    let front : take place moved ≡ take place cells = take_before_paste place cells end behind n (omega arith) (omega arith) in
    let back : drop end moved ≡ take n behind ++ rest = drop_at_paste cells end behind n (omega arith) in
    let kept : take place (take used cells) ≡ take place cells = take-take place used cells (omega arith) in
    let tail : drop (place + count) (take used cells) ≡ take n behind = ap (λ m. drop (place + count) (take m cells)) used-is ∙ drop-take (place + count) n cells in
    ap (take new) (λ i. (front i ++ take-length put i) ++ back i)
    ∙ ap (take new) (sym (append_assoc (take place cells ++ put) (take n behind) rest))
    ∙ take_at ((take place cells ++ put) ++ take n behind) rest new (simp (length-append, length-take, length-drop) (omega arith))
    ∙ append_assoc (take place cells) put (take n behind)
    ∙ sym (λ i. kept i ++ (put ++ tail i))
