-- What each move in a gapped array does to the text around the gap. Assumes nothing.
use Rattle.std.proofs.Common.{◌≡◌, ℕ, ◌+◌, ◌-◌, ◌≤◌, List, ◌++◌, length, take, drop, sym, refl, ap, ◌∙◌, append_assoc, arith, length-drop, take-append-drop, take-add}
use lib.Seq.{take-append_seam}
use Rattle.std.proofs.lemmas.List.{length-take-le, take_at, drop-drop}
use Rattle.store.proofs.Pieces.{take_past, drop_past}
use Rattle.store.specs.Texts.{spliced}

-- the first numbers behind the gap are copied to its front
pub carried_front : (cells : List ℕ) (count size : ℕ) → count + size ≤ length cells → take count (take count (drop size cells) ++ drop count cells) ++ drop (count + size) (take count (drop size cells) ++ drop count cells) ≡ drop size cells
carried_front cells count size inside =
    let behind = drop size cells in
    let moved = take count behind ++ drop count cells in
    let long : length (take count behind) ≡ count = length-take-le count behind (simp length-drop (omega arith)) in
    let swap : count + size ≡ size + count = omega arith in
    let front : take count moved ≡ take count behind = take_at (take count behind) (drop count cells) count long in
    let back : drop (count + size) moved ≡ drop count behind =
    drop_past (take count behind) (drop count cells) count size long
    ∙ drop-drop size count cells
    ∙ ap (λ n. drop n cells) swap
    ∙ sym (drop-drop count size cells)
    in
    (λ i. front i ++ back i) ∙ take-append-drop count behind

-- part is what stands from place on, once `count` numbers were carried back over the gap
pub moved_back : (cells part : List ℕ) (place count size : ℕ) → place ≤ length cells → drop size part ≡ take count (drop place cells) ++ drop (count + size) (drop place cells) →
    take place (take place cells ++ part) ++ drop (place + size) (take place cells ++ part) ≡ take (place + count) cells ++ drop (place + (count + size)) cells
moved_back cells part place count size inside carried =
    let before = take place cells in
    let long : length before ≡ place = length-take-le place cells inside in
    let front : take place (before ++ part) ≡ before = take_at before part place long in
    let back : drop (place + size) (before ++ part) ≡ take count (drop place cells) ++ drop (place + (count + size)) cells =
    drop_past before part place size long
    ∙ carried
    ∙ ap (λ more. take count (drop place cells) ++ more) (drop-drop (count + size) place cells)
    in
    (λ i. front i ++ back i)
    ∙ sym (append_assoc before (take count (drop place cells)) (drop (place + (count + size)) cells))
    ∙ ap (λ more. more ++ drop (place + (count + size)) cells) (sym (take-add place count cells))

-- part is what stands from the gap's start on, once `count` numbers were carried to its front
pub moved_front : (cells part : List ℕ) (start count size : ℕ) → start ≤ length cells → take count part ++ drop (count + size) part ≡ drop size (drop start cells) →
    take (start + count) (take start cells ++ part) ++ drop (start + (count + size)) (take start cells ++ part) ≡ take start cells ++ drop (start + size) cells
moved_front cells part start count size inside carried =
    let before = take start cells in
    let long : length before ≡ start = length-take-le start cells inside in
    (λ i. take_past before part start count long i ++ drop_past before part start (count + size) long i)
    ∙ append_assoc before (take count part) (drop (count + size) part)
    ∙ ap (λ more. before ++ more) (carried ∙ drop-drop size start cells)

-- the list is written over the gap from place on, and the gap's end goes on by what is taken
pub gap_spliced : (cells put : List ℕ) (place count end : ℕ) → place ≤ length cells → place + length put ≤ end + count →
    take (place + length put) (take place cells ++ (put ++ drop (length put) (drop place cells))) ++ drop (end + count) (take place cells ++ (put ++ drop (length put) (drop place cells)))
    ≡ spliced place count put (take place cells ++ drop end cells)
gap_spliced cells put place count end inside fits =
    let before = take place cells in
    let behind = drop (length put) (drop place cells) in
    let more = end + count - (place + length put) in
    let long : length before ≡ place = length-take-le place cells inside in
    let split : end + count ≡ place + (length put + more) = omega arith in
    let front : take (place + length put) (before ++ (put ++ behind)) ≡ before ++ put =
    take_past before (put ++ behind) place (length put) long ∙ ap (λ xs. before ++ xs) (take-append_seam put behind)
    in
    let back : drop (end + count) (before ++ (put ++ behind)) ≡ drop (end + count) cells =
    ap (λ n. drop n (before ++ (put ++ behind))) split
    ∙ drop_past before (put ++ behind) place (length put + more) long
    ∙ drop_past put behind (length put) more refl
    ∙ drop-drop more (length put) (drop place cells)
    ∙ drop-drop (length put + more) place cells
    ∙ ap (λ n. drop n cells) (sym split)
    in
    let kept : take place (before ++ drop end cells) ≡ before = take_at before (drop end cells) place long in
    let left : drop (place + count) (before ++ drop end cells) ≡ drop (end + count) cells =
    drop_past before (drop end cells) place count long ∙ drop-drop count end cells
    in
    (λ i. front i ++ back i)
    ∙ append_assoc before put (drop (end + count) cells)
    ∙ sym (λ i. kept i ++ (put ++ left i))
