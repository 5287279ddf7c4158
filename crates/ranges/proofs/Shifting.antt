-- Records moved by one, and one written. Assumes nothing.
use Rattle.std.proofs.Common.{◌≡◌, ℕ, ◌+◌, ◌<◌, List, [], ◌∷◌, ◌++◌, length, take, drop, set, sym, ap, ◌∙◌, append_assoc, arith, length-drop, length-take}
use lib.Seq.{paste}
use Rattle.std.proofs.Math.Seq.{take-set-lt}
use Rattle.std.proofs.lemmas.List.Edits.{take-paste}
use Rattle.std.proofs.lemmas.List.{drop-take, set-append_left, take-take, take_more_set}
use Rattle.std.specs.List.{insert}

-- the n elements from the place on move by one, and one is written at the place
pub shifted : {X : Type 0} (xs moved : List X) (x : X) (used place n : ℕ) → moved ≡ paste xs (place + 1) (drop place xs) n → used ≡ place + n → used < length xs →
    take (used + 1) (set moved place x) ≡ insert (take used xs) place x
shifted xs moved x used place n moved-is used-is free =
    let behind = take n (drop place xs) in
    let end : used + 1 ≡ place + 1 + n = omega arith in
    let front : take (used + 1) moved ≡ take (place + 1) xs ++ behind =
    (λ i. take (end i) (moved-is i)) ∙ take-paste xs (place + 1) (drop place xs) n (omega arith) (simp length-drop (omega arith)) in
    let kept : take place (take used xs) ≡ take place xs = take-take place used xs (omega arith) in
    let tail : drop place (take used xs) ≡ behind = ap (λ m. drop place (take m xs)) used-is ∙ drop-take place n xs in
    take-set-lt (used + 1) moved place x (omega arith)
    ∙ ap (λ ys. set ys place x) front
    ∙ set-append_left (take (place + 1) xs) behind place x (simp length-take (omega arith))
    ∙ ap (λ ys. ys ++ behind) (sym (take-set-lt (place + 1) xs place x (omega arith)) ∙ take_more_set xs place x (omega arith))
    ∙ append_assoc (take place xs) (x ∷ []) behind
    ∙ sym (λ i. kept i ++ x ∷ tail i)
