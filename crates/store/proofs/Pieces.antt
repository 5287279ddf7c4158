-- Parts of lists that are put together or pasted over. Assumes nothing.
use Rattle.std.proofs.Common.{◌≡◌, ℕ, ◌+◌, ◌-◌, ◌≤◌, List, ◌++◌, length, take, drop, ap, ◌∙◌, subst, append_assoc, append-nil, arith, length-drop, length-take}
use lib.Seq.{paste, take-append-add, drop-append-add}
use borrow.Rule.Slice.PartMut.{put_mid}
use Rattle.std.proofs.lemmas.List.{length-take-le, drop_at, drop_all, take-take, take-append-le}

-- n is the length of the first list
pub take_past : (xs ys : List ℕ) (n m : ℕ) → length xs ≡ n → take (n + m) (xs ++ ys) ≡ xs ++ take m ys
take_past xs ys n m long = subst (λ k. take (k + m) (xs ++ ys) ≡ xs ++ take m ys) long (take-append-add xs ys m)

pub drop_past : (xs ys : List ℕ) (n m : ℕ) → length xs ≡ n → drop (n + m) (xs ++ ys) ≡ drop m ys
drop_past xs ys n m long = subst (λ k. drop (k + m) (xs ++ ys) ≡ drop m ys) long (drop-append-add xs ys m)

-- pasting leaves what is before it
pub take_before_paste : (k : ℕ) (xs : List ℕ) (at : ℕ) (ys : List ℕ) (n : ℕ) → k ≤ at → at ≤ length xs → take k (paste xs at ys n) ≡ take k xs
take_before_paste k xs at ys n before inside =
    ap (take k) (append_assoc (take at xs) (take n ys) (drop (at + n) xs))
    ∙ take-append-le k (take at xs) (take n ys ++ drop (at + n) xs) (simp length-take (omega arith))
    ∙ take-take k at xs before

-- from there on it is what was pasted, and the rest
pub drop_at_paste : (xs : List ℕ) (at : ℕ) (ys : List ℕ) (n : ℕ) → at ≤ length xs → drop at (paste xs at ys n) ≡ take n ys ++ drop (at + n) xs
drop_at_paste xs at ys n inside =
    ap (drop at) (append_assoc (take at xs) (take n ys) (drop (at + n) xs))
    ∙ drop_at (take at xs) (take n ys ++ drop (at + n) xs) at (length-take-le at xs inside)

-- a write to all from k on
pub put_rest : (k : ℕ) (xs ys : List ℕ) → k ≤ length xs → put_mid k (length xs - k) xs ys ≡ take k xs ++ ys
put_rest k xs ys inside =
    ap (λ more. take k xs ++ (ys ++ more)) (drop_all (length xs - k) (drop k xs) (simp length-drop (omega arith)))
    ∙ ap (λ more. take k xs ++ more) (append-nil ys)
