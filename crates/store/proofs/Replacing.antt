-- A replacement by its lengths. Assumes nothing.
use Rattle.std.proofs.Common.{◌≡◌, ℕ, ◌+◌, ◌-◌, ◌≤◌, Bool, true, false, ◌&&◌, leb, List, length, sym, refl, ap, ◌∙◌, arith, length-append, length-drop, length-take, leb-true}
use Rattle.store.specs.Texts.{spliced, replaceable}

pub length_spliced : (place count : ℕ) (put text : List ℕ) → place + count ≤ length text → length (spliced place count put text) ≡ length text - count + length put
length_spliced place count put text taken =
    simp (length-append, length-take, length-drop) (omega arith)

pub replaceable_by_length : (capacity place count : ℕ) (put text : List ℕ) → replaceable capacity place count put text ≡ leb (place + count) (length text) && leb (length text - count + length put) capacity
replaceable_by_length capacity place count put text = by_case (leb (place + count) (length text)) refl
  where
    by_case : (b : Bool) → leb (place + count) (length text) ≡ b → replaceable capacity place count put text ≡ leb (place + count) (length text) && leb (length text - count + length put) capacity
    by_case true e = ap (λ n. leb (place + count) (length text) && leb n capacity) (length_spliced place count put text (leb-true _ _ e))
    by_case false e = rw e refl

-- what `is_possible` told of lengths, told of the text
pub told_of_text : (capacity used place count : ℕ) (put text : List ℕ) {told : Bool} {room : ℕ} → told ≡ leb (place + count) used && leb (used - count + length put) room → room ≡ capacity → used ≡ length text → told ≡ replaceable capacity place count put text
told_of_text capacity used place count put text told room-is used-is =
    told
    ∙ ap (λ r. leb (place + count) used && leb (used - count + length put) r) room-is
    ∙ ap (λ n. leb (place + count) n && leb (n - count + length put) capacity) used-is
    ∙ sym (replaceable_by_length capacity place count put text)
