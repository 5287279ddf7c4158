-- The place of a code point among rows, and the row there. Assumes nothing.
use Rattle.std.proofs.Common.{◌≡◌, ℕ, zero, suc, ◌+◌, ◌<◌, ◌≤◌, true, false, cond, ltb, List, [], ◌∷◌, length, get_or, Option, Some, None, slice_get, sym, refl, ap, ◌∙◌, arith}
use Rattle.std.proofs.lemmas.Bool.{cond_both, ltb-true, ltb-false}
use Rattle.std.proofs.lemmas.List.Sums.{prefix_len-le-length, prefix_len_is}
use Rattle.std.proofs.lemmas.Option.{slice_get_past, slice_get_read}
use Rattle.std.specs.List.{prefix_len}
use Rattle.std.specs.List.Sorted.{IsNonDecreasingBy, IsPartitionPoint}
use Rattle.std.specs.Option.{option_copied}
use Rattle.std.specs.Slice.{IsItemAt}
use Rattle.ranges.proofs.Order.{ascending_parts, ascending_at}
use Rattle.ranges.specs.Places.{place}
use Rattle.ranges.specs.Rows.{ascending_from}
use Rattle.ranges.specs.declared.range.Range.{Range}

-- in ascending rows no row ends before one that stands before it
pub ends_ascend : {V : Type 0} (low : ℕ) (rows : List (Range V)) → ascending_from low rows ≡ true → IsNonDecreasingBy (λ row. row.last) rows
ends_ascend low [] up i j d before inside = absurd (omega arith)
ends_ascend low (row ∷ rows) up zero zero d before inside = omega arith
ends_ascend low (row ∷ rows) up zero (suc j) d before inside =
    let behind = ascending_at (suc row.last) rows j d (ascending_parts low row rows up).2 (omega arith) in
    omega (arith, behind.0, behind.1)
ends_ascend low (row ∷ rows) up (suc i) zero d before inside = absurd (omega arith)
ends_ascend low (row ∷ rows) up (suc i) (suc j) d before inside =
    ends_ascend (suc row.last) rows (ascending_parts low row rows up).2 i j d (omega arith) (omega arith)

-- the place counts the rows that end before the code point
place_prefix : {V : Type 0} (c : ℕ) (rows : List (Range V)) → place c rows ≡ prefix_len (λ row. ltb row.last c) rows
place_prefix c [] = refl
place_prefix c (row ∷ rows) =
    let more : suc (place c rows) ≡ 1 + prefix_len (λ x. ltb x.last c) rows = omega (arith, place_prefix c rows) in
    ap (λ n. cond (ltb row.last c) n 0) more

-- it is among the rows or at their end
pub place_within : {V : Type 0} (c : ℕ) (rows : List (Range V)) → place c rows ≤ length rows
place_within c rows = omega (arith, place_prefix c rows, prefix_len-le-length (λ row. ltb row.last c) rows)

-- rows that end before the code point, and none behind them, reach to the place
pub place_is : {V : Type 0} (c : ℕ) (rows : List (Range V)) (p : ℕ) → p ≤ length rows → IsPartitionPoint (λ row. ltb row.last c ≡ true) (λ row. ltb row.last c ≡ false) rows p → p ≡ place c rows
place_is c [] p within point = omega arith
place_is c (row ∷ rows) p within point =
    sym (prefix_len_is (λ x. ltb x.last c) (row ∷ rows) p row within (λ k before. point.0 k row (omega arith) before) (λ inside. point.1 p row (omega arith) inside))
    ∙ sym (place_prefix c (row ∷ rows))

-- a row that ends at the code point or above is not before the place
pub place_at_most : {V : Type 0} (c : ℕ) (rows : List (Range V)) (k : ℕ) (d : Range V) → k < length rows → c ≤ (get_or rows k d).last → place c rows ≤ k
place_at_most c [] k d inside ends = omega arith
place_at_most c (row ∷ rows) zero d inside ends =
    cond_both (ltb row.last c) (suc (place c rows)) 0 (λ p. p ≤ 0) (λ t. omega (arith, ltb-true _ _ t)) (λ _. omega arith)
place_at_most c (row ∷ rows) (suc k) d inside ends =
    let more = place_at_most c rows k d (omega arith) ends in
    cond_both (ltb row.last c) (suc (place c rows)) 0 (λ p. p ≤ suc k) (λ _. omega arith) (λ _. omega arith)

-- an ascending row that ends below the code point is before the place
pub place_above : {V : Type 0} (c low : ℕ) (rows : List (Range V)) (k : ℕ) (d : Range V) → ascending_from low rows ≡ true → k < length rows → (get_or rows k d).last < c → k < place c rows
place_above c low [] k d up inside ends = absurd (omega arith)
place_above c low (row ∷ rows) zero d up inside ends =
    cond_both (ltb row.last c) (suc (place c rows)) 0 (λ p. 0 < p) (λ _. omega arith) (λ f. omega (arith, ltb-false _ _ f))
place_above c low (row ∷ rows) (suc k) d up inside ends =
    let up_on = (ascending_parts low row rows up).2 in
    let more = place_above c (suc row.last) rows k d up_on (omega arith) ends in
    let here = ascending_at (suc row.last) rows k d up_on (omega arith) in
    cond_both (ltb row.last c) (suc (place c rows)) 0 (λ p. suc k < p) (λ _. omega arith) (λ f. omega (arith, ltb-false _ _ f))

-- what `get` lends is the row at the place
pub got : {X : Type 0} (xs : List X) (k : ℕ) (r : Option _) → IsItemAt xs k r → option_copied r ≡ slice_get xs k
got xs k None is = sym (slice_get_past xs k is.3)
got xs k (Some x) is = sym (slice_get_read xs (length xs) k x.now refl is.3.0 (is.3.1 x.now))
