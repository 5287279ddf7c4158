-- What it means that rows ascend. Assumes nothing.
use Rattle.std.proofs.Common.{◌≡◌, ℕ, zero, suc, ◌<◌, ◌≤◌, true, List, [], ◌∷◌, length, get_or, refl, arith}
use Rattle.std.proofs.lemmas.Bool.Decides.{nat_tests}
use Rattle.ranges.specs.Rows.{ascending_from}
use Rattle.ranges.specs.declared.range.Range.{Range}

-- of ascending rows the first begins at the limit or above, is not backward, and the others ascend from its end
pub ascending_parts : {V : Type 0} (low : ℕ) (row : Range V) (rows : List (Range V)) → ascending_from low (row ∷ rows) ≡ true → (low ≤ row.first) × (row.first ≤ row.last) × (ascending_from (suc row.last) rows ≡ true)
ascending_parts low row rows up = grind (arith, nat_tests)

-- and rows of which that is known ascend
pub ascending_made : {V : Type 0} (low : ℕ) (row : Range V) (rows : List (Range V)) → low ≤ row.first → row.first ≤ row.last → ascending_from (suc row.last) rows ≡ true → ascending_from low (row ∷ rows) ≡ true
ascending_made low row rows begin end up = grind (arith, nat_tests)

-- rows that ascend from a limit ascend from a lower one
pub ascending_lower : {V : Type 0} (high low : ℕ) (rows : List (Range V)) → low ≤ high → ascending_from high rows ≡ true → ascending_from low rows ≡ true
ascending_lower high low [] below up = refl
ascending_lower high low (row ∷ rows) below up =
    let p = ascending_parts high row rows up in
    ascending_made low row rows (omega arith) p.1 p.2

-- no row begins below the limit, and none is backward
pub ascending_at : {V : Type 0} (low : ℕ) (rows : List (Range V)) (k : ℕ) (d : Range V) → ascending_from low rows ≡ true → k < length rows → (low ≤ (get_or rows k d).first) × ((get_or rows k d).first ≤ (get_or rows k d).last)
ascending_at low [] k d up inside = absurd (omega arith)
ascending_at low (row ∷ rows) zero d up inside = let p = ascending_parts low row rows up in (p.0, p.1)
ascending_at low (row ∷ rows) (suc k) d up inside =
    let p = ascending_parts low row rows up in
    let q = ascending_at (suc row.last) rows k d p.2 (omega arith) in
    (omega arith, q.1)
