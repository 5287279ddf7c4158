-- How many code points ascending rows hold. Assumes nothing.
use Rattle.std.proofs.Common.{◌≡◌, ℕ, suc, ◌+◌, ◌-◌, ◌<◌, ◌≤◌, true, List, ◌∷◌, length, get_or, drop, sym, ap, ◌∙◌, arith}
use Rattle.std.proofs.lemmas.List.{at_drop_more}
use Rattle.ranges.proofs.Order.{ascending_parts, ascending_lower}
use Rattle.ranges.specs.Rows.{ascending_from, covered}
use Rattle.ranges.specs.declared.range.Range.{Range}

-- rows from the i-th on hold what it holds and what those behind it hold
pub covered_more : {V : Type 0} (rows : List (Range V)) (i : ℕ) (row : Range V) → i < length rows → row ≡ get_or rows i row → covered (drop i rows) ≡ (row.last - row.first + 1) + covered (drop (i + 1) rows)
covered_more rows i row inside is = at_drop_more covered rows i row inside ∙ ap (λ x. covered (x ∷ drop (i + 1) rows)) (sym is)

-- where the rows from the i-th on begin above the count so far, the i-th is not backward, and those behind it begin above the new count
pub count_below : {V : Type 0} (total : ℕ) (rows : List (Range V)) (i : ℕ) (row : Range V) → i < length rows → row ≡ get_or rows i row → ascending_from total (drop i rows) ≡ true →
    (total ≤ row.first) × (row.first ≤ row.last) × (ascending_from (total + (row.last - row.first + 1)) (drop (i + 1) rows) ≡ true)
count_below total rows i row inside is up =
    let here : ascending_from total (row ∷ drop (i + 1) rows) ≡ true =
    ap (λ x. ascending_from total (x ∷ drop (i + 1) rows)) is ∙ sym (at_drop_more (ascending_from total) rows i row inside) ∙ up in
    let p = ascending_parts total row (drop (i + 1) rows) here in
    (p.0, p.1, ascending_lower (suc row.last) (total + (row.last - row.first + 1)) (drop (i + 1) rows) (omega arith) p.2)
