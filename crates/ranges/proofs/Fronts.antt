-- The rows up to the first that is out of order. Assumes nothing.
use Rattle.std.proofs.Common.{◌≡◌, ℕ, suc, ◌+◌, ◌<◌, ◌≤◌, true, ◌&&◌, leb, ◌⊎◌, List, [], ◌∷◌, length, get_or, take, drop, sym, refl, ap, ◌∙◌, ⊎_elim, arith}
use Rattle.std.proofs.lemmas.List.{at_drop_more}
use Rattle.std.proofs.lemmas.Bool.{and_left, and_right, and_parts, cond_both, cond-false, lt-leb, leb-true}
use Rattle.std.proofs.lemmas.Bool.Decides.{nat_tests}
use Rattle.ranges.proofs.Order.{ascending_parts, ascending_made}
use Rattle.ranges.specs.Rows.{ascending, ascending_from, front, front_from}
use Rattle.ranges.specs.declared.range.Range.{Range}

-- they ascend
pub front_ascending : {V : Type 0} (low : ℕ) (rows : List (Range V)) → ascending_from low (front_from low rows) ≡ true
front_ascending low [] = refl
front_ascending {V} low (row ∷ rows) =
    let P : List (Range V) → Type 0 = λ all. ascending_from low all ≡ true in
    cond_both (leb low row.first && leb row.first row.last) (row ∷ front_from (suc row.last) rows) [] P
    (λ t. let p = and_parts (leb low row.first) (leb row.first row.last) t in
    ascending_made low row (front_from (suc row.last) rows) (leb-true _ _ p.0) (leb-true _ _ p.1) (front_ascending (suc row.last) rows))
    (λ _. refl)

-- of ascending rows they are all
pub front_whole : {V : Type 0} (low : ℕ) (rows : List (Range V)) → ascending_from low rows ≡ true → front_from low rows ≡ rows
front_whole low [] up = refl
front_whole low (row ∷ rows) up =
    let p = ascending_parts low row rows up in
    let behind = front_whole (suc row.last) rows p.2 in
    grind (arith, nat_tests)

-- they are a start of the rows
pub front_start : {V : Type 0} (low : ℕ) (rows : List (Range V)) → take (length (front_from low rows)) rows ≡ front_from low rows
front_start low [] = refl
front_start {V} low (row ∷ rows) =
    let P : List (Range V) → Type 0 = λ all. take (length all) (row ∷ rows) ≡ all in
    cond_both (leb low row.first && leb row.first row.last) (row ∷ front_from (suc row.last) rows) [] P
    (λ _. ap (λ more. row ∷ more) (front_start (suc row.last) rows))
    (λ _. refl)

-- they are no more than the rows
pub front_within : {V : Type 0} (low : ℕ) (rows : List (Range V)) → length (front_from low rows) ≤ length rows
front_within low [] = omega arith
front_within {V} low (row ∷ rows) =
    let more = front_within (suc row.last) rows in
    let P : List (Range V) → Type 0 = λ all. length all ≤ suc (length rows) in
    cond_both (leb low row.first && leb row.first row.last) (row ∷ front_from (suc row.last) rows) [] P
    (λ _. omega arith)
    (λ _. omega arith)

-- they stop at a row out of order
pub front_stops : {V : Type 0} (low : ℕ) (rows : List (Range V)) (i : ℕ) (row : Range V) → i < length rows → row ≡ get_or rows i row → (row.first < low) ⊎ (row.last < row.first) → length (front_from low (drop i rows)) ≡ 0
front_stops low rows i row inside is stops =
    at_drop_more (λ all. length (front_from low all)) rows i row inside
    ∙ ap (λ x. length (front_from low (x ∷ drop (i + 1) rows))) (sym is)
    ∙ ap length (cond-false (leb low row.first && leb row.first row.last) (row ∷ front_from (suc row.last) (drop (i + 1) rows)) []
    (⊎_elim
    (λ below. and_left (leb low row.first) (leb row.first row.last) (lt-leb _ _ below))
    (λ backward. and_right (leb low row.first) (leb row.first row.last) (lt-leb _ _ backward))
    stops))

-- what is known of the first n rows if n is how many they are
pub front_counted : {V : Type 0} (rows : List (Range V)) (n : ℕ) → n ≡ length (front rows) → (n ≤ length rows) × (take n rows ≡ front rows) × (ascending (take n rows) ≡ true)
front_counted rows n is =
    let within = front_within 0 rows in
    let start : take n rows ≡ front rows = ap (λ k. take k rows) is ∙ front_start 0 rows in
    (omega arith, start, ap ascending start ∙ front_ascending 0 rows)
