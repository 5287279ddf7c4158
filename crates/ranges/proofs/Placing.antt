-- A range put in its order among rows. Assumes nothing.
use Rattle.std.proofs.Common.{◌≡◌, ℕ, suc, ◌<◌, ◌≤◌, true, false, cond, ltb, List, [], ◌∷◌, Some, Option, sym, refl, ap, ◌∙◌, arith}
use Rattle.std.proofs.lemmas.Bool.{cond_both, ltb-true, ltb-false, or_parts}
use Rattle.std.proofs.lemmas.Bool.Decides.{nat_tests}
use Rattle.std.specs.List.{insert}
use Rattle.ranges.proofs.Order.{ascending_parts, ascending_made}
use Rattle.ranges.specs.Places.{place}
use Rattle.ranges.specs.Rows.{Added, ascending_from, holds, lookup, placed, shares, shares_any}
use Rattle.ranges.specs.declared.range.Range.{Range}

-- a range is put at the place of its first code point
pub placed_at : {V : Type 0} (range : Range V) (rows : List (Range V)) → placed range rows ≡ insert rows (place range.first rows) range
placed_at range [] = refl
placed_at range (row ∷ rows) =
    elim (ltb row.last range.first)
    as (λ b. cond b (row ∷ placed range rows) (range ∷ row ∷ rows) ≡ insert (row ∷ rows) (cond b (suc (place range.first rows)) 0) range)
    [ true ↦ ap (λ more. row ∷ more) (placed_at range rows) | false ↦ refl ]

-- so rows with the range at that place are the rows with the range in its order
pub placed_from : {V : Type 0} (range : Range V) (rows after : List (Range V)) (k : ℕ) → after ≡ insert rows k range → k ≡ place range.first rows → after ≡ placed range rows
placed_from range rows after k is at = is ∙ ap (λ m. insert rows m range) at ∙ sym (placed_at range rows)

-- of two that have no code point in common the one that does not end first begins behind the other's end
pub begins_behind : {V : Type 0} (row range : Range V) → shares row range ≡ false → range.first ≤ row.last → range.last < row.first
begins_behind row range apart ends = grind (arith, nat_tests)

-- ascending rows ascend with one more range that has nothing in common with them
pub placed_ascending : {V : Type 0} (low : ℕ) (range : Range V) (rows : List (Range V)) → ascending_from low rows ≡ true → low ≤ range.first → range.first ≤ range.last → shares_any rows range ≡ false → ascending_from low (placed range rows) ≡ true
placed_ascending low range [] up begins forward apart = ascending_made low range [] begins forward refl
placed_ascending {V} low range (row ∷ rows) up begins forward apart =
    let p = ascending_parts low row rows up in
    let q = or_parts (shares row range) (shares_any rows range) apart in
    let P : List (Range V) → Type 0 = λ all. ascending_from low all ≡ true in
    cond_both (ltb row.last range.first) (row ∷ placed range rows) (range ∷ row ∷ rows) P
    (λ t. ascending_made low row (placed range rows) p.0 p.1 (placed_ascending (suc row.last) range rows p.2 (ltb-true _ _ t) forward q.1))
    (λ f. ascending_made low range (row ∷ rows) begins forward (ascending_made (suc range.last) row rows (begins_behind row range q.0 (ltb-false _ _ f)) p.1 p.2))

-- where one range ends before the other begins, it does not matter which is asked first
pub asked_first : {V : Type 0} (row range : Range V) (c : ℕ) (o : Option V) → row.last < range.first → cond (holds row c) (Some row.value) (cond (holds range c) (Some range.value) o) ≡ cond (holds range c) (Some range.value) (cond (holds row c) (Some row.value) o)
asked_first row range c o ends = grind (arith, nat_tests)

-- the range's code points get its value, and no other's value changes
pub placed_values : {V : Type 0} (range : Range V) (rows : List (Range V)) (c : ℕ) → lookup (placed range rows) c ≡ cond (holds range c) (Some range.value) (lookup rows c)
placed_values range [] c = refl
placed_values {V} range (row ∷ rows) c =
    let P : List (Range V) → Type 0 = λ all. lookup all c ≡ cond (holds range c) (Some range.value) (lookup (row ∷ rows) c) in
    cond_both (ltb row.last range.first) (row ∷ placed range rows) (range ∷ row ∷ rows) P
    (λ t. ap (cond (holds row c) (Some row.value)) (placed_values range rows c) ∙ asked_first row range c (lookup rows c) (ltb-true _ _ t))
    (λ _. refl)

-- so they do in rows that are these with the range
pub values_from : {V : Type 0} (range : Range V) (rows after : List (Range V)) → after ≡ placed range rows → Added range rows after
values_from range rows after is c = ap (λ all. lookup all c) is ∙ placed_values range rows c
