-- Whether a range has a code point in common with ascending rows. Assumes nothing.
use Rattle.std.proofs.Common.{◌≡◌, ℕ, suc, ◌<◌, ◌≤◌, Bool, true, false, ◌||◌, ltb, leb, List, [], ◌∷◌, length, None, Some, Option, MatchOption, slice_get, Bor, sym, refl, ap, ◌∙◌, ⊎_elim, arith}
use Rattle.std.proofs.lemmas.Bool.{cond_both, leb-false, ltb-true, ltb-false, cases_Bool}
use Rattle.std.proofs.lemmas.Bool.Decides.{nat_tests}
use Rattle.std.specs.Option.{option_copied, option_map_or}
use Rattle.std.specs.Slice.{IsItemAt}
use Rattle.ranges.proofs.Order.{ascending_parts}
use Rattle.ranges.proofs.Places.{got}
use Rattle.ranges.specs.Places.{place}
use Rattle.ranges.specs.Rows.{ascending_from, shares, shares_any}
use Rattle.ranges.specs.declared.range.Range.{Range}

-- a row that ends before the range has none in common with it
pub shares_not_before : {V : Type 0} (row range : Range V) → row.last < range.first → shares row range ≡ false
shares_not_before row range ends = grind (arith, nat_tests)

-- what a row that has none in common leaves to the others
pub shares_on : {V : Type 0} (row : Range V) (rows : List (Range V)) (range : Range V) → shares row range ≡ false → shares_any (row ∷ rows) range ≡ shares_any rows range
shares_on row rows range apart = ap (λ b. b || shares_any rows range) apart

-- a range that ends below the limit that the rows ascend from has none in common with them
pub shares_below : {V : Type 0} (low : ℕ) (rows : List (Range V)) (range : Range V) → ascending_from low rows ≡ true → range.last < low → shares_any rows range ≡ false
shares_below low [] range up below = refl
shares_below low (row ∷ rows) range up below =
    let p = ascending_parts low row rows up in
    let behind = shares_below (suc row.last) rows range p.2 (omega arith) in
    grind (arith, nat_tests)

-- nor has a range whose place is behind the rows
pub shares_past : {V : Type 0} (rows : List (Range V)) (range : Range V) → length rows ≤ place range.first rows → shares_any rows range ≡ false
shares_past [] range past = refl
shares_past (row ∷ rows) range past =
    cond_both (ltb row.last range.first) (suc (place range.first rows)) 0 (λ p. suc (length rows) ≤ p → shares_any (row ∷ rows) range ≡ false)
    (λ t behind. shares_on row rows range (shares_not_before row range (ltb-true _ _ t)) ∙ shares_past rows range (omega arith))
    (λ _ behind. absurd (omega arith))
    past

-- of rows whose first does not end before the range, that one decides
pub shares_first : {V : Type 0} (row : Range V) (rows : List (Range V)) (range : Range V) → row.first ≤ row.last → ascending_from (suc row.last) rows ≡ true → range.first ≤ row.last → shares_any (row ∷ rows) range ≡ leb row.first range.last
shares_first row rows range forward up ends =
    ⊎_elim
    (λ t. grind (arith, nat_tests))
    (λ f. let below = shares_below (suc row.last) rows range up (omega (arith, leb-false _ _ f)) in grind (arith, nat_tests))
    (cases_Bool (leb row.first range.last))

-- so the row at the place decides
pub shares_at : {V : Type 0} (low : ℕ) (rows : List (Range V)) (range : Range V) → ascending_from low rows ≡ true → shares_any rows range ≡ option_map_or (λ row. leb row.first range.last) (slice_get rows (place range.first rows)) false
shares_at low [] range up = refl
shares_at low (row ∷ rows) range up =
    let p = ascending_parts low row rows up in
    let P : ℕ → Type 0 = λ k. shares_any (row ∷ rows) range ≡ option_map_or (λ x. leb x.first range.last) (slice_get (row ∷ rows) k) false in
    cond_both (ltb row.last range.first) (suc (place range.first rows)) 0 P
    (λ t. shares_on row rows range (shares_not_before row range (ltb-true _ _ t)) ∙ shares_at (suc row.last) rows range p.2)
    (λ f. shares_first row rows range p.1 p.2 (ltb-false _ _ f))

-- what `is_some_and` asks of a row, if there is one
row_asked : {V : Type 0} (limit : ℕ) (row : Option (Bor (Range V))) (b : Bool) {Gives : Bor (Range V) → Type 0}
    → MatchOption row (b ≡ false) Gives → ((x : Bor (Range V)) → Gives x → b ≡ leb x.now.first limit)
    → b ≡ option_map_or (λ x. leb x.first limit) (option_copied row) false
row_asked limit None b none gives = none
row_asked limit (Some x) b gave gives = gives x gave

-- the range has a code point in common with the rows if the row at the place begins at its end or below
pub shares_asked : {V : Type 0} (rows : List (Range V)) (range : Range V) (p : ℕ) (row : Option (Bor (Range V))) (b : Bool) {Gives : Bor (Range V) → Type 0}
    → ascending_from 0 rows ≡ true → p ≡ place range.first rows → IsItemAt rows p row
    → MatchOption row (b ≡ false) Gives → ((x : Bor (Range V)) → Gives x → b ≡ leb x.now.first range.last)
    → b ≡ shares_any rows range
shares_asked rows range p row b up at is asked gives =
    let here : option_copied row ≡ slice_get rows (place range.first rows) = got rows p row is ∙ ap (slice_get rows) at in
    row_asked range.last row b asked gives
    ∙ ap (λ o. option_map_or (λ x. leb x.first range.last) o false) here
    ∙ sym (shares_at 0 rows range up)
