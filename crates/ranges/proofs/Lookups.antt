-- What is looked up in ascending rows. Assumes nothing.
use Rattle.std.proofs.Common.{◌≡◌, ℕ, zero, suc, ◌<◌, ◌≤◌, Bool, true, false, cond, ltb, leb, List, [], ◌∷◌, length, get_or, Some, None, Option, IsSomeAnd, MatchOption, slice_get, Bor, sym, refl, ap, ◌∙◌, ⊎_elim, arith}
use Rattle.std.proofs.lemmas.Bool.{cases_Bool, cond_both, cond-false, leb-false, ltb-true, ltb-false}
use Rattle.std.proofs.lemmas.Bool.Decides.{nat_tests}
use Rattle.std.proofs.lemmas.Option.{MatchOption-at_none, MatchOption-at_some}
use Rattle.std.specs.Bool.{then_some}
use Rattle.std.specs.Option.{option_and_then, option_copied}
use Rattle.std.specs.Slice.{IsItemAt}
use Rattle.ranges.proofs.Order.{ascending_parts, ascending_at}
use Rattle.ranges.proofs.Places.{got}
use Rattle.ranges.specs.Places.{place}
use Rattle.ranges.specs.Rows.{Listed, ascending_from, holds, lookup}
use Rattle.ranges.specs.declared.range.Range.{Range}

-- a row that ends below the code point does not hold it
pub holds_not_above : {V : Type 0} (row : Range V) (c : ℕ) → row.last < c → holds row c ≡ false
holds_not_above row c ends = grind (arith, nat_tests)

-- what a row that does not hold the code point leaves to the others
pub lookup_on : {V : Type 0} (c : ℕ) (row : Range V) (rows : List (Range V)) → holds row c ≡ false → lookup (row ∷ rows) c ≡ lookup rows c
lookup_on c row rows misses = cond-false (holds row c) (Some row.value) (lookup rows c) misses

-- nothing is listed below the limit that the rows ascend from
pub lookup_below : {V : Type 0} (c low : ℕ) (rows : List (Range V)) → ascending_from low rows ≡ true → c < low → lookup rows c ≡ None
lookup_below c low [] up below = refl
lookup_below c low (row ∷ rows) up below =
    let p = ascending_parts low row rows up in
    let behind = lookup_below c (suc row.last) rows p.2 (omega arith) in
    grind (arith, nat_tests)

-- nothing is listed behind the rows
pub lookup_past : {V : Type 0} (c : ℕ) (rows : List (Range V)) → length rows ≤ place c rows → lookup rows c ≡ None
lookup_past c [] past = refl
lookup_past c (row ∷ rows) past =
    cond_both (ltb row.last c) (suc (place c rows)) 0 (λ p. suc (length rows) ≤ p → lookup (row ∷ rows) c ≡ None)
    (λ t behind. lookup_on c row rows (holds_not_above row c (ltb-true _ _ t)) ∙ lookup_past c rows (omega arith))
    (λ _ behind. absurd (omega arith))
    past

-- of rows whose first ends at the code point or above, only that one can hold it
pub lookup_first : {V : Type 0} (c : ℕ) (row : Range V) (rows : List (Range V)) → row.first ≤ row.last → ascending_from (suc row.last) rows ≡ true → c ≤ row.last → lookup (row ∷ rows) c ≡ cond (leb row.first c) (Some row.value) None
lookup_first c row rows forward up ends =
    ⊎_elim
    (λ t. grind (arith, nat_tests))
    (λ f. let none = lookup_below c (suc row.last) rows up (omega (arith, leb-false _ _ f)) in grind (arith, nat_tests))
    (cases_Bool (leb row.first c))

-- so the row at the place decides
pub lookup_at : {V : Type 0} (c low : ℕ) (rows : List (Range V)) → ascending_from low rows ≡ true → lookup rows c ≡ option_and_then (λ row. cond (leb row.first c) (Some row.value) None) (slice_get rows (place c rows))
lookup_at c low [] up = refl
lookup_at {V} c low (row ∷ rows) up =
    let p = ascending_parts low row rows up in
    let P : ℕ → Type 0 = λ k. lookup (row ∷ rows) c ≡ option_and_then (λ x. cond (leb x.first c) (Some x.value) None) (slice_get (row ∷ rows) k) in
    cond_both (ltb row.last c) (suc (place c rows)) 0 P
    (λ t. lookup_on c row rows (holds_not_above row c (ltb-true _ _ t)) ∙ lookup_at c (suc row.last) rows p.2)
    (λ f. lookup_first c row rows p.1 p.2 (ltb-false _ _ f))

-- what is looked up is listed
pub lookup_listed : {V : Type 0} (c : ℕ) (rows : List (Range V)) (v : V) → lookup rows c ≡ Some v → Listed rows c v
lookup_listed c [] v found = let none : ◌≡◌ {A = ℕ} 0 1 = cc in absurd (omega arith)
lookup_listed {V} c (row ∷ rows) v found =
    let P : Option V → Type 0 = λ o. o ≡ Some v → Listed (row ∷ rows) c v in
    cond_both (holds row c) (Some row.value) (lookup rows c) P
    (λ t here. (0, row, omega arith, refl, t, cc))
    (λ _ there. let q = lookup_listed c rows v there in (suc q.0, q.1, omega arith, q.3, q.4, q.5))
    found

-- the k-th of ascending rows is the only one that holds its code points
pub lookup_row : {V : Type 0} (c low : ℕ) (rows : List (Range V)) (k : ℕ) (row : Range V) → ascending_from low rows ≡ true → k < length rows → get_or rows k row ≡ row → holds row c ≡ true → lookup rows c ≡ Some row.value
lookup_row c low [] k row up inside is within = absurd (omega arith)
lookup_row c low (first ∷ rows) zero row up inside is within = grind (arith, nat_tests)
lookup_row c low (first ∷ rows) (suc k) row up inside is within =
    let p = ascending_parts low first rows up in
    let q = ascending_at (suc first.last) rows k row p.2 (omega arith) in
    let begins : suc first.last ≤ row.first = rw is at q.0 in
    let behind = lookup_row c (suc first.last) rows k row p.2 (omega arith) is within in
    grind (arith, nat_tests)

-- what is listed is looked up
pub listed_lookup : {V : Type 0} (c low : ℕ) (rows : List (Range V)) (v : V) → ascending_from low rows ≡ true → Listed rows c v → lookup rows c ≡ Some v
listed_lookup c low rows v up listed =
    lookup_row c low rows listed.0 listed.1 up listed.2 listed.3 listed.4 ∙ ap Some listed.5

-- what `map` makes of a row
mapped_value : {X : Type 0} (value : Option X) (x : X) {P : X → Type 0} → IsSomeAnd value P → ((y : X) → P y → y ≡ x) → value ≡ Some x
mapped_value None x made is = absurd made
mapped_value (Some y) x made is = ap Some (is y made)

-- what `filter` and `map` make of a row, if there is one
kept_value : {V : Type 0} (c : ℕ) (row kept : Option (Bor (Range V))) (value : Option V) {Gives : Bor (Range V) → Bool → Type 0} {Makes : Bor (Range V) → V → Type 0}
    → MatchOption row (kept ≡ None) (λ x. (b : Bool) × Gives x b × (kept ≡ then_some b x)) → ((x : Bor (Range V)) (b : Bool) → Gives x b → b ≡ leb x.now.first c)
    → MatchOption kept (value ≡ None) (λ x. IsSomeAnd value (Makes x)) → ((x : Bor (Range V)) (v : V) → Makes x v → v ≡ x.now.value)
    → value ≡ option_and_then (λ x. cond (leb x.first c) (Some x.value) None) (option_copied row)
kept_value c None kept value none gives mapped makes = MatchOption-at_none _ _ none mapped
kept_value {V} c (Some x) kept value (b, gave, is) gives mapped makes =
    by_case b is ∙ ap (λ t. cond t (Some x.now.value) None) (gives x b gave)
  where
    by_case : (t : Bool) → kept ≡ then_some t x → value ≡ cond t (Some x.now.value) None
    by_case true some = mapped_value value x.now.value (MatchOption-at_some _ _ x some mapped) (makes x)
    by_case false none = MatchOption-at_none _ _ none mapped

-- the row at the place gives its value, if it begins at the code point or below
pub lookup_kept : {V : Type 0} (c : ℕ) (rows : List (Range V)) (p : ℕ) (row kept : Option (Bor (Range V))) (value : Option V) {Gives : Bor (Range V) → Bool → Type 0} {Makes : Bor (Range V) → V → Type 0}
    → ascending_from 0 rows ≡ true → p ≡ place c rows → IsItemAt rows p row
    → MatchOption row (kept ≡ None) (λ x. (b : Bool) × Gives x b × (kept ≡ then_some b x)) → ((x : Bor (Range V)) (b : Bool) → Gives x b → b ≡ leb x.now.first c)
    → MatchOption kept (value ≡ None) (λ x. IsSomeAnd value (Makes x)) → ((x : Bor (Range V)) (v : V) → Makes x v → v ≡ x.now.value)
    → value ≡ lookup rows c
lookup_kept c rows p row kept value up at is filtered gives mapped makes =
    let here : option_copied row ≡ slice_get rows (place c rows) = got rows p row is ∙ ap (slice_get rows) at in
    kept_value c row kept value filtered gives mapped makes
    ∙ ap (option_and_then (λ x. cond (leb x.first c) (Some x.value) None)) here
    ∙ sym (lookup_at c 0 rows up)
