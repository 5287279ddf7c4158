-- Rows of a table: ranges of code points with values, and what it means to look one up or to add one. Assumes nothing.
use Rattle.std.specs.Prelude.{◌≡◌, ℕ, suc, ◌+◌, ◌-◌, ◌<◌, Bool, true, false, cond, ◌&&◌, ◌||◌, List, [], ◌∷◌, length, Some, None, Option, Result, MatchResult, nat_le, nat_lt, slice_index_or}
use Rattle.ranges.specs.declared.range.Range.{Range}
use Rattle.ranges.specs.declared.refusal.Refusal.{Refusal}
use Rattle.ranges.specs.declared.refusal.Refusal.TheVariants.{Backward, Shared, Full}

-- whether the code point is one of the row's
abbrev pub holds : {V : Type 0} → Range V → ℕ → Bool
holds row c = nat_le row.first c && nat_le c row.last

-- the value of the first row that holds the code point
abbrev pub lookup : {V : Type 0} → List (Range V) → ℕ → Option V
lookup [] c = None
lookup (row ∷ rows) c = cond (holds row c) (Some row.value) (lookup rows c)

-- some row holds the code point, with this value
abbrev pub Listed : {V : Type 0} → List (Range V) → ℕ → V → Type 0
Listed {V} rows c v = (k : ℕ) × (row : Range V) × (k < length rows) × (slice_index_or rows k row ≡ row) × (holds row c ≡ true) × (row.value ≡ v)

-- whether the two have a code point in common, if neither is backward
abbrev pub shares : {V : Type 0} → Range V → Range V → Bool
shares a b = nat_le a.first b.last && nat_le b.first a.last

-- whether a row has a code point in common with the range
abbrev pub shares_any : {V : Type 0} → List (Range V) → Range V → Bool
shares_any [] range = false
shares_any (row ∷ rows) range = shares row range || shares_any rows range

-- whether each row begins above the end of the one before it, the first at `low` or above, and none is backward
abbrev pub ascending_from : {V : Type 0} → ℕ → List (Range V) → Bool
ascending_from low [] = true
ascending_from low (row ∷ rows) = nat_le low row.first && (nat_le row.first row.last && ascending_from (suc row.last) rows)

-- whether the rows are in order and apart
abbrev pub ascending : {V : Type 0} → List (Range V) → Bool
ascending rows = ascending_from 0 rows

-- the range put behind the rows that end before it
abbrev pub placed : {V : Type 0} → Range V → List (Range V) → List (Range V)
placed range [] = range ∷ []
placed range (row ∷ rows) = cond (nat_lt row.last range.first) (row ∷ placed range rows) (range ∷ row ∷ rows)

-- the rows up to the first that is out of order, where the first may begin at `low`
abbrev pub front_from : {V : Type 0} → ℕ → List (Range V) → List (Range V)
front_from low [] = []
front_from low (row ∷ rows) = cond (nat_le low row.first && nat_le row.first row.last) (row ∷ front_from (suc row.last) rows) []

-- the rows up to the first that is out of order
abbrev pub front : {V : Type 0} → List (Range V) → List (Range V)
front rows = front_from 0 rows

-- the first reason that applies why the range can't be added to the rows, of which there may be `room`
abbrev pub refusal : {V : Type 0} → ℕ → List (Range V) → Range V → Option Refusal
refusal room rows range =
    cond (nat_lt range.last range.first) (Some Backward)
    (cond (shares_any rows range) (Some Shared)
    (cond (nat_lt (length rows) room) None (Some Full)))

-- an answer to the range refuses it for that reason, and keeps it if there is none
abbrev pub Told : {V T : Type 0} → ℕ → List (Range V) → Range V → Result T Refusal → Type 0
Told room rows range r = MatchResult r (λ _. refusal room rows range ≡ None) (λ why. refusal room rows range ≡ Some why)

-- the code points of the range have its value, and all others what they had
abbrev pub Added : {V : Type 0} → Range V → List (Range V) → List (Range V) → Type 0
Added range before after = (c : ℕ) → lookup after c ≡ cond (holds range c) (Some range.value) (lookup before c)

-- how many code points the rows hold together, if they are apart
abbrev pub covered : {V : Type 0} → List (Range V) → ℕ
covered [] = 0
covered (row ∷ rows) = (row.last - row.first + 1) + covered rows
