-- What is known of a range that is not refused. Assumes nothing.
use Rattle.std.proofs.Common.{◌≡◌, ℕ, ◌≤◌, true, false, List, None, ap, ◌∙◌, arith}
use Rattle.std.proofs.lemmas.Bool.Decides.{nat_tests}
use Rattle.ranges.proofs.Placing.{placed_ascending}
use Rattle.ranges.specs.Rows.{ascending, placed, refusal, shares_any}
use Rattle.ranges.specs.declared.range.Range.{Range}

-- it is not backward
pub kept_forward : {V : Type 0} (room : ℕ) (rows : List (Range V)) (range : Range V) → refusal room rows range ≡ None → range.first ≤ range.last
kept_forward room rows range kept = grind (arith, nat_tests)

-- it has nothing in common with the rows
pub kept_apart : {V : Type 0} (room : ℕ) (rows : List (Range V)) (range : Range V) → refusal room rows range ≡ None → shares_any rows range ≡ false
kept_apart room rows range kept = grind (arith, nat_tests)

-- the rows ascend with it
pub kept_ascending : {V : Type 0} (room : ℕ) (range : Range V) (rows after : List (Range V)) → ascending rows ≡ true → refusal room rows range ≡ None → after ≡ placed range rows → ascending after ≡ true
kept_ascending room range rows after up kept is =
    ap ascending is ∙ placed_ascending 0 range rows up (omega arith) (kept_forward room rows range kept) (kept_apart room rows range kept)
