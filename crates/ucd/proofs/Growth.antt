-- What a line adds to the rows of a table. Assumes nothing.
use Rattle.std.proofs.Common.{◌≡◌, ℕ, Bool, true, false, cond, ltb, leb, ◌⊎◌, List, [], ◌∷◌, length, IfOk, Some, None, Ok, Err, Option, Result, sym, refl, ap, ◌∙◌, inl, inr, ⊎_elim, arith}
use Rattle.ranges.specs.Rows.{Added, holds, lookup, shares, shares_any}
use Rattle.ranges.specs.declared.range.Range.{Range}
use Rattle.std.proofs.lemmas.Bool.{and_from, and_parts, both_ways, cases_Bool, cond-true, cond-false, le-leb, leb-true, or_parts, true≢false}
use Rattle.ucd.specs.Entries.{entry_of}
use Rattle.ucd.specs.Files.{Answered, Grown, full_fault, shared_fault}
use Rattle.ucd.specs.declared.faults.Fault.{Fault}
use Rattle.ucd.specs.declared.listings.Listing.{Listing}

-- the line lists this value for the code point, as the reader reads it
abbrev pub ListsValue : {V : Type 0} → (List ℕ → Option V) → Bool → List ℕ → ℕ → V → Type 0
ListsValue {V} meant shared line c v =
    (listing : Listing V) × (entry_of meant shared line ≡ Ok (Some listing)) × (holds listing.range c ≡ true) × (listing.range.value ≡ v)

-- a code point of both is shared
both_hold : {V : Type 0} (a b : Range V) (c : ℕ) → holds a c ≡ true → holds b c ≡ true → shares a b ≡ true
both_hold a b c in-a in_b =
    let from_a = leb-true a.first c (and_parts (leb a.first c) (leb c a.last) in-a).0 in
    let to_a = leb-true c a.last (and_parts (leb a.first c) (leb c a.last) in-a).1 in
    let from_b = leb-true b.first c (and_parts (leb b.first c) (leb c b.last) in_b).0 in
    let to_b = leb-true c b.last (and_parts (leb b.first c) (leb c b.last) in_b).1 in
    and_from _ _ (le-leb a.first b.last (omega arith)) (le-leb b.first a.last (omega arith))

-- a range that shares nothing with the rows holds no code point that has a value
pub unshared : {V : Type 0} (rows : List (Range V)) (range : Range V) (c : ℕ) (v : V) → lookup rows c ≡ Some v → shares_any rows range ≡ false → holds range c ≡ false
unshared [] range c v found apart = absurd (true≢false cc)
unshared (row ∷ rows) range c v found apart =
    let parts = or_parts (shares row range) (shares_any rows range) apart in
    by_case (holds row c) refl found parts.0 (λ behind. unshared rows range c v behind parts.1)
  where
    by_case : (b : Bool) → holds row c ≡ b → cond b (Some row.value) (lookup rows c) ≡ Some v → shares row range ≡ false → (lookup rows c ≡ Some v → holds range c ≡ false) → holds range c ≡ false
    by_case true here found other behind =
        ⊎_elim (λ also. absurd (both_ways _ other (both_hold row range c here also))) (λ e. e) (cases_Bool (holds range c))
    by_case false there found other behind = behind found

-- a line whose range was put among the rows
grown_by_range : {V : Type 0} (meant : List ℕ → Option V) (shared : Bool) (line : List ℕ) (listing : Listing V) (before after : List (Range V)) → entry_of meant shared line ≡ Ok (Some listing) → shares_any before listing.range ≡ false → Added listing.range before after → Grown (ListsValue meant shared line) before after
grown_by_range {V} meant shared line listing before after entry apart values = record {
  stays = λ c v found. values c ∙ cond-false _ _ _ (unshared before listing.range c v found apart) ∙ found;
  gains = λ c v listed. gained c v listed;
  only = λ c v found. from c v (holds listing.range c) refl (sym (values c) ∙ found);
}
  where
    gained : (c : ℕ) (v : V) → ListsValue meant shared line c v → lookup after c ≡ Some v
    gained c v listed =
        let same : listing ≡ listed.0 = cc (entry, listed.1) in
        values c ∙ cond-true _ _ _ (ap (λ (l : Listing V). holds l.range c) same ∙ listed.2) ∙ ap Some (ap (λ (l : Listing V). l.range.value) same ∙ listed.3)

    from : (c : ℕ) (v : V) (b : Bool) → holds listing.range c ≡ b → cond b (Some listing.range.value) (lookup before c) ≡ Some v → (lookup before c ≡ Some v) ⊎ ListsValue meant shared line c v
    from c v true here e = inr (listing, entry, here, (let value : listing.range.value ≡ v = cc in value))
    from c v false there e = inl e

-- a range that is kept shares nothing
kept_apart : {V : Type 0} (shared free : Bool) (x y : V) → cond shared (Some x) (cond free None (Some y)) ≡ None → shared ≡ false
kept_apart true free x y e = absurd (true≢false cc)
kept_apart false free x y e = refl

-- what is known of a line's range is known of the line
pub grown_by_line : {V T : Type 0} (meant : List ℕ → Option V) (shared : Bool) (room number : ℕ) (line : List ℕ) (listing : Listing V) (before after : List (Range V)) (r : Result T Fault) → entry_of meant shared line ≡ Ok (Some listing) → Answered room before number (Ok (Some listing)) r → IfOk r (λ _. Added listing.range before after) → IfOk r (λ _. Grown (ListsValue meant shared line) before after)
grown_by_line meant shared room number line listing before after (Ok done) entry told added =
    grown_by_range meant shared line listing before after entry (kept_apart (shares_any before listing.range) (ltb (length before) room) (shared_fault number listing.place) (full_fault number) told) added
grown_by_line meant shared room number line listing before after (Err fault) entry told added = tt

-- a line that lists nothing
pub grown_by_nothing : {V : Type 0} (meant : List ℕ → Option V) (shared : Bool) (line : List ℕ) (rows : List (Range V)) → entry_of meant shared line ≡ Ok None → Grown (ListsValue meant shared line) rows rows
grown_by_nothing {V} meant shared line rows entry = record {
  stays = λ c v found. found;
  gains = λ c v listed. none c v listed;
  only = λ c v found. inl found;
}
  where
    none : (c : ℕ) (v : V) → ListsValue meant shared line c v → lookup rows c ≡ Some v
    none c v (listing, lists, here, is-value) = absurd (true≢false cc)
