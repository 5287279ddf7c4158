-- How a line is laid out, from where its first ';' and its first '#' stand. Assumes nothing.
use Rattle.std.proofs.Common.{◌≡◌, ℕ, ◌==◌, position, not, Some, None, ◌+◌, ◌<◌, ◌≤◌, Bool, true, false, cond, ◌&&◌, eqb, ltb, List, length, take, drop, Ok, Err, sym, refl, ap, ◌∙◌, arith}
use Rattle.std.proofs.lemmas.Bool.{true≢false, cond_both, ltb-false, ne_eqb, eq-eqb, le-ltb, and_from, and_right, cond-true, cond-false}
use Rattle.std.specs.List.{position_or_len, prefix_len}
use Rattle.std.specs.Option.{is_some, unwrap_or}
use Rattle.std.proofs.lemmas.List.Sums.{prefix_len-le-length}
use Rattle.ucd.specs.Bytes.{Uncommented, InField, is}
use Rattle.ucd.specs.Lines.{Part, blank, listing, core_of, field, whole, fields_at, parts_once, two_fields, parts_at, layout}
use Rattle.ucd.specs.declared.faults.Reason.TheVariants.{FieldCount}

-- the two fields where the first ';' stands at this place
pub at_fields : (closing : Bool) (s : List ℕ) (comment : Part) (front rest : List ℕ) (first : ℕ) → first ≡ prefix_len (is InField) s → take first s ≡ front → drop (first + 1) s ≡ rest → two_fields closing s comment ≡ cond (ltb first (length s) && eqb (prefix_len (is InField) rest) (length rest)) (Ok (listing (field false 0 front) (field closing (first + 1) rest) comment)) (Err (whole FieldCount))
at_fields closing s comment front rest first at is_front is_rest =
    ap (fields_at closing s comment) (sym at) ∙ (λ i. cond (ltb first (length s) && eqb (prefix_len (is InField) (is_rest i)) (length (is_rest i))) (Ok (listing (field false 0 (is_front i)) (field closing (first + 1) (is_rest i)) comment)) (Err (whole FieldCount)))

-- where a byte stands first, or where the bytes end
pub first_or_end : (b : ℕ) (s : List ℕ) → unwrap_or (position (λ x. x == b) s) (length s) ≡ position_or_len (λ x. x == b) s
first_or_end b s =
    let n = position_or_len (λ x. x == b) s in
    cond_both (ltb n (length s)) (Some n) None (λ o. unwrap_or o (length s) ≡ n) (λ _. refl) (λ all. omega (arith, ltb-false n (length s) all, prefix_len-le-length (λ x. not (x == b)) s))

-- no ';' follows the first
pub parts_one : (s : List ℕ) (first : ℕ) (rest : List ℕ) → ltb first (length s) ≡ true → rest ≡ drop (first + 1) s → is_some (position (λ b. b == 59) rest) ≡ false → parts_once s first ≡ true
parts_one s first rest within is_rest no_more =
    let all : prefix_len (is InField) rest ≡ length rest = omega (arith, ltb-false _ _ (by_case (ltb (prefix_len (is InField) rest) (length rest)) no_more), prefix_len-le-length (is InField) rest) in
    and_from _ _ within (ap (λ l. eqb (prefix_len (is InField) l) (length l)) (sym is_rest) ∙ eq-eqb _ _ all)
  where
    by_case : (v : Bool) → is_some (cond v (Some (prefix_len (is InField) rest)) None) ≡ false → v ≡ false
    by_case true found = absurd (true≢false found)
    by_case false found = refl

-- a second ';' follows the first
pub many_fields : (closing : Bool) (s : List ℕ) (comment : Part) (first count : ℕ) (rest : List ℕ) → first ≡ prefix_len (is InField) s → rest ≡ drop (first + 1) s → count ≡ prefix_len (is InField) rest → count < length rest → two_fields closing s comment ≡ Err (whole FieldCount)
many_fields closing s comment first count rest at is_rest counted short =
    let over : prefix_len (is InField) rest ≡ length rest → ⊥ = λ same. omega (arith, same, counted) in
    at_fields closing s comment (take first s) rest first at refl (sym is_rest) ∙ cond-false _ _ _ (and_right _ _ (ne_eqb _ _ over))

-- the two fields of bytes that are cut at their only ';'
pub both_fields : (closing : Bool) (s : List ℕ) (comment range value : Part) → parts_once s (prefix_len (is InField) s) ≡ true → range ≡ field false 0 (take (prefix_len (is InField) s) s) → value ≡ field closing (prefix_len (is InField) s + 1) (drop (prefix_len (is InField) s + 1) s) → two_fields closing s comment ≡ Ok (listing range value comment)
both_fields closing s comment range value once is-range is-value =
    cond-true _ _ _ once ∙ sym (λ i. Ok (listing (is-range i) (is-value i) comment))

-- a line that is not too long, by where its comment begins
short_line : (line : List ℕ) (end : ℕ) → length line ≤ 1024 → end ≡ prefix_len (is Uncommented) line → layout line ≡ parts_at line end
short_line line end short at = cond-false _ _ _ (le-ltb 1024 (length line) short) ∙ ap (parts_at line) (sym at)

-- what stands before the comment, stripped
core_at : (line front core : List ℕ) (end : ℕ) (v : Bool) → front ≡ take end line → core ≡ core_of (eqb end (length line)) front → v ≡ eqb (length core) 0 → eqb (length (core_of (eqb end (length line)) (take end line))) 0 ≡ v
core_at line front core end v is_front is-core told =
    ap (λ s. eqb (length (core_of (eqb end (length line)) s)) 0) (sym is_front) ∙ ap (λ s. eqb (length s) 0) (sym is-core) ∙ sym told

-- nothing is left of it
pub blank_line : (line front core text : List ℕ) (end : ℕ) → length line ≤ 1024 → end ≡ prefix_len (is Uncommented) line → front ≡ take end line → core ≡ core_of (eqb end (length line)) front → true ≡ eqb (length core) 0 → text ≡ drop end line → layout line ≡ Ok (blank (record { text = text; start = end }))
blank_line line front core text end short at is_front is-core none is-text =
    short_line line end short at ∙ cond-true _ _ _ (core_at line front core end true is_front is-core none) ∙ sym (λ i. Ok (blank (record { text = is-text i; start = end })))

-- something is left of it
pub data_line : (line front core text : List ℕ) (end : ℕ) → length line ≤ 1024 → end ≡ prefix_len (is Uncommented) line → front ≡ take end line → core ≡ core_of (eqb end (length line)) front → false ≡ eqb (length core) 0 → text ≡ drop end line → two_fields (eqb end (length line)) front (record { text = text; start = end }) ≡ layout line
data_line line front core text end short at is_front is-core some is-text =
    (λ i. two_fields (eqb end (length line)) (is_front i) (record { text = is-text i; start = end })) ∙ sym (short_line line end short at ∙ cond-false _ _ _ (core_at line front core end false is_front is-core some))
