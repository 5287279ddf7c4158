-- What field 1 writes. Assumes nothing.
use Rattle.std.proofs.Common.{◌≡◌, ℕ, ◌≤◌, Bool, true, false, cond, ◌&&◌, eqb, leb, List, [], ◌∷◌, ◌++◌, length, Ok, Err, Result, sym, refl, ap, ◌∙◌, subst, inl, inr, append-nil, arith}
use Rattle.std.proofs.lemmas.List.{drop_at, nil_from_length, take_at}
use Rattle.std.proofs.lemmas.Bool.{and_from, and_parts, cond-true, eq-eqb, eqb-true, le-leb, leb-true, true≢false}
use Rattle.std.specs.Str.Parse.{digits_value}
use Rattle.std.specs.List.{prefix_len}
use Rattle.ucd.specs.Bytes.{Digit, is}
use Rattle.ucd.specs.Points.{pointed, point_of, behind, last_point, end_of, in_order, range_of}
use Rattle.ucd.specs.Written.{Breaks, Of, Spells, Writes}
use Rattle.ucd.specs.declared.faults.Reason.{Reason}
use Rattle.ucd.specs.declared.faults.Reason.TheVariants.{BadRange, BadPoint}
use Rattle.ucd.proofs.Spans.{leading_run, split}

-- an answer that is no fault passed the test
pub passed : {X E : Type 0} (b : Bool) (x y : X) (e : E) → cond b (Ok x) (Err e) ≡ Ok y → (b ≡ true) × (x ≡ y)
passed true x y e same = (refl, cc)
passed false x y e same = absurd (true≢false cc)

-- digits, and what follows them
pub digits_run : (ds rest : List ℕ) → Of Digit ds → Breaks Digit rest → (point_of (ds ++ rest) ≡ digits_value 16 ds) × (behind (ds ++ rest) ≡ rest)
digits_run ds rest of breaks =
    let run = leading_run Digit ds rest of breaks in
    (ap (digits_value 16) (take_at ds rest (prefix_len (is Digit) (ds ++ rest)) (sym run)), drop_at ds rest (prefix_len (is Digit) (ds ++ rest)) (sym run))

-- 4 to 6 digits stand first
pointed_run : (ds rest : List ℕ) (n : ℕ) → Writes ds n → Breaks Digit rest → pointed (ds ++ rest) ≡ true
pointed_run ds rest n w breaks =
    let run = leading_run Digit ds rest w.digits breaks in
    and_from _ _ (le-leb 4 (prefix_len (is Digit) (ds ++ rest)) (omega (arith, run, w.least))) (le-leb (prefix_len (is Digit) (ds ++ rest)) 6 (omega (arith, run, w.most)))

-- a code point stands first, and this follows it
pub record Leads (s : List ℕ) (n : ℕ) (rest : List ℕ) : Type 0 where
  pub ds : List ℕ
  pub whole : s ≡ ds ++ rest
  pub writes : Writes ds n

leads : (s : List ℕ) → pointed s ≡ true → Leads s (point_of s) (behind s)
leads s four-to-six =
    let h = split Digit s in
    let run = digits_run h.run h.rest h.of h.breaks in
    let size : prefix_len (is Digit) s ≡ length h.run = ap (prefix_len (is Digit)) h.whole ∙ leading_run Digit h.run h.rest h.of h.breaks in
    record {
      ds = h.run;
      whole = h.whole ∙ ap (λ l. h.run ++ l) (sym (ap behind h.whole ∙ run.1));
      writes = record {
        digits = h.of;
        least = omega (arith, size, leb-true 4 (prefix_len (is Digit) s) (and_parts _ _ four-to-six).0);
        most = omega (arith, size, leb-true (prefix_len (is Digit) s) 6 (and_parts _ _ four-to-six).1);
        number = ap point_of h.whole ∙ run.0;
      };
    }

-- a code point alone
leads_alone : (s : List ℕ) (n : ℕ) (rest : List ℕ) → rest ≡ [] → Leads s n rest → Writes s n
leads_alone s n rest none h = subst (λ ds. Writes ds n) (sym (h.whole ∙ ap (λ l. h.ds ++ l) none ∙ append-nil h.ds)) h.writes

alone : (s : List ℕ) (last : ℕ) → last_point s ≡ Ok last → Writes s last
alone s last e =
    let told = passed (pointed s && eqb (length (behind s)) 0) (point_of s) last BadRange e in
    let tests = and_parts (pointed s) (eqb (length (behind s)) 0) told.0 in
    subst (Writes s) told.1 (leads_alone s (point_of s) (behind s) (nil_from_length (behind s) (eqb-true _ 0 tests.1)) (leads s tests.0))

-- what follows the first code point
ended : (s : List ℕ) (first last : ℕ) (rest : List ℕ) → Leads s first rest → end_of first rest ≡ Ok last → Spells s first last
ended s first last [] h e = inl (leads_alone s first [] refl h, (let same : last ≡ first = cc in same))
ended s first last (a ∷ []) h e = absurd (true≢false cc)
ended s first last (a ∷ b ∷ es) h e = by_case (eqb a 46 && eqb b 46) refl e
  where
    by_case : (v : Bool) → (eqb a 46 && eqb b 46) ≡ v → cond v (last_point es) (Err BadRange) ≡ Ok last → Spells s first last
    by_case true stops e =
        let two = and_parts (eqb a 46) (eqb b 46) stops in
        let joined : s ≡ h.ds ++ (46 ∷ (46 ∷ es)) = h.whole ∙ (λ i. h.ds ++ (eqb-true a 46 two.0 i ∷ (eqb-true b 46 two.1 i ∷ es))) in
        inr (h.ds, es, joined, h.writes, alone es last e)
    by_case false stops e = absurd (true≢false cc)

-- a range that was read is what the field writes, and in order
pub spelled : (s : List ℕ) (ends : ℕ × ℕ) → range_of s ≡ Ok ends → Spells s ends.0 ends.1 × (ends.0 ≤ ends.1) × (ends.1 ≤ 1114111)
spelled s ends e = by_case (pointed s) refl e
  where
    ordered : (r : Result ℕ Reason) → end_of (point_of s) (behind s) ≡ r → pointed s ≡ true → in_order (point_of s) r ≡ Ok ends → Spells s ends.0 ends.1 × (ends.0 ≤ ends.1) × (ends.1 ≤ 1114111)
    ordered (Ok last) is-end four-to-six e =
        let told = passed (leb (point_of s) last && leb last 1114111) (point_of s, last) ends BadPoint e in
        let tests = and_parts (leb (point_of s) last) (leb last 1114111) told.0 in
        subst (λ (x : ℕ × ℕ). Spells s x.0 x.1 × (x.0 ≤ x.1) × (x.1 ≤ 1114111)) told.1 (ended s (point_of s) last (behind s) (leads s four-to-six) is-end, leb-true (point_of s) last tests.0, leb-true last 1114111 tests.1)
    ordered (Err why) is-end four-to-six e = absurd (true≢false cc)

    by_case : (v : Bool) → pointed s ≡ v → cond v (in_order (point_of s) (end_of (point_of s) (behind s))) (Err BadRange) ≡ Ok ends → Spells s ends.0 ends.1 × (ends.0 ≤ ends.1) × (ends.1 ≤ 1114111)
    by_case true four-to-six e = ordered (end_of (point_of s) (behind s)) refl four-to-six e
    by_case false other e = absurd (true≢false cc)

-- and what the field writes in order is read
last_read : (es : List ℕ) (last : ℕ) → Writes es last → last_point es ≡ Ok last
last_read es last w =
    let same = append-nil es in
    let run = digits_run es [] w.digits tt in
    let four : pointed es ≡ true = ap pointed (sym same) ∙ pointed_run es [] last w tt in
    let none : behind es ≡ [] = ap behind (sym same) ∙ run.1 in
    cond-true _ _ _ (and_from (pointed es) (eqb (length (behind es)) 0) four (eq-eqb (length (behind es)) 0 (ap length none))) ∙ ap Ok (ap point_of (sym same) ∙ run.0 ∙ sym w.number)

first_read : (s ds rest : List ℕ) (first last : ℕ) → s ≡ ds ++ rest → Writes ds first → Breaks Digit rest → end_of first rest ≡ Ok last → first ≤ last → last ≤ 1114111 → range_of s ≡ Ok (first, last)
first_read s ds rest first last whole w breaks is-end order high =
    let run = digits_run ds rest w.digits breaks in
    let is_first : point_of s ≡ first = ap point_of whole ∙ run.0 ∙ sym w.number in
    let is_rest : behind s ≡ rest = ap behind whole ∙ run.1 in
    cond-true _ _ _ (ap pointed whole ∙ pointed_run ds rest first w breaks)
    ∙ (λ i. in_order (is_first i) (end_of (is_first i) (is_rest i)))
    ∙ ap (in_order first) is-end
    ∙ cond-true _ _ _ (and_from (leb first last) (leb last 1114111) (le-leb first last order) (le-leb last 1114111 high))

pub read_spelled : (s : List ℕ) (first last : ℕ) → Spells s first last → first ≤ last → last ≤ 1114111 → range_of s ≡ Ok (first, last)
read_spelled s first last (inl h) order high = first_read s s [] first last (sym (append-nil s)) h.0 tt (ap Ok (sym h.1)) order high
read_spelled s first last (inr h) order high = first_read s h.0 (46 ∷ (46 ∷ h.1)) first last h.2 h.3 refl (last_read h.1 last h.4) order high
