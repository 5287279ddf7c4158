-- Lines that hold a range and a value. Assumes nothing.
use Rattle.std.proofs.Common.{◌≡◌, ℕ, ◌+◌, ◌-◌, ◌<◌, ◌≤◌, Bool, true, false, cond, not, ◌&&◌, ◌||◌, eqb, ltb, ◌⊎◌, List, [], ◌∷◌, ◌++◌, length, get_or, take, drop, Ok, Err, sym, refl, ap, ◌∙◌, subst, inl, inr, ⊎_elim, append_assoc, append-nil, arith, length-append}
use Rattle.std.proofs.ByRecursion.{All-append, All-weaker}
use Rattle.std.proofs.lemmas.List.{drop_at, get_or_at, take_all, take_at, take_more, nil_from_length}
use Rattle.std.proofs.lemmas.Bool.{and_from, and_parts, cases_Bool, cond-true, cond-false, eq-eqb, eqb-true, eqb-false, le-ltb, lt-ltb, ltb-true, ltb-false, ne_eqb, or_left, true≢false}
use Rattle.std.proofs.Math.Seq.{drop-append-add}
use Rattle.std.specs.List.{prefix_len, AllByRecursion}
use Rattle.ucd.specs.Bytes.{Kind, Uncommented, InField, Blank, is, stripped}
use Rattle.ucd.specs.Lines.{Part, blank, listing, unreturned, core_of, field, whole, two_fields, parts_at, layout}
use Rattle.ucd.specs.Written.{Breaks, Of, Padded, Written}
use Rattle.ucd.specs.declared.faults.Reason.TheVariants.{FieldCount, LongLine}
use Rattle.ucd.proofs.Layouts.{at_fields}
use Rattle.ucd.proofs.Ranges.{passed}
use Rattle.ucd.proofs.Spans.{Split, leading_run, padded, split, stripped_core}

-- bytes that close a line or do not, without the carriage return that they may end with
pub record Closed (closing : Bool) (s : List ℕ) : Type 0 where
  pub second : List ℕ
  pub return : List ℕ
  pub parts : s ≡ second ++ return
  pub core : core_of closing s ≡ stripped second
  pub returned : (return ≡ []) ⊎ ((return ≡ 13 ∷ []) × (closing ≡ true))
  pub bare : closing ≡ true → return ≡ [] → get_or second (length second - 1) 0 ≡ 13 → ⊥

pub closed : (closing : Bool) (s : List ℕ) → Closed closing s
closed false s = record {
  second = s;
  return = [];
  parts = sym (append-nil s);
  core = refl;
  returned = inl refl;
  bare = λ clash. absurd (true≢false (sym clash));
}
closed true s = by_case (eqb (get_or s (length s - 1) 0) 13) refl
  where
    by_case : (v : Bool) → eqb (get_or s (length s - 1) 0) 13 ≡ v → Closed true s
    by_case true e =
        let last : get_or s (length s - 1) 0 ≡ 13 = eqb-true _ 13 e in
        let some : 0 < length s = filled s last in
        record {
          second = take (length s - 1) s;
          return = 13 ∷ [];
          parts = sym (take_all (length s - 1 + 1) s (omega arith)) ∙ take_more s (length s - 1) 0 (omega arith) ∙ ap (λ b. take (length s - 1) s ++ (b ∷ [])) last;
          core = ap (λ v. stripped (cond v (take (length s - 1) s) s)) e;
          returned = inr (refl, refl);
          bare = λ _ none. absurd (true≢false cc);
        }
      where
        filled : (t : List ℕ) → get_or t (length t - 1) 0 ≡ 13 → 0 < length t
        filled [] last = absurd (omega arith)
        filled (b ∷ t) last = omega arith
    by_case false e = record {
      second = s;
      return = [];
      parts = sym (append-nil s);
      core = ap (λ v. stripped (cond v (take (length s - 1) s) s)) e;
      returned = inl refl;
      bare = λ _ _. eqb-false _ 13 e;
    }

-- a run that takes all is of its kind
all_of : (kind : Kind) (s : List ℕ) → prefix_len (is kind) s ≡ length s → Of kind s
all_of kind s all =
    let h = split kind s in
    let run : length h.run ≡ length s = sym (leading_run kind h.run h.rest h.of h.breaks) ∙ ap (prefix_len (is kind)) (sym h.whole) ∙ all in
    let none : h.rest ≡ [] = nil_from_length h.rest (omega (arith, run, ap length h.whole, length-append h.run h.rest)) in
    subst (Of kind) (sym (h.whole ∙ ap (λ l. h.run ++ l) none ∙ append-nil h.run)) h.of

-- two fields, as they stand in the bytes before the comment
pub record Parted (closing : Bool) (s : List ℕ) (r v : Part) : Type 0 where
  pub front : List ℕ
  pub rest : List ℕ
  pub parts : s ≡ front ++ (59 ∷ rest)
  pub front_of : Of InField front
  pub rest_of : Of InField rest
  pub range : r.text ≡ stripped front
  pub value : v.text ≡ core_of closing rest

-- what ends a field is a ';'
semicolon : (b : ℕ) → is InField b ≡ false → b ≡ 59
semicolon b e = by_case (eqb b 59) refl e
  where
    by_case : (v : Bool) → eqb b 59 ≡ v → not v ≡ false → b ≡ 59
    by_case true same e = eqb-true b 59 same
    by_case false other e = absurd (true≢false e)

parted : (closing : Bool) (s : List ℕ) (comment r v c : Part) → two_fields closing s comment ≡ Ok (listing r v c) → Parted closing s r v
parted closing s comment r v c e = from h.rest h.whole h.breaks
  where
    h : Split InField s
    h = split InField s

    at : (rest : List ℕ) → s ≡ h.run ++ rest → Breaks InField rest → length h.run ≡ prefix_len (is InField) s
    at rest parts breaks = sym (ap (prefix_len (is InField)) parts ∙ leading_run InField h.run rest h.of breaks)

    from : (rest : List ℕ) → s ≡ h.run ++ rest → Breaks InField rest → Parted closing s r v
    from [] parts breaks =
        let short : ltb (prefix_len (is InField) s) (length s) ≡ true = (and_parts _ _ (passed _ _ (listing r v c) (whole FieldCount) e).0).0 in
        let size : length s ≡ length h.run + 0 = ap length parts ∙ length-append h.run [] in
        absurd (omega (arith, ltb-true (prefix_len (is InField) s) (length s) short, at [] parts breaks, size))
    from (b ∷ rest) parts breaks =
        let is_first = at (b ∷ rest) parts breaks in
        let is_front : take (length h.run) s ≡ h.run = ap (take (length h.run)) parts ∙ take_at h.run (b ∷ rest) (length h.run) refl in
        let is_rest : drop (length h.run + 1) s ≡ rest = ap (drop (length h.run + 1)) parts ∙ drop-append-add h.run (b ∷ rest) 1 in
        let told = passed (ltb (length h.run) (length s) && eqb (prefix_len (is InField) rest) (length rest)) (listing (field false 0 h.run) (field closing (length h.run + 1) rest) comment) (listing r v c) (whole FieldCount) (sym (at_fields closing s comment h.run rest (length h.run) is_first is_front is_rest) ∙ e) in
        let all = (and_parts (ltb (length h.run) (length s)) (eqb (prefix_len (is InField) rest) (length rest)) told.0).1 in
        let same_range : field false 0 h.run ≡ r = cc told.1 in
        let same_value : field closing (length h.run + 1) rest ≡ v = cc told.1 in
        record {
          front = h.run;
          rest = rest;
          parts = parts ∙ ap (λ x. h.run ++ (x ∷ rest)) (semicolon b breaks);
          front_of = h.of;
          rest_of = all_of InField rest (eqb-true _ _ all);
          range = sym (ap (λ (p : Part). p.text) same_range);
          value = sym (ap (λ (p : Part). p.text) same_value);
        }

of_front : (kind : Kind) (s t : List ℕ) → Of kind (s ++ t) → Of kind s
of_front kind [] t of = tt
of_front kind (b ∷ s) t of = (of.0, of_front kind s t of.1)

of_back : (kind : Kind) (s t : List ℕ) → Of kind (s ++ t) → Of kind t
of_back kind [] t of = of
of_back kind (b ∷ s) t of = of_back kind s t of.1

-- the parts of a line whose comment begins behind these bytes
pub at_parts : (line before comment : List ℕ) → line ≡ before ++ comment → Of Uncommented before → Breaks Uncommented comment → parts_at line (prefix_len (is Uncommented) line) ≡ cond (eqb (length (core_of (eqb (length before) (length line)) before)) 0) (Ok (blank (record { text = comment; start = length before }))) (two_fields (eqb (length before) (length line)) before (record { text = comment; start = length before }))
at_parts line before comment parts of breaks =
    let end : prefix_len (is Uncommented) line ≡ length before = ap (prefix_len (is Uncommented)) parts ∙ leading_run Uncommented before comment of breaks in
    let is_before : take (length before) line ≡ before = ap (take (length before)) parts ∙ take_at before comment (length before) refl in
    let is_comment : drop (length before) line ≡ comment = ap (drop (length before)) parts ∙ drop_at before comment (length before) refl in
    ap (parts_at line) end
    ∙ (λ i. cond (eqb (length (core_of (eqb (length before) (length line)) (is_before i))) 0) (Ok (blank (record { text = is_comment i; start = length before }))) (two_fields (eqb (length before) (length line)) (is_before i) (record { text = is_comment i; start = length before })))

-- a line closes with what stands before its comment exactly if it has none
no_comment_left : (line before comment : List ℕ) → line ≡ before ++ comment → eqb (length before) (length line) ≡ true → comment ≡ []
no_comment_left line before comment parts e =
    nil_from_length comment (omega (arith, eqb-true (length before) (length line) e, ap length parts, length-append before comment))

closes_line : (line before comment : List ℕ) → line ≡ before ++ comment → comment ≡ [] → eqb (length before) (length line) ≡ true
closes_line line before comment parts none =
    eq-eqb (length before) (length line) (sym (ap length (parts ∙ ap (λ l. before ++ l) none ∙ append-nil before)))

-- the fields and the comment put together again
assembled : (line before comment : List ℕ) (r v : Part) → line ≡ before ++ comment → Of Uncommented before → Breaks Uncommented comment → (p : Parted (eqb (length before) (length line)) before r v) → Closed (eqb (length before) (length line)) p.rest → Written line r.text v.text
assembled line before comment r v parts of breaks p k =
    let closing = eqb (length before) (length line) in
    let inner : before ≡ p.front ++ (59 ∷ (k.second ++ k.return)) = p.parts ∙ ap (λ l. p.front ++ (59 ∷ l)) k.parts in
    let plain = subst (Of Uncommented) inner of in
    record {
      first = p.front;
      second = k.second;
      return = k.return;
      comment = comment;
      whole = parts ∙ ap (λ l. l ++ comment) inner ∙ append_assoc p.front (59 ∷ (k.second ++ k.return)) comment ∙ ap (λ l. p.front ++ (59 ∷ l)) (append_assoc k.second k.return comment);
      range_in = subst (Padded p.front) (sym p.range) (padded p.front);
      value_in = subst (Padded k.second) (sym (p.value ∙ k.core)) (padded k.second);
      no_parting = (p.front_of, of_front InField k.second k.return (subst (Of InField) k.parts p.rest_of));
      no_comment = (of_front Uncommented p.front (59 ∷ (k.second ++ k.return)) plain, of_front Uncommented k.second k.return (of_back Uncommented p.front (59 ∷ (k.second ++ k.return)) plain).1);
      comment_begins = breaks;
      returned = ⊎_elim inl (λ x. inr (x.0, no_comment_left line before comment parts x.1)) k.returned;
      unreturned = λ none. k.bare (closes_line line before comment parts none);
    }

-- a line whose parts are a range and a value is written so
pub listing_written : (line : List ℕ) (r v c : Part) → layout line ≡ Ok (listing r v c) → (length line ≤ 1024) × Written line r.text v.text
listing_written line r v c e = by_length (ltb 1024 (length line)) refl e
  where
    h : Split Uncommented line
    h = split Uncommented line

    by_core : (b : Bool) → cond b (Ok (blank (record { text = h.rest; start = length h.run }))) (two_fields (eqb (length h.run) (length line)) h.run (record { text = h.rest; start = length h.run })) ≡ Ok (listing r v c) → Written line r.text v.text
    by_core true e = absurd (true≢false cc)
    by_core false e =
        let p = parted (eqb (length h.run) (length line)) h.run (record { text = h.rest; start = length h.run }) r v c e in
        assembled line h.run h.rest r v h.whole h.of h.breaks p (closed (eqb (length h.run) (length line)) p.rest)

    by_length : (b : Bool) → ltb 1024 (length line) ≡ b → cond b (Err (whole LongLine)) (parts_at line (prefix_len (is Uncommented) line)) ≡ Ok (listing r v c) → (length line ≤ 1024) × Written line r.text v.text
    by_length true long e = absurd (true≢false cc)
    by_length false short e =
        (ltb-false 1024 (length line) short, by_core (eqb (length (core_of (eqb (length h.run) (length line)) h.run)) 0) (sym (at_parts line h.run h.rest h.whole h.of h.breaks) ∙ e))

-- bytes of which nothing is left are blank, but for a carriage return
pub light : (closing : Bool) (s : List ℕ) → core_of closing s ≡ [] → AllByRecursion (λ b. (is Blank b || eqb b 13) ≡ true) s
light closing s none =
    let k = closed closing s in
    let p = subst (Padded k.second) (sym k.core ∙ none) (padded k.second) in
    let blanks : Of Blank k.second = subst (Of Blank) (sym p.whole) (All-append (λ b. is Blank b ≡ true) p.before p.behind p.blank_before p.blank_behind) in
    let front = All-weaker (λ b. is Blank b ≡ true) (λ b. (is Blank b || eqb b 13) ≡ true) (λ b e. or_left (is Blank b) (eqb b 13) e) k.second blanks in
    let back : AllByRecursion (λ b. (is Blank b || eqb b 13) ≡ true) k.return = ⊎_elim (λ e. subst (AllByRecursion (λ b. (is Blank b || eqb b 13) ≡ true)) (sym e) tt) (λ e. subst (AllByRecursion (λ b. (is Blank b || eqb b 13) ≡ true)) (sym e.0) (refl, tt)) k.returned in
    subst (AllByRecursion (λ b. (is Blank b || eqb b 13) ≡ true)) (sym k.parts) (All-append (λ b. (is Blank b || eqb b 13) ≡ true) k.second k.return front back)

-- a ';' is left
heavy : (closing : Bool) (s front rest : List ℕ) → s ≡ front ++ (59 ∷ rest) → eqb (length (core_of closing s)) 0 ≡ false
heavy closing s front rest parts =
    ⊎_elim (λ e. absurd (clash front (subst (AllByRecursion (λ b. (is Blank b || eqb b 13) ≡ true)) parts (light closing s (nil_from_length (core_of closing s) (eqb-true _ 0 e)))))) (λ e. e) (cases_Bool (eqb (length (core_of closing s)) 0))
  where
    clash : (t : List ℕ) → AllByRecursion (λ b. (is Blank b || eqb b 13) ≡ true) (t ++ (59 ∷ rest)) → ⊥
    clash [] all = true≢false (sym all.0)
    clash (b ∷ t) all = clash t all.1

-- field 2 without the carriage return that may close the line
core_value : (second return : List ℕ) (closing : Bool) → (return ≡ []) ⊎ ((return ≡ 13 ∷ []) × (closing ≡ true)) → (closing ≡ true → return ≡ [] → get_or second (length second - 1) 0 ≡ 13 → ⊥) → core_of closing (second ++ return) ≡ stripped second
core_value second return false (inl none) bare = ap stripped (ap (λ l. second ++ l) none ∙ append-nil second)
core_value second return true (inl none) bare =
    ap (λ l. stripped (unreturned l)) (ap (λ l. second ++ l) none ∙ append-nil second) ∙ ap (λ v. stripped (cond v (take (length second - 1) second) second)) (ne_eqb (get_or second (length second - 1) 0) 13 (bare refl none))
core_value second return false (inr one) bare = absurd (true≢false (sym one.1))
core_value second return true (inr one) bare =
    let s = second ++ (13 ∷ []) in
    let size : length s - 1 ≡ length second = omega (arith, length-append second (13 ∷ [])) in
    let last : get_or s (length s - 1) 0 ≡ 13 = get_or_at second 13 [] 0 (length s - 1) (sym size) in
    ap (λ l. stripped (unreturned (second ++ l))) one.0 ∙ ap (λ v. stripped (cond v (take (length s - 1) s) s)) (eq-eqb (get_or s (length s - 1) 0) 13 last) ∙ ap stripped (take_at second (13 ∷ []) (length s - 1) (sym size))

-- what is written so has these parts
pub written_listing : (line range value : List ℕ) → length line ≤ 1024 → Written line range value → (r : Part) × (v : Part) × (c : Part) × (layout line ≡ Ok (listing r v c)) × (r.text ≡ range) × (v.text ≡ value)
written_listing line range value short w =
    let rest = w.second ++ w.return in
    let before = w.first ++ (59 ∷ rest) in
    let closing = eqb (length before) (length line) in
    let comment : Part = record { text = w.comment; start = length before } in
    let parts : line ≡ before ++ w.comment = w.whole ∙ sym (append_assoc w.first (59 ∷ rest) w.comment ∙ ap (λ l. w.first ++ (59 ∷ l)) (append_assoc w.second w.return w.comment)) in
    let rest_uncommented : Of Uncommented rest = All-append (λ b. is Uncommented b ≡ true) w.second w.return w.no_comment.1 (return_of Uncommented refl w.return w.returned) in
    let rest_in_field : Of InField rest = All-append (λ b. is InField b ≡ true) w.second w.return w.no_parting.1 (return_of InField refl w.return w.returned) in
    let uncommented : Of Uncommented before = All-append (λ b. is Uncommented b ≡ true) w.first (59 ∷ rest) w.no_comment.0 (refl, rest_uncommented) in
    let first_at : length w.first ≡ prefix_len (is InField) before = sym (leading_run InField w.first (59 ∷ rest) w.no_parting.0 refl) in
    let rest_all : prefix_len (is InField) rest ≡ length rest = ap (prefix_len (is InField)) (sym (append-nil rest)) ∙ leading_run InField rest [] rest_in_field tt in
    let within : length w.first < length before = omega (arith, length-append w.first (59 ∷ rest)) in
    let laid : layout line ≡ Ok (listing (field false 0 w.first) (field closing (length w.first + 1) rest) comment) = cond-false _ _ _ (le-ltb 1024 (length line) short) ∙ at_parts line before w.comment parts uncommented w.comment_begins ∙ cond-false _ _ _ (heavy closing before w.first rest refl) ∙ at_fields closing before comment w.first rest (length w.first) first_at (take_at w.first (59 ∷ rest) (length w.first) refl) (drop-append-add w.first (59 ∷ rest) 1) ∙ cond-true _ _ _ (and_from _ _ (lt-ltb (length w.first) (length before) within) (eq-eqb (prefix_len (is InField) rest) (length rest) rest_all)) in
    let returned : (w.return ≡ []) ⊎ ((w.return ≡ 13 ∷ []) × (closing ≡ true)) = ⊎_elim inl (λ x. inr (x.0, closes_line line before w.comment parts x.1)) w.returned in
    let core = core_value w.second w.return closing returned (λ closes. w.unreturned (no_comment_left line before w.comment parts closes)) in (
      field false 0 w.first,
      field closing (length w.first + 1) rest,
      comment,
      laid,
      stripped_core w.first range w.range_in,
      core ∙ stripped_core w.second value w.value_in,
    )
  where
    return_of : (kind : Kind) → is kind 13 ≡ true → (return : List ℕ) → (return ≡ []) ⊎ ((return ≡ 13 ∷ []) × (w.comment ≡ [])) → Of kind return
    return_of kind e return (inl none) = subst (Of kind) (sym none) tt
    return_of kind e return (inr one) = subst (Of kind) (sym one.0) (e, tt)
