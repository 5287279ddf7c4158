-- Parts of a line stand in it, at their places. Assumes nothing.
use Rattle.std.proofs.Common.{◌≡◌, ℕ, ◌+◌, Bool, false, cond, ◌&&◌, eqb, ltb, List, [], ◌∷◌, ◌++◌, length, take, drop, sym, refl, ap, ◌∙◌, subst, append_assoc, append-nil, arith, length-append}
use Rattle.std.proofs.lemmas.List.{length-take-le, take-append-drop}
use Rattle.std.proofs.lemmas.List.Sums.{prefix_len-le-length}
use Rattle.std.proofs.lemmas.Bool.{and_parts, cond_both, cond-false, ltb-true, ne_eqb}
use Rattle.std.specs.List.{prefix_len}
use Rattle.ucd.specs.Bytes.{Uncommented, InField, Blank, is, stripped}
use Rattle.ucd.specs.Lines.{Part, core_of, field, two_fields, comment_at, layout}
use Rattle.ucd.specs.Written.{Breaks, Padded, PartsStand, Stands}
use Rattle.ucd.proofs.Shapes.{Closed, closed}
use Rattle.ucd.proofs.Spans.{leading_run, padded}

-- bytes around bytes
nested : (front before core tail back : List ℕ) → front ++ ((before ++ (core ++ tail)) ++ back) ≡ (front ++ before) ++ (core ++ (tail ++ back))
nested front before core tail back = simp append_assoc

-- a field stands in the bytes that it was stripped from
field_stands : (line front s back : List ℕ) (closing : Bool) (place : ℕ) → line ≡ front ++ (s ++ back) → place ≡ length front → Stands line (field closing place s)
field_stands line front s back closing place parts at = by_core (core_of closing s) refl
  where
    k : Closed closing s
    k = closed closing s

    p : Padded k.second (stripped k.second)
    p = padded k.second

    by_core : (core : List ℕ) → core_of closing s ≡ core → Stands line (record { text = core; start = place + cond (eqb (length core) 0) (length s) (prefix_len (is Blank) s) })
    by_core [] e = record {
      before = front ++ s;
      behind = back;
      whole = parts ∙ sym (append_assoc front s back);
      place = omega (arith, at, length-append front s);
    }
    by_core (b ∷ core) e =
        let same : stripped k.second ≡ b ∷ core = sym k.core ∙ e in
        let tail = p.behind ++ k.return in
        let inner : s ≡ p.before ++ ((b ∷ core) ++ tail) = k.parts ∙ ap (λ l. l ++ k.return) (p.whole ∙ ap (λ l. p.before ++ (l ++ p.behind)) same) ∙ append_assoc p.before ((b ∷ core) ++ p.behind) k.return ∙ ap (λ l. p.before ++ l) (append_assoc (b ∷ core) p.behind k.return) in
        let blanks : prefix_len (is Blank) s ≡ length p.before = ap (prefix_len (is Blank)) inner ∙ leading_run Blank p.before ((b ∷ core) ++ tail) p.blank_before (subst (Breaks Blank) same p.bare_front) in
        let some : length (b ∷ core) ≡ 0 → ⊥ = λ none. omega (arith, none) in
        let picked : cond (eqb (length (b ∷ core)) 0) (length s) (prefix_len (is Blank) s) ≡ prefix_len (is Blank) s = cond-false _ _ _ (ne_eqb (length (b ∷ core)) 0 some) in
        record {
          before = front ++ p.before;
          behind = tail ++ back;
          whole = parts ∙ ap (λ l. front ++ (l ++ back)) inner ∙ nested front p.before (b ∷ core) tail back;
          place = omega (arith, at, blanks, picked, length-append front p.before);
        }

-- the fields of what stands before the comment
fields_stand : (line s : List ℕ) (comment : Part) (closing : Bool) → line ≡ s ++ comment.text → Stands line comment → PartsStand line (two_fields closing s comment)
fields_stand line s comment closing parts there =
    let first = prefix_len (is InField) s in
    cond_both (ltb first (length s) && eqb (prefix_len (is InField) (drop (first + 1) s)) (length (drop (first + 1) s))) _ _ (PartsStand line)
    (λ test. (
      field_stands line [] (take first s) (drop first s ++ comment.text) false 0 (parts ∙ ap (λ l. l ++ comment.text) (sym (take-append-drop first s)) ∙ append_assoc (take first s) (drop first s) comment.text) refl,
      field_stands line (take (first + 1) s) (drop (first + 1) s) comment.text closing (first + 1) (parts ∙ ap (λ l. l ++ comment.text) (sym (take-append-drop (first + 1) s)) ∙ append_assoc (take (first + 1) s) (drop (first + 1) s) comment.text) (sym (length-take-le (first + 1) s (omega (arith, ltb-true first (length s) (and_parts (ltb first (length s)) _ test).0)))),
      there,
    ))
    (λ _. tt)

-- all parts of a line
pub parts_stand : (line : List ℕ) → PartsStand line (layout line)
parts_stand line =
    let end = prefix_len (is Uncommented) line in
    let there : Stands line (comment_at line end) = record {
      before = take end line;
      behind = [];
      whole = sym (take-append-drop end line) ∙ ap (λ l. take end line ++ l) (sym (append-nil (drop end line)));
      place = sym (length-take-le end line (prefix_len-le-length (is Uncommented) line));
    } in
    cond_both (ltb 1024 (length line)) _ _ (PartsStand line) (λ _. tt) (λ _. cond_both (eqb (length (core_of (eqb end (length line)) (take end line))) 0) _ _ (PartsStand line) (λ _. there) (λ _. fields_stand line (take end line) (comment_at line end) (eqb end (length line)) (sym (take-append-drop end line)) there))
