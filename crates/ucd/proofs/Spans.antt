-- Runs of bytes of one kind, and bytes with blanks around them. Assumes nothing.
use Rattle.std.proofs.Common.{◌≡◌, ℕ, suc, ◌+◌, ◌-◌, ◌<◌, Bool, true, false, cond, List, [], ◌∷◌, ◌++◌, reverse, length, take, drop, sym, refl, ap, ◌∙◌, subst, append_assoc, append-nil, one-add, arith, length-append}
use mathlib.Core.List.{reverse-cons}
use Rattle.std.proofs.ByRecursion.{All-append, All-push}
use Rattle.std.proofs.lemmas.List.{drop_at, take_at, length-reverse, reverse-append, reverse-reverse}
use Rattle.std.specs.List.{prefix_len, suffix_len}
use Rattle.ucd.specs.Bytes.{Kind, Blank, is, stripped}
use Rattle.ucd.specs.Written.{Of, Breaks, Padded}

-- one byte more of the kind
leading_more : (kind : Kind) (b : ℕ) (s : List ℕ) → is kind b ≡ true → prefix_len (is kind) (b ∷ s) ≡ suc (prefix_len (is kind) s)
leading_more kind b s more = ap (λ v. cond v (1 + prefix_len (is kind) s) 0) more ∙ one-add (prefix_len (is kind) s)

-- a run ends where a byte of another kind follows
pub leading_run : (kind : Kind) (run rest : List ℕ) → Of kind run → Breaks kind rest → prefix_len (is kind) (run ++ rest) ≡ length run
leading_run kind [] [] of breaks = refl
leading_run kind [] (b ∷ s) of breaks = ap (λ v. cond v (1 + prefix_len (is kind) s) 0) breaks
leading_run kind (b ∷ run) rest of breaks = leading_more kind b (run ++ rest) of.0 ∙ ap suc (leading_run kind run rest of.1 breaks)

-- a row of bytes is a run and what follows it
pub record Split (kind : Kind) (s : List ℕ) : Type 0 where
  pub run : List ℕ
  pub rest : List ℕ
  pub whole : s ≡ run ++ rest
  pub of : Of kind run
  pub breaks : Breaks kind rest

pub split : (kind : Kind) (s : List ℕ) → Split kind s
split kind [] = record { run = []; rest = []; whole = refl; of = tt; breaks = tt }
split kind (b ∷ s) = by_case (is kind b) refl (split kind s)
  where
    by_case : (v : Bool) → is kind b ≡ v → Split kind s → Split kind (b ∷ s)
    by_case true e h = record { run = b ∷ h.run; rest = h.rest; whole = ap (λ l. b ∷ l) h.whole; of = (e, h.of); breaks = h.breaks }
    by_case false e h = record { run = []; rest = b ∷ s; whole = refl; of = tt; breaks = e }

of_reverse : (kind : Kind) (s : List ℕ) → Of kind s → Of kind (reverse s)
of_reverse kind [] of = of
of_reverse kind (b ∷ s) of =
    subst (Of kind) (sym (reverse-cons b s)) (All-push (λ x. is kind x ≡ true) (reverse s) b (of_reverse kind s of.1) of.0)

-- what follows does not matter where there is a first byte
breaks_more : (kind : Kind) (s t : List ℕ) → 0 < length s → Breaks kind s → Breaks kind (s ++ t)
breaks_more kind [] t some breaks = absurd (omega arith)
breaks_more kind (b ∷ s) t some breaks = breaks

-- nor where there is none
pub breaks_front : (kind : Kind) (s t : List ℕ) → Breaks kind (s ++ t) → Breaks kind s
breaks_front kind [] t breaks = tt
breaks_front kind (b ∷ s) t breaks = breaks

-- all blank, so that nothing is left
stripped_blanks : (s : List ℕ) → Of Blank s → stripped s ≡ []
stripped_blanks s of =
    let all : prefix_len (is Blank) s ≡ length s = ap (prefix_len (is Blank)) (sym (append-nil s)) ∙ leading_run Blank s [] of tt in
    let none : length s - suffix_len (is Blank) s - prefix_len (is Blank) s ≡ 0 = omega (arith, all) in
    ap (λ n. take n (drop (prefix_len (is Blank) s) s)) none

-- blanks around a core that has bytes
stripped_filled : (before core behind : List ℕ) → 0 < length core → Of Blank before → Of Blank behind → Breaks Blank core → Breaks Blank (reverse core) → stripped (before ++ (core ++ behind)) ≡ core
stripped_filled before core behind some blank_before blank_behind front back =
    let s = before ++ (core ++ behind) in
    let lead : prefix_len (is Blank) s ≡ length before = leading_run Blank before (core ++ behind) blank_before (breaks_more Blank core behind some front) in
    let mirrored : reverse s ≡ reverse behind ++ (reverse core ++ reverse before) = reverse-append before (core ++ behind) ∙ ap (λ l. l ++ reverse before) (reverse-append core behind) ∙ append_assoc (reverse behind) (reverse core) (reverse before) in
    let some_back : 0 < length (reverse core) = omega (arith, length-reverse core) in
    let end : suffix_len (is Blank) s ≡ length behind = ap (prefix_len (is Blank)) mirrored ∙ leading_run Blank (reverse behind) (reverse core ++ reverse before) (of_reverse Blank behind blank_behind) (breaks_more Blank (reverse core) (reverse before) some_back back) ∙ length-reverse behind in
    let size : length core ≡ length s - suffix_len (is Blank) s - prefix_len (is Blank) s = omega (arith, lead, end, length-append before (core ++ behind), length-append core behind) in
    ap (take (length s - suffix_len (is Blank) s - prefix_len (is Blank) s)) (drop_at before (core ++ behind) (prefix_len (is Blank) s) (sym lead)) ∙ take_at core behind (length s - suffix_len (is Blank) s - prefix_len (is Blank) s) size

-- what is stripped of blanks is the core
pub stripped_core : (s core : List ℕ) → Padded s core → stripped s ≡ core
stripped_core s [] h =
    stripped_blanks s (subst (Of Blank) (sym h.whole) (All-append (λ b. is Blank b ≡ true) h.before h.behind h.blank_before h.blank_behind))
stripped_core s (b ∷ core) h =
    ap stripped h.whole ∙ stripped_filled h.before (b ∷ core) h.behind (omega arith) h.blank_before h.blank_behind h.bare_front h.bare_back

-- and blanks stand around it
pub padded : (s : List ℕ) → Padded s (stripped s)
padded s = subst (Padded s) (sym (stripped_core s (reverse tail.rest) around)) around
  where
    front : Split Blank s
    front = split Blank s

    tail : Split Blank (reverse front.rest)
    tail = split Blank (reverse front.rest)

    cut : front.rest ≡ reverse tail.rest ++ reverse tail.run
    cut = sym (reverse-reverse front.rest) ∙ ap reverse tail.whole ∙ reverse-append tail.run tail.rest

    around : Padded s (reverse tail.rest)
    around = record {
      before = front.run;
      behind = reverse tail.run;
      whole = front.whole ∙ ap (λ l. front.run ++ l) cut;
      blank_before = front.of;
      blank_behind = of_reverse Blank tail.run tail.of;
      bare_front = breaks_front Blank (reverse tail.rest) (reverse tail.run) (subst (Breaks Blank) cut front.breaks);
      bare_back = subst (Breaks Blank) (sym (reverse-reverse tail.rest)) tail.breaks;
    }
