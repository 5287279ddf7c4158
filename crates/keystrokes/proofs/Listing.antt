-- Keystrokes and bad lines of a script, line by line. Assumes nothing.
use Rattle.std.proofs.Common.{◌≡◌, ℕ, suc, ◌+◌, List, [], ◌∷◌, ◌++◌, map, length, vec_items, sym, refl, ap, ◌∙◌, subst, append_assoc, append-nil, arith}
use Rattle.std.proofs.lemmas.List.{length-map, length_push, map_push}
use Rattle.keystrokes.specs.Script.{Reading, nothing, press, fault, reading, Adds, Listed, Reads}
use Rattle.keystrokes.specs.declared.faults.LineFault.{LineFault}
use Rattle.keystrokes.specs.declared.scripts.BadLine.{BadLine}
use Rattle.keystrokes.specs.declared.scripts.Script.{Script}
use Rattle.keystrokes.specs.declared.strokes.Keystroke.{Keystroke}

-- what each line adds
pub adds_nothing : (number : ℕ) (x : Reading) → x ≡ nothing → Adds number x [] []
adds_nothing number x said = subst (λ y. Adds number y [] []) (sym said) (refl, refl)

pub adds_press : (number : ℕ) (k : Keystroke) (x : Reading) → (k.line ≡ number) × (x ≡ press k.place k.take (vec_items k.put)) → Adds number x (k ∷ []) []
adds_press number k x said = subst (λ y. Adds number y (k ∷ []) []) (sym said.1) (k, refl, said.0, refl, refl, refl, refl)

pub adds_bad : (number : ℕ) (f : LineFault) (x : Reading) → x ≡ fault f → Adds number x [] (record { line = number; fault = f } ∷ [])
adds_bad number f x said = subst (λ y. Adds number y [] (record { line = number; fault = f } ∷ [])) (sym said) (refl, refl)

-- one line more
listed_more : (number : ℕ) (rs : List Reading) (r : Reading) (keys more : List Keystroke) (bad bads : List BadLine) → Listed number rs keys bad → Adds (number + length rs) r more bads → Listed number (rs ++ (r ∷ [])) (keys ++ more) (bad ++ bads)
listed_more number [] r keys more bad bads h adds =
    let here : number + 0 ≡ number = omega arith in (
      more,
      [],
      ap (λ l. l ++ more) h.0 ∙ sym (append-nil more),
      bads,
      [],
      ap (λ l. l ++ bads) h.1 ∙ sym (append-nil bads),
      subst (λ n. Adds n r more bads) here adds,
      (refl, refl),
    )
listed_more number (x ∷ rs) r keys more bad bads h adds =
    let next : number + suc (length rs) ≡ suc number + length rs = omega arith in (
      h.0,
      h.1 ++ more,
      ap (λ l. l ++ more) h.2 ∙ append_assoc h.0 h.1 more,
      h.3,
      h.4 ++ bads,
      ap (λ l. l ++ bads) h.5 ∙ append_assoc h.3 h.4 bads,
      h.6,
      listed_more (suc number) rs r h.1 more h.4 bads h.7 (subst (λ n. Adds n r more bads) next adds),
    )

-- the script lists the lines that come before those left
pub record Sofar (all left : List (List ℕ)) (s : Script) : Type 0 where
  pub seen : List (List ℕ)
  pub split : all ≡ seen ++ left
  pub read : Reads seen s

pub one_more : (all left : List (List ℕ)) (line : List ℕ) (old new : Script) (more : List Keystroke) (bads : List BadLine) → Sofar all (line ∷ left) old → new.lines ≡ old.lines + 1 → vec_items new.keys ≡ vec_items old.keys ++ more → vec_items new.bad ≡ vec_items old.bad ++ bads → Adds (old.lines + 1) (reading line) more bads → Sofar all left new
one_more all left line old new more bads h count keys-are bad-are adds =
    let seen = h.seen in
    let number : old.lines + 1 ≡ 1 + length (map reading seen) = omega (arith, h.read.count, length-map seen reading) in
    let listed = listed_more 1 (map reading seen) (reading line) (vec_items old.keys) more (vec_items old.bad) bads h.read.listed (subst (λ n. Adds n (reading line) more bads) number adds) in
    record {
      seen = seen ++ (line ∷ []);
      split = h.split ∙ sym (append_assoc seen (line ∷ []) left);
      read = record {
        count = omega (arith, count, h.read.count, length_push seen line);
        listed =
            subst (λ rs. Listed 1 rs (vec_items new.keys) (vec_items new.bad)) (sym (map_push reading seen line))
            (subst (λ ks. Listed 1 (map reading seen ++ (reading line ∷ [])) ks (vec_items new.bad)) (sym keys-are)
            (subst (λ bs. Listed 1 (map reading seen ++ (reading line ∷ [])) (vec_items old.keys ++ more) bs) (sym bad-are) listed));
      };
    }

pub no_more : (all : List (List ℕ)) (s : Script) → Sofar all [] s → Reads all s
no_more all s h = subst (λ ls. Reads ls s) (sym (h.split ∙ append-nil h.seen)) h.read
