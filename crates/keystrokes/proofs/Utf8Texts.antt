-- A text as UTF-8, one number more. Assumes nothing.
use Rattle.std.proofs.Common.{◌≡◌, ℕ, ◌+◌, ◌<◌, Bool, true, false, cond, List, [], ◌∷◌, ◌++◌, map, length, get_or, take, Some, None, Option, unwrap_or, sym, refl, ap, ◌∙◌, append-nil}
use lib.Utf8.{scalar, encode, encodes}
use Rattle.std.proofs.lemmas.List.{map_more}
use Rattle.std.proofs.lemmas.Str.{encodes-append}
use Rattle.std.specs.Option.{SomeIff}
use Rattle.keystrokes.specs.Shown.{shown, utf8}

-- what `char::from_u32` gives, or U+FFFD
pub shown_is : (c : ℕ) (o : Option ℕ) → SomeIff o (scalar c ≡ true) c → unwrap_or o 65533 ≡ shown c
shown_is c None none = by_case (scalar c) none
  where
    by_case : (b : Bool) → (b ≡ true → ⊥) → 65533 ≡ cond b c 65533
    by_case true none = absurd (none refl)
    by_case false none = refl
shown_is c (Some x) is = is.1 ∙ sym (ap (λ b. cond b c 65533) is.0)

pub utf8_more : (text : List ℕ) (i : ℕ) → i < length text → utf8 (take (i + 1) text) ≡ utf8 (take i text) ++ encode (shown (get_or text i 0))
utf8_more text i within =
    ap encodes (map_more shown text i 0 within)
    ∙ encodes-append (map shown (take i text)) (shown (get_or text i 0) ∷ [])
    ∙ ap (λ bs. utf8 (take i text) ++ bs) (append-nil (encode (shown (get_or text i 0))))
