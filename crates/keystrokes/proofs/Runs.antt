-- Lists of keystrokes. Assumes nothing.
use Rattle.std.proofs.Common.{◌≡◌, ℕ, List, [], ◌∷◌, ◌++◌, sym, refl, ap, ◌∙◌, subst}
use Rattle.keystrokes.specs.Typing.{Outcome, after, Pressed, Typed, TypedOnce}
use Rattle.keystrokes.specs.declared.strokes.Keystroke.{Keystroke}

-- one keystroke more
pub typed_more : (capacity : ℕ) (ks : List Keystroke) (k : Keystroke) (before : List ℕ) (outcomes : List Outcome) (o : Outcome) (middle end : List ℕ) → Typed capacity ks before outcomes middle → Pressed capacity k middle o end → Typed capacity (ks ++ (k ∷ [])) before (outcomes ++ (o ∷ [])) end
typed_more capacity [] k before outcomes o middle end h p =
    (o, end, [], ap (λ l. l ++ (o ∷ [])) h.0, subst (λ t. Pressed capacity k t o end) h.1 p, (refl, refl))
typed_more capacity (x ∷ ks) k before outcomes o middle end h p =
    (h.0, h.1, h.2 ++ (o ∷ []), ap (λ l. l ++ (o ∷ [])) h.3, h.4, typed_more capacity ks k h.1 h.2 o middle end h.5 p)

-- What comes of keystrokes, and what text they leave, is settled by capacity, keystrokes and text.

pressed_once : (capacity : ℕ) (k : Keystroke) (before : List ℕ) (o o' : Outcome) (end end' : List ℕ) → Pressed capacity k before o end → Pressed capacity k before o' end' → (o ≡ o') × (end ≡ end')
pressed_once capacity k before o o' end end' p q =
    let same = p.told ∙ sym q.told in
    (same, p.text ∙ ap (λ x. after x k before) same ∙ sym q.text)

pub typed_once : TypedOnce
typed_once capacity [] before outcomes outcomes' end end' h l = (h.0 ∙ sym l.0, h.1 ∙ sym l.1)
typed_once capacity (k ∷ ks) before outcomes outcomes' end end' h l =
    let one = pressed_once capacity k before h.0 l.0 h.1 l.1 h.4 l.4 in
    let rest = typed_once capacity ks h.1 h.2 l.2 end end' h.5 (subst (λ t. Typed capacity ks t l.2 end') (sym one.1) l.5) in
    (h.3 ∙ (λ i. one.0 i ∷ rest.0 i) ∙ sym l.3, rest.1)
