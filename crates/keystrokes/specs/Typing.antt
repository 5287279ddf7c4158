-- What keystrokes do to a text of limited length. Assumes nothing.
use Rattle.std.specs.Prelude.{◌≡◌, ℕ, ◌+◌, cond, List, [], ◌∷◌, length, vec_items, nat_le, Ok, Err, Result}
use Rattle.store.specs.Texts.{spliced}
use Rattle.keystrokes.specs.declared.strokes.Keystroke.{Keystroke}
use Rattle.keystrokes.specs.declared.refusals.Refusal.{Refusal}
use Rattle.keystrokes.specs.declared.refusals.Refusal.TheVariants.{PastEnd, Full}

-- a keystroke is made, or refused
abbrev pub Outcome : Type 0
Outcome = Result (Unit {0}) Refusal

-- the text with the keystroke made
abbrev pub pressed : Keystroke → List ℕ → List ℕ
pressed k text = spliced k.place k.take (vec_items k.put) text

-- what comes of a keystroke: what it takes passes the end, or else what it leaves passes the capacity, or else it is done
abbrev pub outcome : ℕ → Keystroke → List ℕ → Outcome
outcome capacity k text =
    cond (nat_le (k.place + k.take) (length text)) (cond (nat_le (length (pressed k text)) capacity) (Ok tt) (Err Full)) (Err PastEnd)

-- a keystroke that is not done leaves the text as it was
abbrev pub after : Outcome → Keystroke → List ℕ → List ℕ
after (Ok made) k text = pressed k text
after (Err why) k text = text

-- one keystroke, with what came of it and the text that it left
pub record Pressed (capacity : ℕ) (k : Keystroke) (before : List ℕ) (came : Outcome) (end : List ℕ) : Type 0 where
  pub told : came ≡ outcome capacity k before
  pub text : end ≡ after came k before

-- keystrokes one after the other, each on what the one before left, with what came of each
abbrev pub Typed : ℕ → List Keystroke → List ℕ → List Outcome → List ℕ → Type 0
Typed capacity [] before outcomes end = (outcomes ≡ []) × (end ≡ before)
Typed capacity (k ∷ ks) before outcomes end =
    (first : Outcome) × (middle : List ℕ) × (rest : List Outcome) × (outcomes ≡ first ∷ rest) × Pressed capacity k before first middle × Typed capacity ks middle rest end

-- capacity, keystrokes and text settle what comes of each keystroke and what text is left
abbrev pub TypedOnce : Type 0
TypedOnce = (capacity : ℕ) (ks : List Keystroke) (before : List ℕ) (outcomes outcomes' : List Outcome) (end end' : List ℕ) → Typed capacity ks before outcomes end → Typed capacity ks before outcomes' end' → (outcomes ≡ outcomes') × (end ≡ end')
