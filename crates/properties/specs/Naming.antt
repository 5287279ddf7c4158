-- The value that bears a name. Assumes nothing.
use Rattle.std.specs.Prelude.{◌≡◌, ℕ, Bool, true, false, cond, List, [], ◌∷◌, IfSome, Some, None, Option, refl}
use Rattle.std.proofs.Common.{sym, ap, subst, ◌∙◌}
use Rattle.std.proofs.lemmas.Option.{none-some, same_Some}
use Rattle.std.proofs.lemmas.Slice.Eq.{bytes_eq-Decides}
use Rattle.std.specs.List.{AllByRecursion}
use Rattle.std.specs.Str.{bytes_eq}
use Rattle.properties.specs.Names.{called, same_name}

-- the value that is found is spelled so
pub called_some : {V : Type 0} (spelling : V → List ℕ) (vs : List V) (name : List ℕ) (v : V) → called spelling vs name ≡ Some v → spelling v ≡ name
called_some spelling [] name v e = absurd (none-some v e)
called_some spelling (w ∷ ws) name v e =
    by_case (bytes_eq (spelling w) name) refl e (called_some spelling ws name v)
  where
    by_case : (b : Bool) → bytes_eq (spelling w) name ≡ b → cond b (Some w) (called spelling ws name) ≡ Some v → (called spelling ws name ≡ Some v → spelling v ≡ name) → spelling v ≡ name
    by_case true same e behind = ap spelling (sym (same_Some w v e)) ∙ (bytes_eq-Decides (spelling w) name).0 same
    by_case false other e behind = behind e

-- what holds of each value holds of the one that is found
called_each : {V : Type 0} (P : V → Type 0) (spelling : V → List ℕ) (vs : List V) (name : List ℕ) (v : V) → AllByRecursion P vs → called spelling vs name ≡ Some v → P v
called_each P spelling [] name v each e = absurd (none-some v e)
called_each P spelling (w ∷ ws) name v each e =
    by_case (bytes_eq (spelling w) name) e (called_each P spelling ws name v each.1)
  where
    by_case : (b : Bool) → cond b (Some w) (called spelling ws name) ≡ Some v → (called spelling ws name ≡ Some v → P v) → P v
    by_case true e behind = subst P (same_Some w v e) each.0
    by_case false e behind = behind e

-- what is said of the value in an option
pub at_some : {X : Type 0} (Q : X → Type 0) (o : Option X) (x : X) → IfSome o Q → o ≡ Some x → Q x
at_some Q None x h e = absurd (none-some x e)
at_some Q (Some y) x h e = subst Q (same_Some y x e) h

-- each value whose spelling is its name in the file
pub all_same : {V : Type 0} (spelling : V → List ℕ) (vs : List V) → AllByRecursion (λ v. same_name spelling v ≡ Some (spelling v)) vs
all_same spelling [] = tt
all_same spelling (v ∷ vs) = (refl, all_same spelling vs)

-- where the file lists the values by their spelling, what is found is listed under the name
pub listed_called : {V : Type 0} (spelling : V → List ℕ) (listed : V → Option (List ℕ)) (vs : List V) → AllByRecursion (λ v. listed v ≡ Some (spelling v)) vs → (name : List ℕ) (v : V) → called spelling vs name ≡ Some v → listed v ≡ Some name
listed_called spelling listed vs each name v e =
    called_each (λ w. listed w ≡ Some (spelling w)) spelling vs name v each e ∙ ap Some (called_some spelling vs name v e)
