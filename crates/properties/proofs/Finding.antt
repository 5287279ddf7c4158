-- The value that stands at a place is found by its name, and passed over where it has another. Assumes nothing.
use Rattle.std.specs.Prelude.{◌≡◌, ℕ, suc, ◌+◌, ◌<◌, Bool, true, false, cond, List, ◌∷◌, length, drop, Some, None, Option, ◌≢◌, slice_index_or}
use Rattle.std.proofs.Common.{⊎_elim, sym, ap, ◌∙◌, add-one, drop-cons}
use Rattle.std.proofs.lemmas.Slice.Eq.{bytes_eq-Decides}
use Rattle.std.proofs.lemmas.Bool.{cases_Bool}
use Rattle.std.specs.Str.{bytes_eq}
use Rattle.properties.specs.Names.{called}

-- the first value decides, or those behind it
by_first : {V : Type 0} (spelling : V → List ℕ) (v : V) (vs : List V) (name : List ℕ) (b : Bool) → bytes_eq (spelling v) name ≡ b → called spelling (v ∷ vs) name ≡ cond b (Some v) (called spelling vs name)
by_first spelling v vs name b e = ap (λ x. cond x (Some v) (called spelling vs name)) e

-- from place i on, the value there stands first
from_place : {V : Type 0} (vs : List V) (i : ℕ) (v : V) → i < length vs → v ≡ slice_index_or vs i v → drop i vs ≡ v ∷ drop (i + 1) vs
from_place vs i v within is = rw add-one (drop-cons vs i v within ∙ ap (λ w. w ∷ drop (suc i) vs) (sym is))

-- the value at place i is found where it is spelled so
pub called_here : {V : Type 0} (spelling : V → List ℕ) (vs : List V) (i : ℕ) (v : V) (name : List ℕ) → i < length vs → v ≡ slice_index_or vs i v → spelling v ≡ name → called spelling (drop i vs) name ≡ Some v
called_here spelling vs i v name within is same =
    ap (λ l. called spelling l name) (from_place vs i v within is) ∙ by_first spelling v (drop (i + 1) vs) name true ((bytes_eq-Decides (spelling v) name).1 same)

-- and passed over where it is not
pub called_on : {V : Type 0} (spelling : V → List ℕ) (vs : List V) (i : ℕ) (v : V) (name : List ℕ) → i < length vs → v ≡ slice_index_or vs i v → (spelling v ≢ name) → called spelling (drop i vs) name ≡ called spelling (drop (i + 1) vs) name
called_on spelling vs i v name within is other =
    ap (λ l. called spelling l name) (from_place vs i v within is)
    ∙ ⊎_elim (λ e. absurd (other ((bytes_eq-Decides (spelling v) name).0 e))) (by_first spelling v (drop (i + 1) vs) name false) (cases_Bool (bytes_eq (spelling v) name))

-- one fixed name alone
pub fixed_other : {V : Type 0} (fixed name : List ℕ) (v : V) → (name ≢ fixed) → ◌≡◌ {A = Option V} None (cond (bytes_eq fixed name) (Some v) None)
fixed_other fixed name v other =
    ⊎_elim (λ e. absurd (other (sym ((bytes_eq-Decides fixed name).0 e)))) (λ e. sym (ap (λ b. cond b (Some v) None) e)) (cases_Bool (bytes_eq fixed name))
