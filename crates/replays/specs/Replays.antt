-- What text a keystroke script leaves. Assumes nothing.
use Rattle.std.specs.Prelude.{ℕ, List, [], vec_items}
use Rattle.keystrokes.specs.Script.{Reads}
use Rattle.keystrokes.specs.Typing.{Outcome, Typed}
use Rattle.keystrokes.specs.declared.scripts.Script.{Script}
use Rattle.store.specs.Texts.{capacity_limit}

-- the keystrokes of these lines, one after the other on an empty text that may grow as long as any, leave this text
pub record Replayed (ls : List (List ℕ)) (text : List ℕ) : Type 0 where
  pub script : Script
  pub read : Reads ls script
  pub outcomes : List Outcome
  pub typed : Typed capacity_limit (vec_items script.keys) [] outcomes text
