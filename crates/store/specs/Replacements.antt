-- What a replacement makes of a text. Assumes nothing.
use Rattle.std.specs.Prelude.{ℕ, List}
use Rattle.store.specs.Texts.{spliced}
use Rattle.store.specs.declared.replacement.Replacement.{Replacement}

abbrev pub made : Replacement → List ℕ → List ℕ
made change text = spliced change.place change.take change.put.now text
