-- Numbers and sentences of what is refused. Assumes nothing.
use Rattle.std.specs.Prelude.{ℕ, List, ◌++◌, Ok, Err, codes, decimal}
use Rattle.keystrokes.specs.declared.faults.LineFault.{LineFault}
use Rattle.keystrokes.specs.declared.faults.LineFault.TheVariants.{BadPlace, NoCount, BadCount, BadCodePoint}
use Rattle.keystrokes.specs.Typing.{Outcome}
use Rattle.keystrokes.specs.declared.refusals.Refusal.{Refusal}
use Rattle.keystrokes.specs.declared.refusals.Refusal.TheVariants.{PastEnd, Full}

abbrev pub refusal_number : Refusal → ℕ
refusal_number PastEnd = 10
refusal_number Full = 13

abbrev pub refusal_sentence : Refusal → List ℕ
refusal_sentence PastEnd = codes "the place, or place plus count, is above the length"
refusal_sentence Full = codes "the new length would pass the capacity"

abbrev pub outcome_sentence : Outcome → List ℕ
outcome_sentence (Ok made) = codes "done"
outcome_sentence (Err why) = refusal_sentence why

abbrev pub fault_sentence : LineFault → List ℕ
fault_sentence BadPlace = codes "the place is no number in base ten below 2^64"
fault_sentence NoCount = codes "the count to take is missing"
fault_sentence BadCount = codes "the count to take is no number in base ten below 2^64"
fault_sentence (BadCodePoint n) = codes "code point " ++ (decimal n ++ codes " is no scalar value in base sixteen")
