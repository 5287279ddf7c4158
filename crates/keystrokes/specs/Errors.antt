-- Why a line is not read to its end. Assumes nothing.
use Rattle.keystrokes.specs.declared.faults.LineError.{LineError}
use Rattle.keystrokes.specs.declared.faults.LineError.TheVariants.{Fault, OutOfMemory}

abbrev pub IsOutOfMemory : LineError → Type 0
IsOutOfMemory (Fault f) = ⊥
IsOutOfMemory (OutOfMemory e) = Unit {0}
