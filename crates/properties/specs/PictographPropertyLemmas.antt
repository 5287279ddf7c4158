-- The one value that the file lists is the one that its name stands for. Assumes nothing.
use Rattle.std.specs.Prelude.{◌≡◌, Bool, true, false, IfSome, Some, refl}
use Rattle.properties.specs.Pictographs.{pictograph_name, pictograph_read}

pub by_name : (v : Bool) → IfSome (pictograph_name v) (λ name. pictograph_read name ≡ Some v)
by_name true = refl
by_name false = tt
