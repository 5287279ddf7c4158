-- Each East Asian width is the one that its name stands for. Assumes nothing.
use Rattle.std.specs.Prelude.{◌≡◌, Some, refl}
use Rattle.properties.specs.Names.{called}
use Rattle.properties.specs.Widths.{width_name, widths}
use Rattle.properties.specs.declared.width.Width.{Width}
use Rattle.properties.specs.declared.width.Width.TheVariants.{F, H, W, Na, A, N}

pub by_name : (v : Width) → called width_name widths (width_name v) ≡ Some v
by_name F = refl
by_name H = refl
by_name W = refl
by_name Na = refl
by_name A = refl
by_name N = refl
