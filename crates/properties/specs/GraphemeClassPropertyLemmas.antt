-- Each grapheme class that the file lists is the one that its name stands for. Assumes nothing.
use Rattle.std.specs.Prelude.{◌≡◌, IfSome, Some, refl}
use Rattle.properties.specs.GraphemeClasses.{grapheme_name, grapheme_classes, listed_name}
use Rattle.properties.specs.Names.{called}
use Rattle.properties.specs.declared.grapheme_class.GraphemeClass.{GraphemeClass}
use Rattle.properties.specs.declared.grapheme_class.GraphemeClass.TheVariants.{Cr, Lf, Control, Extend, Zwj, RegionalIndicator, Prepend, SpacingMark, L, V, T, Lv, Lvt, Other}

pub by_name : (v : GraphemeClass) → IfSome (listed_name v) (λ name. called grapheme_name grapheme_classes name ≡ Some v)
by_name Cr = refl
by_name Lf = refl
by_name Control = refl
by_name Extend = refl
by_name Zwj = refl
by_name RegionalIndicator = refl
by_name Prepend = refl
by_name SpacingMark = refl
by_name L = refl
by_name V = refl
by_name T = refl
by_name Lv = refl
by_name Lvt = refl
by_name Other = tt
