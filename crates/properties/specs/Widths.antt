-- The East Asian widths and their names. Assumes nothing.
use Rattle.std.specs.Prelude.{ℕ, List, [], ◌∷◌, codes}
use Rattle.properties.specs.declared.width.Width.{Width}
use Rattle.properties.specs.declared.width.Width.TheVariants.{F, H, W, Na, A, N}

abbrev pub width_name : Width → List ℕ
width_name F = codes "F"
width_name H = codes "H"
width_name W = codes "W"
width_name Na = codes "Na"
width_name A = codes "A"
width_name N = codes "N"

-- those that the file lists, in the order in which a name is looked for
abbrev pub widths : List Width
widths = F ∷ H ∷ W ∷ Na ∷ A ∷ N ∷ []
