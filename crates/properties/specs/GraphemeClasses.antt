-- The grapheme cluster break classes and their names. Assumes nothing.
use Rattle.std.specs.Prelude.{ℕ, List, [], ◌∷◌, Some, None, codes, Option}
use Rattle.properties.specs.declared.grapheme_class.GraphemeClass.{GraphemeClass}
use Rattle.properties.specs.declared.grapheme_class.GraphemeClass.TheVariants.{Cr, Lf, Control, Extend, Zwj, RegionalIndicator, Prepend, SpacingMark, L, V, T, Lv, Lvt, Other}

abbrev pub grapheme_name : GraphemeClass → List ℕ
grapheme_name Cr = codes "CR"
grapheme_name Lf = codes "LF"
grapheme_name Control = codes "Control"
grapheme_name Extend = codes "Extend"
grapheme_name Zwj = codes "ZWJ"
grapheme_name RegionalIndicator = codes "Regional_Indicator"
grapheme_name Prepend = codes "Prepend"
grapheme_name SpacingMark = codes "SpacingMark"
grapheme_name L = codes "L"
grapheme_name V = codes "V"
grapheme_name T = codes "T"
grapheme_name Lv = codes "LV"
grapheme_name Lvt = codes "LVT"
grapheme_name Other = codes "Other"

-- those that the file lists, in the order in which a name is looked for
abbrev pub grapheme_classes : List GraphemeClass
grapheme_classes = Cr ∷ Lf ∷ Control ∷ Extend ∷ Zwj ∷ RegionalIndicator ∷ Prepend ∷ SpacingMark ∷ L ∷ V ∷ T ∷ Lv ∷ Lvt ∷ []

-- Other is no name of the file
abbrev pub listed_name : GraphemeClass → Option (List ℕ)
listed_name Cr = Some (grapheme_name Cr)
listed_name Lf = Some (grapheme_name Lf)
listed_name Control = Some (grapheme_name Control)
listed_name Extend = Some (grapheme_name Extend)
listed_name Zwj = Some (grapheme_name Zwj)
listed_name RegionalIndicator = Some (grapheme_name RegionalIndicator)
listed_name Prepend = Some (grapheme_name Prepend)
listed_name SpacingMark = Some (grapheme_name SpacingMark)
listed_name L = Some (grapheme_name L)
listed_name V = Some (grapheme_name V)
listed_name T = Some (grapheme_name T)
listed_name Lv = Some (grapheme_name Lv)
listed_name Lvt = Some (grapheme_name Lvt)
listed_name Other = None
