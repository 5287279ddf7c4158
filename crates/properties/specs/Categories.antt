-- The general categories and their names. Assumes nothing.
use Rattle.std.specs.Prelude.{ℕ, List, [], ◌∷◌, codes}
use Rattle.properties.specs.declared.category.Category.{Category}
use Rattle.properties.specs.declared.category.Category.TheVariants.{Lu, Ll, Lt, Lm, Lo, Mn, Mc, Me, Nd, Nl, No, Pc, Pd, Ps, Pe, Pi, Pf, Po, Sm, Sc, Sk, So, Zs, Zl, Zp, Cc, Cf, Cs, Co, Cn}

abbrev pub category_name : Category → List ℕ
category_name Lu = codes "Lu"
category_name Ll = codes "Ll"
category_name Lt = codes "Lt"
category_name Lm = codes "Lm"
category_name Lo = codes "Lo"
category_name Mn = codes "Mn"
category_name Mc = codes "Mc"
category_name Me = codes "Me"
category_name Nd = codes "Nd"
category_name Nl = codes "Nl"
category_name No = codes "No"
category_name Pc = codes "Pc"
category_name Pd = codes "Pd"
category_name Ps = codes "Ps"
category_name Pe = codes "Pe"
category_name Pi = codes "Pi"
category_name Pf = codes "Pf"
category_name Po = codes "Po"
category_name Sm = codes "Sm"
category_name Sc = codes "Sc"
category_name Sk = codes "Sk"
category_name So = codes "So"
category_name Zs = codes "Zs"
category_name Zl = codes "Zl"
category_name Zp = codes "Zp"
category_name Cc = codes "Cc"
category_name Cf = codes "Cf"
category_name Cs = codes "Cs"
category_name Co = codes "Co"
category_name Cn = codes "Cn"

-- those that the file lists, in the order in which a name is looked for
abbrev pub categories : List Category
categories = Lu ∷ Ll ∷ Lt ∷ Lm ∷ Lo ∷ Mn ∷ Mc ∷ Me ∷ Nd ∷ Nl ∷ No ∷ Pc ∷ Pd ∷ Ps ∷ Pe ∷ Pi ∷ Pf ∷ Po ∷ Sm ∷ Sc ∷ Sk ∷ So ∷ Zs ∷ Zl ∷ Zp ∷ Cc ∷ Cf ∷ Cs ∷ Co ∷ Cn ∷ []
