-- Each general category is the one that its name stands for. Assumes nothing.
use Rattle.std.specs.Prelude.{◌≡◌, Some, refl}
use Rattle.properties.specs.Names.{called}
use Rattle.properties.specs.Categories.{category_name, categories}
use Rattle.properties.specs.declared.category.Category.{Category}
use Rattle.properties.specs.declared.category.Category.TheVariants.{Lu, Ll, Lt, Lm, Lo, Mn, Mc, Me, Nd, Nl, No, Pc, Pd, Ps, Pe, Pi, Pf, Po, Sm, Sc, Sk, So, Zs, Zl, Zp, Cc, Cf, Cs, Co, Cn}

pub by_name : (v : Category) → called category_name categories (category_name v) ≡ Some v
by_name Lu = refl
by_name Ll = refl
by_name Lt = refl
by_name Lm = refl
by_name Lo = refl
by_name Mn = refl
by_name Mc = refl
by_name Me = refl
by_name Nd = refl
by_name Nl = refl
by_name No = refl
by_name Pc = refl
by_name Pd = refl
by_name Ps = refl
by_name Pe = refl
by_name Pi = refl
by_name Pf = refl
by_name Po = refl
by_name Sm = refl
by_name Sc = refl
by_name Sk = refl
by_name So = refl
by_name Zs = refl
by_name Zl = refl
by_name Zp = refl
by_name Cc = refl
by_name Cf = refl
by_name Cs = refl
by_name Co = refl
by_name Cn = refl
