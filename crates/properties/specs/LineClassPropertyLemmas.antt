-- Each line class is the one that its name stands for. Assumes nothing.
use Rattle.std.specs.Prelude.{◌≡◌, Some, refl}
use Rattle.properties.specs.Names.{called}
use Rattle.properties.specs.LineClasses.{line_name, line_classes}
use Rattle.properties.specs.declared.line_class.LineClass.{LineClass}
use Rattle.properties.specs.declared.line_class.LineClass.TheVariants.{Ai, Bk, Cr, Lf, Cm, Nl, Sg, Wj, Zw, Gl, Sp, Zwj, B2, Ba, Bb, Hy, Cb, Cl, Cp, Ex, In, Ns, Op, Qu, Is, Nu, Po, Pr, Sy, Al, Cj, Eb, Em, H2, H3, Hl, Id, Jl, Jv, Jt, Ri, Sa, Xx}

pub by_name : (v : LineClass) → called line_name line_classes (line_name v) ≡ Some v
by_name Ai = refl
by_name Bk = refl
by_name Cr = refl
by_name Lf = refl
by_name Cm = refl
by_name Nl = refl
by_name Sg = refl
by_name Wj = refl
by_name Zw = refl
by_name Gl = refl
by_name Sp = refl
by_name Zwj = refl
by_name B2 = refl
by_name Ba = refl
by_name Bb = refl
by_name Hy = refl
by_name Cb = refl
by_name Cl = refl
by_name Cp = refl
by_name Ex = refl
by_name In = refl
by_name Ns = refl
by_name Op = refl
by_name Qu = refl
by_name Is = refl
by_name Nu = refl
by_name Po = refl
by_name Pr = refl
by_name Sy = refl
by_name Al = refl
by_name Cj = refl
by_name Eb = refl
by_name Em = refl
by_name H2 = refl
by_name H3 = refl
by_name Hl = refl
by_name Id = refl
by_name Jl = refl
by_name Jv = refl
by_name Jt = refl
by_name Ri = refl
by_name Sa = refl
by_name Xx = refl
