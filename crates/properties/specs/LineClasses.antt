-- The line break classes and their names. Assumes nothing.
use Rattle.std.specs.Prelude.{ℕ, List, [], ◌∷◌, codes}
use Rattle.properties.specs.declared.line_class.LineClass.{LineClass}
use Rattle.properties.specs.declared.line_class.LineClass.TheVariants.{Ai, Bk, Cr, Lf, Cm, Nl, Sg, Wj, Zw, Gl, Sp, Zwj, B2, Ba, Bb, Hy, Cb, Cl, Cp, Ex, In, Ns, Op, Qu, Is, Nu, Po, Pr, Sy, Al, Cj, Eb, Em, H2, H3, Hl, Id, Jl, Jv, Jt, Ri, Sa, Xx}

abbrev pub line_name : LineClass → List ℕ
line_name Ai = codes "AI"
line_name Bk = codes "BK"
line_name Cr = codes "CR"
line_name Lf = codes "LF"
line_name Cm = codes "CM"
line_name Nl = codes "NL"
line_name Sg = codes "SG"
line_name Wj = codes "WJ"
line_name Zw = codes "ZW"
line_name Gl = codes "GL"
line_name Sp = codes "SP"
line_name Zwj = codes "ZWJ"
line_name B2 = codes "B2"
line_name Ba = codes "BA"
line_name Bb = codes "BB"
line_name Hy = codes "HY"
line_name Cb = codes "CB"
line_name Cl = codes "CL"
line_name Cp = codes "CP"
line_name Ex = codes "EX"
line_name In = codes "IN"
line_name Ns = codes "NS"
line_name Op = codes "OP"
line_name Qu = codes "QU"
line_name Is = codes "IS"
line_name Nu = codes "NU"
line_name Po = codes "PO"
line_name Pr = codes "PR"
line_name Sy = codes "SY"
line_name Al = codes "AL"
line_name Cj = codes "CJ"
line_name Eb = codes "EB"
line_name Em = codes "EM"
line_name H2 = codes "H2"
line_name H3 = codes "H3"
line_name Hl = codes "HL"
line_name Id = codes "ID"
line_name Jl = codes "JL"
line_name Jv = codes "JV"
line_name Jt = codes "JT"
line_name Ri = codes "RI"
line_name Sa = codes "SA"
line_name Xx = codes "XX"

-- those that the file lists, in the order in which a name is looked for
abbrev pub line_classes : List LineClass
line_classes = Ai ∷ Bk ∷ Cr ∷ Lf ∷ Cm ∷ Nl ∷ Sg ∷ Wj ∷ Zw ∷ Gl ∷ Sp ∷ Zwj ∷ B2 ∷ Ba ∷ Bb ∷ Hy ∷ Cb ∷ Cl ∷ Cp ∷ Ex ∷ In ∷ Ns ∷ Op ∷ Qu ∷ Is ∷ Nu ∷ Po ∷ Pr ∷ Sy ∷ Al ∷ Cj ∷ Eb ∷ Em ∷ H2 ∷ H3 ∷ Hl ∷ Id ∷ Jl ∷ Jv ∷ Jt ∷ Ri ∷ Sa ∷ Xx ∷ []
