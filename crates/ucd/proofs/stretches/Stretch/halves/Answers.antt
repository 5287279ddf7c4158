use Rattle.std.proofs.Common.{rules, ◌≡◌, true, ◌+◌, ltb, length, sym, ap, subst, ◌∙◌}
use Rattle.std.proofs.lemmas.List.{take_rest}
use Rattle.std.proofs.lemmas.Option.{cond_some}
use Rattle.std.specs.Option.{is_some}
use Rattle.ucd.proofs.Layouts.{parts_one}
use Rattle.ucd.proofs.stretches.Stretch.halves.Goals as goal

pub returns : goal.returns
returns c =
    let s = c.args.self.bytes.now in
    let place = c.in_ok-first.first in
    let first = cond_some _ _ _ (sym c.first_place.ensures ∙ c.in_ok-first.was) in
    let at = first.1 in
    let within = subst (λ n. ltb n (length s) ≡ true) at first.0 in
    let rest = take_rest s (place + 1) in
    let none = ap is_some (sym c.first_place-2.ensures) ∙ sym c.is_some.ensures ∙ c.if-is_some.false in
    let once = parts_one s place _ within rest none in
    search (rules, once, at, rest)
