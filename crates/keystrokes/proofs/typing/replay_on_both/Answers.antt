use Rattle.std.proofs.Common.{vec_items, sym, subst}
use Rattle.keystrokes.specs.Typing.{Typed}
use Rattle.keystrokes.proofs.Runs.{typed_once}
use Rattle.keystrokes.proofs.typing.replay_on_both.Goals as goal

pub returns-in_err-outcomes-clause-settled : goal.returns-in_err-outcomes-clause-settled
returns-in_err-outcomes-clause-settled g c = typed_once

pub returns-in_err-other_outcomes-clause-settled : goal.returns-in_err-other_outcomes-clause-settled
returns-in_err-other_outcomes-clause-settled g c = typed_once

pub returns-clause-settled : goal.returns-clause-settled
returns-clause-settled g c = typed_once

pub returns-clause-alike : goal.returns-clause-alike
returns-clause-alike g c rooms texts =
    let keys = c.args.keys.now in
    let other_outcomes = vec_items c.press_all-2.new.outcomes in
    let other_end = g.T.TextStore.text c.press_all-2.new.store in
    let other_text = g.T.TextStore.text c.args.other.now in
    let at_room = subst (λ r. Typed r keys other_text other_outcomes other_end) (sym rooms) c.press_all-2.ensures.typed in
    typed_once _ keys _ _ other_outcomes _ other_end c.press_all.ensures.typed (subst (λ t. Typed (g.S.TextStore.room c.args.one.now) keys t other_outcomes other_end) (sym texts) at_room)
