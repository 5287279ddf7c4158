use Rattle.std.proofs.Common.{[], ◌∷◌, ◌++◌, take, vec_items, sym, ap, ◌∙◌, subst, arith}
use Rattle.std.proofs.lemmas.List.{take_more}
use Rattle.keystrokes.specs.Typing.{Pressed, Typed}
use Rattle.keystrokes.proofs.Runs.{typed_more}
use Rattle.keystrokes.proofs.typing.press_all.Goals as goal

pub loop-key-preserved : goal.loop-key-preserved
loop-key-preserved g c =
    let s = g.S.TextStore in
    let inv = c.loop-key.invariant in
    let keys = c.args.keys.now in
    let i = c.loop-key.key-index in
    let key = c.key-item.result in
    let room = s.room c.args.store.now in
    let text = s.text c.args.store.now in
    let new = s.text c.press.new.store in
    let keys_more = take_more keys i key c.loop-key-test.true ∙ ap (λ k. take i keys ++ (k ∷ [])) (sym c.key-item.is) in
    let pressed = subst (λ r. Pressed r key (s.text c.loop-key.store) c.press.result new) inv.0 c.press.ensures.pressed in
    let typed = typed_more room (take i keys) key text (vec_items c.loop-key.outcomes) c.press.result (s.text c.loop-key.store) new inv.3 pressed in (
      c.press.ensures.same_room ∙ inv.0,
      omega (arith, c.push_reserved.ensures.len, inv.1),
      omega (arith, c.push_reserved.ensures.capacity, inv.2),
      subst (λ ks. Typed room ks text (vec_items c.push_reserved.new.self) new) (sym keys_more)
          (subst (λ os. Typed room (take i keys ++ (key ∷ [])) text os new) (sym c.push_reserved.ensures.items) typed),
    )
