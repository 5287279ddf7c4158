use Rattle.std.proofs.Common.{◌≡◌, [], vec_items, ap, ◌∙◌, subst}
use Rattle.keystrokes.specs.Typing.{Typed}
use Rattle.store.specs.Stores.{flat_text, flat_room}
use Rattle.store.specs.Texts.{capacity_limit, capacity_of}
use Rattle.replays.proofs.replay.replay_script.Goals as goal

pub returns : goal.returns
returns g c =
    let script = c.in_ok-script.script in
    let flat = c.new-flat.result in
    let outcomes = vec_items c.in_ok-flat_outcomes.flat_outcomes in
    let text = flat_text c.replay_on_both.new.one in
    let room : flat_room flat ≡ capacity_limit = c.new-flat.ensures.room ∙ ap capacity_of c.in_ok-array.ensures in
    let typed = subst (λ ks. Typed (flat_room flat) ks (flat_text flat) outcomes text) c.as_slice.ensures.value c.in_ok-flat_outcomes.ensures.typed in
    let from_empty = subst (λ t. Typed (flat_room flat) (vec_items script.keys) t outcomes text) c.new-flat.ensures.empty typed in
    record {
      script = script;
      read = c.in_ok-script.ensures.read;
      outcomes = outcomes;
      typed = subst (λ r. Typed r (vec_items script.keys) [] outcomes text) room from_empty;
    }
