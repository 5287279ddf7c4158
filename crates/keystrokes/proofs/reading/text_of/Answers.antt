use Rattle.std.proofs.Common.{◌++◌, take, sym, ap, ◌∙◌, arith}
use lib.Utf8.{encode}
use Rattle.std.proofs.lemmas.Slice.{pushed}
use Rattle.keystrokes.specs.Shown.{shown, utf8}
use Rattle.keystrokes.proofs.Utf8Texts.{shown_is, utf8_more}
use Rattle.keystrokes.proofs.reading.text_of.Goals as goal

pub loop-place-preserved : goal.loop-place-preserved
loop-place-preserved g c =
    let text = g.S.TextStore.text c.args.store.now in
    let place = c.loop-place.place in
    let char_is = c.unwrap_or.ensures ∙ shown_is c.at.result c.from_u32.result c.from_u32.ensures.value ∙ ap shown c.at.ensures in
    pushed (encode c.unwrap_or.result) c.loop-place.invariant c.in_ok-push.was c.push.ensures.bytes
    ∙ ap (λ ch. utf8 (take place text) ++ encode ch) char_is
    ∙ sym (utf8_more text place (omega (arith, c.len-place-end.ensures, c.loop-place-test.true)))
