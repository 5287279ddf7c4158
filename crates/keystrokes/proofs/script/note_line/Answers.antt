use Rattle.std.proofs.Common.{[], ◌∷◌, sym, append-nil}
use Rattle.keystrokes.specs.Script.{reading}
use Rattle.keystrokes.proofs.Listing.{adds_nothing, adds_press, adds_bad}
use Rattle.keystrokes.proofs.script.note_line.Goals as goal

pub returns-in-Ok-None-clause-noted : goal.returns-in-Ok-None-clause-noted
returns-in-Ok-None-clause-noted c =
    let said = rw c.in-Ok-None.field-0-is at c.in-Ok-None.ensures in
    ([], [], sym (append-nil _), sym (append-nil _), adds_nothing c.args.number (reading c.args.line.now) said)

pub returns-in_ok-push-in-Ok-Some-clause-noted : goal.returns-in_ok-push-in-Ok-Some-clause-noted
returns-in_ok-push-in-Ok-Some-clause-noted c =
    let key = c.in-Ok-Some.key in
    let said = rw c.in-Ok-Some.field-0-is at c.in-Ok-Some.ensures in
    (key ∷ [], [], c.in_ok-push-in-Ok-Some.ensures.items, sym (append-nil _), adds_press c.args.number key (reading c.args.line.now) said)

pub returns-in_ok-push-in-Err-Fault-clause-noted : goal.returns-in_ok-push-in-Err-Fault-clause-noted
returns-in_ok-push-in-Err-Fault-clause-noted c =
    let fault = c.in-Err-Fault.fault in
    let said = rw c.in-Err-Fault.field-0-is at c.in-Err-Fault.ensures in
    ([], record { line = c.args.number; fault = fault } ∷ [], sym (append-nil _), c.in_ok-push-in-Err-Fault.ensures.items, adds_bad c.args.number fault (reading c.args.line.now) said)
