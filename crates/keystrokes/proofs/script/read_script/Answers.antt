use Rattle.std.proofs.Common.{refl, subst}
use Rattle.cutting.proofs.Feeds.{lined}
use Rattle.cutting.specs.Pieces.{lines}
use Rattle.keystrokes.proofs.Listing.{Sofar, one_more}
use Rattle.keystrokes.proofs.script.read_script.Goals as goal

pub loop-line-preserved : goal.loop-line-preserved
loop-line-preserved c =
    let noted = c.in_ok-note_line.ensures.noted in
    let before = subst (λ left. Sofar (lines c.args.bytes.now) left c.loop-line.script) c.in-Some.ensures.steps c.loop-line.invariant in
    one_more _ _ _ c.loop-line.script _ noted.0 noted.1 before refl noted.2 noted.3 noted.4

pub returns-in_err-note_line-clause-lined : goal.returns-in_err-note_line-clause-lined
returns-in_err-note_line-clause-lined c = lined c.args.bytes.now

pub returns-clause-lined : goal.returns-clause-lined
returns-clause-lined c = lined c.args.bytes.now
