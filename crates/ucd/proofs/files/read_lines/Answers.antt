use Rattle.std.proofs.Common.{◌≡◌, ◌+◌, take, Some, None, Err, sym, ap, ◌∙◌, subst}
use Rattle.cutting.specs.Left.{lines_left}
use Rattle.cutting.specs.Pieces.{lines}
use Rattle.ranges.specs.Tables.{kept, room}
use Rattle.std.proofs.lemmas.Result.{err_from_is_err_and}
use Rattle.ucd.specs.Entries.{entry_of}
use Rattle.ucd.specs.Files.{fault_in, Stopped, Goes}
use Rattle.ucd.proofs.Reading.{sofar_more, sofar_stopped}
use Rattle.ucd.proofs.files.read_lines.Goals as goal

pub loop-i-preserved : goal.loop-i-preserved
loop-i-preserved g c =
    let listed = g.P.Property.listed in
    let meant = g.P.Property.meant in
    let shared = g.P.Property.shared in
    let table = c.args.table.now in
    let middle = c.loop-i.table in
    let line = c.in-Some.line.now in
    let i = c.in-Some.i in
    let left = lines_left c.loop-i.i-iterator.iter in
    let behind = lines_left c.next.new.self.iter in
    let step = c.in-Some.ensures.steps in
    let done = c.in_ok-read_data_line.ensures in
    let here : i ≡ c.loop-i.count = step.1 ∙ c.loop-i.invariant.1 in
    let taken = subst (λ n. fault_in n (kept middle) (i + 1) (entry_of meant shared line) ≡ None) c.loop-i.invariant.2 done.told in (
      sofar_more listed meant shared (room table) (lines c.args.bytes.now) left behind line c.loop-i.count i (kept table) (kept middle) (kept c.read_data_line.new.table) c.loop-i.invariant.0 step.0 here taken done.rows done.values,
      step.2 ∙ ap (λ n. n + 1) (sym step.1),
      done.same_room ∙ c.loop-i.invariant.2,
    )

pub returns-in_err-read_data_line-clause-goes : goal.returns-in_err-read_data_line-clause-goes
returns-in_err-read_data_line-clause-goes g c =
    let listed = g.P.Property.listed in
    let meant = g.P.Property.meant in
    let shared = g.P.Property.shared in
    let before = c.args.table.now in
    let middle = c.loop-i.table in
    let after = c.read_data_line.new.table in
    let ls = lines c.args.bytes.now in
    let line = c.in-Some.line.now in
    let i = c.in-Some.i in
    let left = lines_left c.loop-i.i-iterator.iter in
    let behind = lines_left c.next.new.self.iter in
    let step = c.in-Some.ensures.steps in
    let fault = c.in_err-read_data_line.field-0.0 in
    let refused = c.in_err-read_data_line.ensures in
    let told = subst (λ n. fault_in n (kept middle) (i + 1) (entry_of meant shared line) ≡ Some fault) c.loop-i.invariant.2 refused.told in
    let stopped = sofar_stopped listed meant shared (room before) ls left behind line c.loop-i.count i (kept before) (kept middle) fault c.loop-i.invariant.0 step.0 (step.1 ∙ c.loop-i.invariant.1) told in
    let same : kept middle ≡ kept after = λ i. take (sym refused.rows.1 i) (sym refused.rows.0 i) in
    let error = err_from_is_err_and c.from_residual.result c.from_residual.ensures.1 in
    let answer : c.from_residual.result ≡ Err fault = error.1 ∙ ap Err error.2 in
    let stays = subst (λ rows. Stopped meant shared (room before) ls (kept before) rows fault) same stopped in
    subst (Goes listed meant shared (room before) ls (kept before) (kept after)) (sym answer) stays
