use Rattle.std.proofs.Common.{sym, subst}
use Rattle.cutting.proofs.Feeds.{lined}
use Rattle.cutting.specs.Pieces.{lines}
use Rattle.ranges.specs.Tables.{kept, room, rows}
use Rattle.ucd.specs.Files.{Loaded}
use Rattle.ucd.proofs.Reading.{loaded}
use Rattle.ucd.proofs.files.read_file.Goals as goal

pub returns-in_err-count-clause-lined : goal.returns-in_err-count-clause-lined
returns-in_err-count-clause-lined g c = lined c.args.bytes.now

pub returns-clause-lined : goal.returns-clause-lined
returns-clause-lined g c = lined c.args.bytes.now

pub returns-clause-loads : goal.returns-clause-loads
returns-clause-loads g c =
    let listed = g.P.Property.listed in
    let meant = g.P.Property.meant in
    let shared = g.P.Property.shared in
    let ls = lines c.args.bytes.now in
    let before = c.new-filling.result in
    let after = c.read_lines.new.table in
    let count = c.in_ok-count.count in
    let here = loaded listed meant shared (room before) ls (kept before) (kept after) count c.new-filling.ensures.empty c.in_ok-count.ensures.goes in
    let told = subst (λ r. Loaded listed meant shared (room before) ls r count) (sym c.table.ensures) here in
    subst (λ n. Loaded listed meant shared n ls (rows c.table.result) count) c.new-filling.ensures.room told
