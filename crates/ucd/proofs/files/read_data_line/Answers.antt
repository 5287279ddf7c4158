use Rattle.std.proofs.Common.{rules, ◌≡◌, Some, None, Ok}
use Rattle.ranges.specs.Tables.{kept, room}
use Rattle.std.proofs.lemmas.Result.{MatchResult-weaker}
use Rattle.ucd.specs.Entries.{entry_of}
use Rattle.ucd.proofs.Growth.{grown_by_line}
use Rattle.ucd.proofs.Telling.{grown_told, told_nothing}
use Rattle.ucd.proofs.files.read_data_line.Goals as goal

pub returns-in-Some-clause-values : goal.returns-in-Some-clause-values
returns-in-Some-clause-values g c =
    let before = c.args.table.now in
    let after = c.keep.new.table in
    let line = c.args.line.now in
    let listing = c.in-Some.listing in
    let r = c.keep.result in
    let entry : entry_of g.P.Property.meant g.P.Property.shared line ≡ Ok (Some listing) = search rules in
    MatchResult-weaker r (grown_by_line g.P.Property.meant g.P.Property.shared (room before) c.args.number line listing (kept before) (kept after) r entry c.keep.ensures.told c.keep.ensures.values) (λ _ h. grown_told g.P.Property.meant g.P.Property.shared g.P.Property.listed g.met.P.Property.told g.met.P.Property.found line (Some listing) entry (kept before) (kept after) h) (λ _ u. u)

pub returns-in-None-clause-values : goal.returns-in-None-clause-values
returns-in-None-clause-values g c =
    let line = c.args.line.now in
    let entry : entry_of g.P.Property.meant g.P.Property.shared line ≡ Ok None = search rules in
    told_nothing g.P.Property.meant g.P.Property.shared g.P.Property.listed g.met.P.Property.told g.met.P.Property.found line entry (kept c.args.table.now)
