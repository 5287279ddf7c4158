use Rattle.std.proofs.Common.{◌≡◌, sym, ◌∙◌, rules}
use Rattle.ranges.proofs.Lookups.{listed_lookup, lookup_kept, lookup_listed}
use Rattle.ranges.specs.Rows.{lookup}
use Rattle.ranges.proofs.table.Table.lookup.Goals as goal

pub returns : goal.returns
returns g c =
    let table = c.args.self.now in
    let rows = table.records.now in
    let at = c.args.c in
    let is : c.map.result ≡ lookup rows at =
    lookup_kept at rows c.place_of.result c.get.result c.filter.result c.map.result table.ascends c.place_of.ensures c.get.ensures.lookup c.filter.ensures (λ x b q. search rules) c.map.ensures.cases (λ x v q. search rules) in
    record {
      value = is;
      found = λ v some. lookup_listed at rows v (sym is ∙ some);
      listed = λ v row. is ∙ listed_lookup at 0 rows v table.ascends row;
    }
