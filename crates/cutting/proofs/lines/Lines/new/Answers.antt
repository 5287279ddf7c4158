use Rattle.cutting.proofs.Counts.{few_lines}
use Rattle.cutting.proofs.lines.Lines.new.Goals as goal

pub returns-clause-few : goal.returns-clause-few
returns-clause-few c = few_lines c.args.bytes.now
