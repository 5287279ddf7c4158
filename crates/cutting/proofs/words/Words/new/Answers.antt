use Rattle.cutting.proofs.Counts.{few_words}
use Rattle.cutting.proofs.words.Words.new.Goals as goal

pub returns-clause-few : goal.returns-clause-few
returns-clause-few c = few_words c.args.bytes.now
