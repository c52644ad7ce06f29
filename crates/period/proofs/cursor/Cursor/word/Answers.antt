use Rattle.period.proofs.TakingWords.{must_answer}
use Rattle.period.proofs.cursor.Cursor.word.Goals as goal

pub returns-clause-reads : goal.returns-clause-reads
returns-clause-reads c = rw c.ok_or.ensures.value (must_answer c.args.slot c.args.self.now c.take.new.self c.take.result c.take.ensures.reads)
