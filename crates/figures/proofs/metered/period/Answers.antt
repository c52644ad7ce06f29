use Rattle.figures.proofs.Workings.{words_taken}
use Rattle.figures.proofs.metered.period.Goals as goal

pub unwrap-requires : goal.unwrap-requires
unwrap-requires c = (words_taken _ _ _ c.fill.ensures).0

pub returns : goal.returns
returns c = (words_taken _ _ _ c.fill.ensures).1
