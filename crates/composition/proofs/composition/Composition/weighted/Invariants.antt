use Rattle.composition.specs.Amounts.{weighted}
use Rattle.composition.proofs.Amounts.{AddedUp}
use Rattle.composition.proofs.composition.Composition.weighted.Given as goal

abbrev pub invariant-loop-count : goal.invariant-loop-count
invariant-loop-count l = AddedUp l.count-iterator.a.rest.now l.count-iterator.b.rest.now (weighted l.self.counts l.amounts) l.sum
