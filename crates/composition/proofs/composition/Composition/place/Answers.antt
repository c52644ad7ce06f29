use Rattle.std.proofs.Common.{◌∙◌, ap, arith, rules}
use Rattle.composition.specs.Counts.{at_place}
use Rattle.composition.proofs.Four.{place_four}
use Rattle.composition.proofs.Places.{place_below, at_place_place}
use Rattle.composition.proofs.composition.Composition.place.Goals as goal

pub returns-clause-value : goal.returns-clause-value
returns-clause-value c = search (rules, place_four c.args.self.now.counts c.args.of.now.counts c.args.self.now.four c.args.of.now.four)

pub returns-clause-within : goal.returns-clause-within
returns-clause-within c = λ inside. omega (arith, returns-clause-value c, place_below c.args.self.now.counts c.args.of.now.counts inside)

pub returns-clause-back : goal.returns-clause-back
returns-clause-back c =
    λ inside. ap (at_place c.args.self.now.counts) (returns-clause-value c) ∙ at_place_place c.args.self.now.counts c.args.of.now.counts inside
