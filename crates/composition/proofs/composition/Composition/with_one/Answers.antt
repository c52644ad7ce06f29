use Rattle.std.proofs.Common.{arith}
use Rattle.composition.specs.Types.{position}
use Rattle.composition.proofs.Changes.{total_raised, type_counted}
use Rattle.composition.proofs.composition.Composition.with_one.Goals as goal

pub returns-then-homes-eq-MOST : goal.returns-then-homes-eq-MOST
returns-then-homes-eq-MOST c =
    let homes = c.args.self.now in
    omega (arith, total_raised (position c.args.more) homes.counts (type_counted c.args.more homes), c.homes.ensures, c.if-homes-eq-MOST.true)
