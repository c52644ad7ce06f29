use Rattle.listing.proofs.JoiningHomes.{NamedTo}
use Rattle.listing.proofs.homes.open_for.Given as goal

abbrev pub invariant-loop-of : goal.invariant-loop-of
invariant-loop-of l = NamedTo l.words l.of-index l.account
