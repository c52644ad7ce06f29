use Rattle.listing.proofs.JoiningHomes.{SoFar}
use Rattle.listing.proofs.homes.join_all.Given as goal

abbrev pub invariant-loop : goal.invariant-loop
invariant-loop l = SoFar l.initial.account l.of l.counter l.account
