use Rattle.composition.specs.Counts.{total}
use Rattle.every_group.proofs.newcomer.Newcomer.+behind_all.Given as goal

-- one home fewer is left each time
abbrev pub decreases-behind_all : goal.decreases-behind_all
decreases-behind_all l = total l.left.counts
