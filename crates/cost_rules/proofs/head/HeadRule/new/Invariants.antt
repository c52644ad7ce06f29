use Rattle.std.proofs.Common.{ℕ, ◌<◌, slice_index_or, pos}
use Rattle.cost_rules.specs.Fees.{IsFee}
use Rattle.cost_rules.proofs.head.HeadRule.new.Given as goal

abbrev pub invariant-loop-of : goal.invariant-loop-of
invariant-loop-of l = (i : ℕ) → i < l.of-index → IsFee (slice_index_or l.fees i (pos 0))
