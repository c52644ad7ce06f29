use Rattle.std.proofs.Common.{◌≡◌, ℕ, ◌<◌, slice_index_or}
use Rattle.every_group.proofs.newcomer.one_of.Given as goal

-- no type before has homes
abbrev pub invariant-loop-of : goal.invariant-loop-of
invariant-loop-of l = (i : ℕ) → i < l.of-index → slice_index_or l.group.counts i 0 ≡ 0
