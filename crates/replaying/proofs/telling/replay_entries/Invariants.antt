use Rattle.std.proofs.Common.{take}
use Rattle.replaying.specs.Ledgers.{Told}
use Rattle.replaying.specs.Reading.{texts_of}
use Rattle.replaying.proofs.telling.replay_entries.Given as goal

-- the lines so far have been told of
abbrev pub invariant-loop-index : goal.invariant-loop-index
invariant-loop-index l = Told (take l.index (texts_of l.entries)) l.list l.out.items
