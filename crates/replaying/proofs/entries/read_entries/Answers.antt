use Rattle.replaying.proofs.ReadingLines.{one_more}
use Rattle.replaying.proofs.entries.read_entries.Goals as goal

pub loop-text-preserved : goal.loop-text-preserved
loop-text-preserved c =
    rw (c.in_ok-push.ensures.items)
    (one_more c.args.lines.now c.loop-text.entries.items c.loop-text.text-index _ c.in_ok-read_entry.field-0 c.loop-text-test.true c.in_ok-read_entry.ensures c.loop-text.invariant)
