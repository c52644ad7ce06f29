use Rattle.std.proofs.Common.{subst, sym}
use Rattle.replaying.specs.Ledgers.{nothing_yet}
use Rattle.replaying.specs.Ledgers.{ComesOf}
use Rattle.replaying.proofs.TellingLines.{one_more_told, same_line}
use Rattle.replaying.proofs.telling.replay_entries.Goals as goal

pub loop-index-init : goal.loop-index-init
loop-index-init c = rw (c.new-out.ensures.items) nothing_yet

pub loop-index-preserved : goal.loop-index-preserved
loop-index-preserved c =
    let line = same_line c.as_ref.result c.index-entries-index.result.line c.as_ref.ensures.value in
    let comes = subst (λ l. ComesOf c.loop-index.list l c.in_ok-after.outcome c.in_ok-after.after) line c.in_ok-after.ensures in
    rw (c.in_ok-tell.ensures.told, c.in_ok-extend_from_slice.ensures.items)
    (one_more_told c.args.entries.now c.loop-index.index c.index-entries-index.result c.in_ok-after.outcome c.loop-index-test.true (sym c.index-entries-index.is) c.requires comes c.loop-index.invariant)
