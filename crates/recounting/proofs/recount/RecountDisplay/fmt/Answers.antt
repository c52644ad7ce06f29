use Rattle.std.proofs.Common.{◌<◌, ◌≤◌, length, ap, refl, rules, arith}
use Rattle.std.specs.Fmt.{HasWritten}
use Rattle.composition.specs.declared.demand_type.DemandType.TheVariants.{One}
use Rattle.listing.proofs.RowsWritten.{none_yet, row_written, rows_written}
use Rattle.recounting.specs.Texts.{head_text, row_of, row_text, rows_of}
use Rattle.recounting.proofs.recount.RecountDisplay.fmt.Goals as goal

pub loop-row-init : goal.loop-row-init
loop-row-init g c plain =
    let r = c.args.self.now in
    let written : HasWritten g.W.Write.write_str_gives c.args.f.now (head_text r.draft) c.writeln.new.self = search rules in
    none_yet row_text g.W.Write.write_str_gives _ _ (head_text r.draft) (rows_of r.draft r.by_groups) written

pub loop-row-preserved : goal.loop-row-preserved
loop-row-preserved g c plain =
    let r = c.args.self.now in
    let rows = rows_of r.draft r.by_groups in
    let before = c.loop-row.invariant plain in
    let i = c.loop-row.row-index in
    let same = c.rows-row-items.ensures in
    let there : i < length rows = omega (arith, c.loop-row-test.true, ap length same) in
    row_written row_text g.W.Write.write_str_gives _ _ _ (head_text r.draft) rows i _ (row_of r.draft r.by_groups One) there (search (rules, same)) before
    (c.in_ok-write.ensures.writes before.plain refl)

pub returns-clause-writes : goal.returns-clause-writes
returns-clause-writes g c plain done =
    let r = c.args.self.now in
    let rows = rows_of r.draft r.by_groups in
    let end : length rows ≤ c.loop-row.row-index = omega (arith, c.loop-row-test.false, ap length c.rows-row-items.ensures) in
    rows_written row_text g.W.Write.write_str_gives _ _ (head_text r.draft) rows c.loop-row.row-index end (c.loop-row.invariant plain)
