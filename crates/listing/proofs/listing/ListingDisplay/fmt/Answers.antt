use Rattle.std.proofs.Common.{◌<◌, ◌≤◌, length, ap, refl, rules, arith}
use Rattle.std.specs.Fmt.{HasWritten}
use Rattle.composition.specs.declared.demand_type.DemandType.TheVariants.{One}
use Rattle.listing.proofs.RowsWritten.{none_yet, row_written, all_written}
use Rattle.listing.specs.Texts.{head_text, foot_text, row_of, row_text, rows_of}
use Rattle.listing.proofs.listing.ListingDisplay.fmt.Goals as goal

pub loop-row-init : goal.loop-row-init
loop-row-init g c plain =
    let d = c.args.self.now.draft in
    let written : HasWritten g.W.Write.write_str_gives c.args.f.now (head_text d) c.writeln.new.self = search rules in
    none_yet row_text g.W.Write.write_str_gives _ _ (head_text d) (rows_of d) written

pub loop-row-preserved : goal.loop-row-preserved
loop-row-preserved g c plain =
    let d = c.args.self.now.draft in
    let before = c.loop-row.invariant plain in
    let i = c.loop-row.row-index in
    let same = c.rows-row-items.ensures in
    let there : i < length (rows_of d) = omega (arith, c.loop-row-test.true, ap length same) in
    row_written row_text g.W.Write.write_str_gives _ _ _ (head_text d) (rows_of d) i _ (row_of d One) there (search (rules, same)) before
    (c.in_ok-write.ensures.writes before.plain refl)

pub returns-clause-writes : goal.returns-clause-writes
returns-clause-writes g c plain done =
    let d = c.args.self.now.draft in
    let before = c.loop-row.invariant plain in
    let end : length (rows_of d) ≤ c.loop-row.row-index = omega (arith, c.loop-row-test.false, ap length c.rows-row-items.ensures) in
    let foot : HasWritten g.W.Write.write_str_gives c.loop-row.f (foot_text d) c.writeln-2.new.self = search (rules, c.writeln-2.ensures.writes before.plain done) in
    all_written row_text g.W.Write.write_str_gives _ _ _ (head_text d) (foot_text d) (rows_of d) c.loop-row.row-index end before foot
