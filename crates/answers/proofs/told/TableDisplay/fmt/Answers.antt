use Rattle.std.proofs.Common.{refl, rules, arith, pos}
use Rattle.std.proofs.lemmas.Int.{to_z-of_z}
use Rattle.std.specs.Fmt.{HasWritten}
use Rattle.listing.proofs.RowsWritten.{none_yet, row_written, all_written}
use Rattle.listing.specs.Texts.{line_end}
use Rattle.answers.specs.Texts.{count_told, spaced_signed}
use Rattle.answers.proofs.told.TableDisplay.fmt.Goals as goal

pub loop-entry-init : goal.loop-entry-init
loop-entry-init g c plain =
    let entries = c.args.self.now.entries.now in
    let written : HasWritten g.W.Write.write_str_gives c.args.f.now (count_told entries) c.write.new.self = search rules in
    none_yet spaced_signed g.W.Write.write_str_gives _ _ (count_told entries) entries written

pub loop-entry-preserved : goal.loop-entry-preserved
loop-entry-preserved g c plain =
    let entries = c.args.self.now.entries.now in
    let before = c.loop-entry.invariant plain in
    row_written spaced_signed g.W.Write.write_str_gives _ _ _ (count_told entries) entries c.loop-entry.entry-index _ (pos 0) c.loop-entry-test.true refl before
    (search (arith, to_z-of_z, before))

pub returns-clause-writes : goal.returns-clause-writes
returns-clause-writes g c plain done =
    let entries = c.args.self.now.entries.now in
    let before = c.loop-entry.invariant plain in
    let foot : HasWritten g.W.Write.write_str_gives c.loop-entry.f line_end c.writeln.new.self = search (rules, c.writeln.ensures.writes before.plain done) in
    all_written spaced_signed g.W.Write.write_str_gives _ _ _ (count_told entries) line_end entries c.loop-entry.entry-index c.loop-entry-test.false before foot
