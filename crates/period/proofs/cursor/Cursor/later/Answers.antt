use Rattle.std.proofs.Common.{false, arith}
use Rattle.std.proofs.lemmas.Result.{err_from_is_err_and}
use Rattle.period.proofs.ReadingAlong.{none_yet, one_more, one_refused, all_read}
use Rattle.period.specs.Reader.{entry}
use Rattle.period.proofs.cursor.Cursor.later.Goals as goal

pub loop-init : goal.loop-init
loop-init c = none_yet (entry false c.args.types) c.args.count c.args.self.now

pub returns-in_err-later_half_hour : goal.returns-in_err-later_half_hour
returns-in_err-later_half_hour c =
    let answer = err_from_is_err_and c.from_residual.result c.from_residual.ensures.1 in
    rw (answer.1, answer.2)
    (one_refused (entry false c.args.types) c.args.count c.loop.counter c.args.self.now c.loop.self _ (omega (arith, c.loop-test.true)) c.loop.invariant
    c.in_err-later_half_hour.ensures)

pub loop-preserved : goal.loop-preserved
loop-preserved c =
    let read = c.in_ok-later_half_hour.ensures in
    one_more (entry false c.args.types) c.args.count c.loop.counter c.args.self.now c.loop.self c.later_half_hour.new.self read.0
    (omega (arith, c.loop-test.true)) c.loop.invariant read.1

pub returns : goal.returns
returns c =
    all_read (entry false c.args.types) c.args.count c.loop.counter c.args.self.now c.loop.self (omega (arith, c.loop-test.false)) c.loop.invariant
