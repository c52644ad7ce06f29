use Rattle.std.proofs.Common.{arith}
use Rattle.std.proofs.lemmas.Result.{err_from_is_err_and}
use Rattle.period.proofs.ReadingAlong.{none_yet, one_more, one_refused, all_read}
use Rattle.period.specs.Reader.{value}
use Rattle.period.specs.Words.{demand_kind}
use Rattle.period.proofs.cursor.Cursor.demands.Goals as goal

pub loop-init : goal.loop-init
loop-init c = none_yet (value demand_kind) c.args.types c.args.self.now

pub returns-in_err-word : goal.returns-in_err-word
returns-in_err-word c =
    let answer = err_from_is_err_and c.from_residual.result c.from_residual.ensures.1 in
    rw (answer.1, answer.2)
    (one_refused (value demand_kind) c.args.types c.loop.counter c.args.self.now c.loop.self _ (omega (arith, c.loop-test.true)) c.loop.invariant
    c.in_err-word.ensures.reads)

pub loop-preserved : goal.loop-preserved
loop-preserved c =
    one_more (value demand_kind) c.args.types c.loop.counter c.args.self.now c.loop.self c.word.new.self c.in_ok-word.field-0
    (omega (arith, c.loop-test.true)) c.loop.invariant c.in_ok-word.ensures.reads

pub returns : goal.returns
returns c = all_read (value demand_kind) c.args.types c.loop.counter c.args.self.now c.loop.self (omega (arith, c.loop-test.false)) c.loop.invariant
