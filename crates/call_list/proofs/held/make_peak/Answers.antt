use Rattle.std.proofs.Common.{Ok, Err, refl, subst}
use Rattle.metering.specs.Filled.{PeakFilled}
use Rattle.std.proofs.Common.{to_z-of_z}
use Rattle.call_list.proofs.held.make_peak.Goals as goal

pub returns-in-Ok : goal.returns-in-Ok
returns-in-Ok c =
    let filled = subst (λ z. PeakFilled c.fill.new.self z c.args.held.now c.fill-in-Ok.result c.fill-in-Ok.new.self) (to_z-of_z c.ranges.price) c.fill-in-Ok.ensures.filled in
    record { before = c.built_in-period.result; checked = Ok c.in-Ok.field-0; period = c.fill.new.self; filled = c.in-Ok.ensures; made = (c.fill-in-Ok.result, filled, c.done.ensures) }

pub returns-in-Err : goal.returns-in-Err
returns-in-Err c = record { before = c.built_in-period.result; checked = Err c.in-Err.refusal; period = c.fill.new.self; filled = c.in-Err.ensures; made = (c.refused.ensures, refl) }
