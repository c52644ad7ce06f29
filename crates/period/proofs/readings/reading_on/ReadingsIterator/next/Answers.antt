use Rattle.std.proofs.Common.{◌≡◌, suc, arith}
use Rattle.period.proofs.Unreading.{half_hour_read}
use Rattle.period.proofs.readings.reading_on.ReadingsIterator.next.Goals as goal

pub returns-clause-steps : goal.returns-clause-steps
returns-clause-steps c =
    let left : c.args.self.now.left ≡ suc c.in_ok-self.field-0 = omega (arith, c.in_ok-self.ensures) in
    rw left
    (half_hour_read c.in_ok-self.field-0 c.args.self.now.types c.args.self.now.tariffs c.args.self.now.rest.now c.tariff.ensures.tariff c.tariff.ensures.left
    c.tariff-2.ensures.tariff c.tariff-2.ensures.left c.demands.ensures.demands c.demands.ensures.left c.first.ensures.value c.first.ensures.left)
