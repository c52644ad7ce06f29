use Rattle.std.proofs.Common.{◌≡◌, refl, ap, ◌∙◌}
use Rattle.period.specs.Filled.{page}
use Rattle.period.specs.InForce.{readings}
use Rattle.period.specs.Told.{left_in}
use Rattle.metering.proofs.Walking.{few_readings, readings_small}
use Rattle.metering.proofs.metered_rule.MeteredRule.walk.Goals as goal

pub loop-reading-init : goal.loop-reading-init
loop-reading-init g c =
    let p = c.args.self.now.period in
    let all : left_in c.into_iter-reading-iterator.result ≡ readings (page p) =
    ap left_in c.into_iter-reading-iterator.ensures.into_iter_gives ∙ c.readings-reading-items.ensures.value in
    record {
      so_far = refl;
      small = rw all (readings_small p);
      spare = c.start-so_far.ensures.room _ (rw all (few_readings p));
    }
