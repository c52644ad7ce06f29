use Rattle.std.proofs.Common.{◌≡◌, ◌+◌, ◌*◌, pos, ◌+ℤ◌, ◌-ℤ◌, ap, arith}
use Rattle.std.proofs.lemmas.Int.{ints}
use Rattle.std.specs.Int.{int_div_euclid}
use Rattle.metering.specs.Grid.{amount, grid_sum}
use Rattle.metering.specs.Limits.{unit}
use Rattle.metering.proofs.grid_tally.GridTallyTally.take.Goals as goal

pub returns-clause-taken : goal.returns-clause-taken
returns-clause-taken c hs =
    let t = c.args.so_far in
    let h = c.args.half.now in
    let same : (pos (t.paid + h.import * h.tariffs.import) -ℤ pos (t.earned + h.export * h.tariffs.export)) +ℤ grid_sum hs ≡ (pos t.paid -ℤ pos t.earned) +ℤ (amount h +ℤ grid_sum hs) = omega (arith, ints) in
    rw (c.from.ensures, c.from-2.ensures, c.from-3.ensures, c.from-4.ensures) (ap (λ z. int_div_euclid z (pos unit)) same)
