use Rattle.std.proofs.Common.{◌≡◌, ◌*◌, sym, arith}
use Rattle.composition.specs.Counts.{total}
use Rattle.shapley.specs.CommonMultiple.{lcm_to}
use Rattle.shapley.proofs.CommonMultiples.{lcm_to_is_least, lcm_to_small}
use Rattle.shapley.proofs.Weights.{lcm_from_row}
use Rattle.shapley.proofs.weight_table.lcm_to.Goals as goal

pub returns-in-0-clause-least : goal.returns-in-0-clause-least
returns-in-0-clause-least c =
    let none : total c.args.homes.now.counts ≡ 0 = omega arith in rw none (lcm_to_is_least 0)

-- the product is the least common multiple of as many as there are
product : (c : goal.After-entry) → c.from.result * c.entry.result ≡ lcm_to (total c.args.homes.now.counts)
product c = rw (c.from.ensures, c.entry.ensures, c.homes.ensures) (sym (lcm_from_row (total c.args.homes.now.counts) (omega arith) (omega arith)))

pub overflow_mul-result : goal.overflow_mul-result
overflow_mul-result c =
    record { fits = omega (arith, product c, lcm_to_small (total c.args.homes.now.counts) c.args.homes.now.few) }

pub returns-in_default-clause-value : goal.returns-in_default-clause-value
returns-in_default-clause-value c = product c

pub returns-in_default-clause-least : goal.returns-in_default-clause-least
returns-in_default-clause-least c = rw (product c) (lcm_to_is_least (total c.args.homes.now.counts))
