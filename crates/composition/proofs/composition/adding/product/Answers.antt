-- The product is that of the two numbers as they were passed, and its bounds make it fit.
use Rattle.std.proofs.Common.{◌≡◌, pos, ◌*ℤ◌, ◌∙◌, arith, rules, lit<, to_z-of_z, w64}
use Rattle.composition.specs.Amounts.{Between}
use Rattle.composition.proofs.Amounts.{Read, product_read, between_fits}
use Rattle.composition.proofs.composition.adding.product.Goals as goal

product :
    (c : goal.After-from-2)
    → (Read c.from.result *ℤ Read c.from-2.result ≡ pos c.args.count *ℤ c.args.amount) × Between 547608330240 (Read c.from.result *ℤ Read c.from-2.result)
product c = product_read c.args.count c.args.amount (Read c.from.result) (Read c.from-2.result) (omega arith) c.ranges.amount (search rules) (search rules)

pub returns-clause-value : goal.returns-clause-value
returns-clause-value c = to_z-of_z (between_fits w64 547608330240 _ (lit< tt) (product c).1) ∙ (product c).0

pub returns-clause-size : goal.returns-clause-size
returns-clause-size c = rw (to_z-of_z (between_fits w64 547608330240 _ (lit< tt) (product c).1)) (product c).1
