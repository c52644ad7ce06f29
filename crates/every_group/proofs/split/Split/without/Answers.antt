use Rattle.std.proofs.Common.{◌≡◌, ℕ, ◌+◌, ◌*◌, ◌∙◌, subst, mul_comm, arith}
use Rattle.composition.specs.Counts.{total}
use Rattle.every_group.proofs.Orders.{few_orders, next_order}
use Rattle.shapley.specs.Combinations.{factorial}
use Rattle.every_group.proofs.split.Split.without.Goals as goal

-- each order has one place more for the home
orders_are : (c : goal.After-struct_known-2-1) → c.args.self.orders * c.from.result ≡ factorial (total c.args.self.members.counts) * factorial (c.args.self.out + 1)
orders_are c =
    let members = factorial (total c.args.self.members.counts) in
    let is : c.from.result ≡ c.args.self.out + 1 = omega (arith, c.from.ensures) in
    subst (λ (n : ℕ). c.args.self.orders * c.from.result ≡ members * factorial n) is
    (next_order c.args.self.orders c.args.self.out members c.from.result (omega (arith, is)) (c.args.self.all_orders ∙ mul_comm members (factorial c.args.self.out)) ∙ mul_comm (factorial c.from.result) members)

pub overflow_mul-result : goal.overflow_mul-result
overflow_mul-result c =
    let few = few_orders (total c.args.self.members.counts) (c.args.self.out + 1) (omega (arith, c.requires)) in
    record { fits = omega (arith, orders_are c, few) }

pub invariant_of-result : goal.invariant_of-result
invariant_of-result c = record { few = omega (arith, c.requires); all_orders = orders_are c }
