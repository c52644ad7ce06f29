use Rattle.std.proofs.Common.{◌≡◌, ℕ, ◌+◌, ◌*◌, suc, ap, ◌∙◌, subst, arith}
use Rattle.composition.proofs.Changes.{position_below, total_raised}
use Rattle.composition.specs.Counts.{total, raised}
use Rattle.composition.specs.Types.{position}
use Rattle.every_group.proofs.Orders.{few_orders, has_room, made_is, next_order}
use Rattle.shapley.specs.Combinations.{factorial}
use Rattle.every_group.proofs.split.Split.with.Goals as goal

-- the group has one home more
one_more : (c : goal.After-with_one) → total (raised (position c.args.next) c.args.self.members.counts) ≡ total c.args.self.members.counts + 1
one_more c = total_raised (position c.args.next) c.args.self.members.counts (omega (arith, position_below c.args.next, c.args.self.members.four))

pub unwrap-members-requires : goal.unwrap-members-requires
unwrap-members-requires c = has_room _ c.with_one.result c.with_one.ensures (omega (arith, one_more c, c.requires))

joined : (c : goal.After-from) → c.unwrap-members.result.counts ≡ raised (position c.args.next) c.args.self.members.counts
joined c = made_is _ _ _ c.with_one.ensures c.unwrap-members.ensures

counted : (c : goal.After-from) → total c.unwrap-members.result.counts ≡ suc (total c.args.self.members.counts)
counted c = ap total (joined c) ∙ total_raised (position c.args.next) c.args.self.members.counts (omega (arith, position_below c.args.next, c.args.self.members.four)) ∙ omega arith

-- so that each order has one place more for it
orders_are : (c : goal.After-from) → c.args.self.orders * c.from.result ≡ factorial (total c.unwrap-members.result.counts) * factorial c.args.self.out
orders_are c =
    let is : c.from.result ≡ total c.unwrap-members.result.counts = omega (arith, c.from.ensures, c.homes.ensures) in
    subst (λ (n : ℕ). c.args.self.orders * c.from.result ≡ factorial n * factorial c.args.self.out) is
    (next_order c.args.self.orders (total c.args.self.members.counts) (factorial c.args.self.out) c.from.result (is ∙ counted c) c.args.self.all_orders)

pub overflow_mul-result : goal.overflow_mul-result
overflow_mul-result c =
    let few = few_orders (total c.unwrap-members.result.counts) c.args.self.out (omega (arith, counted c, c.requires)) in
    record { fits = omega (arith, orders_are c, few) }

pub invariant_of-result : goal.invariant_of-result
invariant_of-result c = record { few = omega (arith, counted c, c.requires); all_orders = orders_are c }
