use Rattle.std.proofs.Common.{◌≡◌, ◌-ℤ◌, ◌*◌, sym, ap, ap₂, ◌∙◌, subst, arith, w64, to_z, of_z, lit<}
use Rattle.std.proofs.lemmas.Int.{ints, to_z-of_z}
use Rattle.composition.proofs.Amounts.{between_fits}
use Rattle.composition.proofs.Changes.{position_below, total_lowered, total_raised}
use Rattle.composition.proofs.Places.{inside_lowered, inside_total, raised_inside}
use Rattle.composition.specs.Counts.{lowered, Inside}
use Rattle.composition.specs.Types.{position}
use Rattle.cost_rules.specs.Limits.{limit}
use Rattle.shapley.specs.CostTables.{added_in, cost_in}
use Rattle.every_group.proofs.Orders.{has_room, made_is}
use Rattle.every_group.proofs.Splitting.{added_between}
use Rattle.every_group.proofs.newcomer.Newcomer.added.Goals as goal

inside : (c : goal.After-with_one) → Inside c.args.group.now.counts (lowered (position c.args.self.now.of) c.args.self.now.table.homes.counts)
inside c = subst (λ n. Inside c.args.group.now.counts n) c.args.self.now.fewer c.requires

pub unwrap-joined-requires : goal.unwrap-joined-requires
unwrap-joined-requires c =
    let home = c.args.self.now in
    let i = position home.of in
    let one_more = total_raised i c.args.group.now.counts (omega (arith, position_below home.of, c.args.group.now.four)) in
    let one_fewer = total_lowered i home.table.homes.counts home.some in
    has_room _ c.with_one.result c.with_one.ensures (omega (arith, one_more, one_fewer, inside_total _ _ (inside c), home.table.homes.few))

pub cost-requires : goal.cost-requires
cost-requires c =
    let home = c.args.self.now in
    let joined = made_is _ _ _ c.with_one.ensures c.unwrap-joined.ensures in
    subst (λ n. Inside n home.table.homes.counts) (sym joined)
    (raised_inside (position home.of) c.args.group.now.counts home.table.homes.counts home.some (subst (λ n. Inside c.args.group.now.counts n) home.fewer c.requires))

pub cost-requires-2 : goal.cost-requires-2
cost-requires-2 c =
    let home = c.args.self.now in
    inside_lowered (position home.of) c.args.group.now.counts home.table.homes.counts (subst (λ n. Inside c.args.group.now.counts n) home.fewer c.requires)

-- the two costs as they are read again from their bits
difference :
    (c : goal.After-cost-2)
    → to_z w64 (of_z w64 c.cost.result) -ℤ to_z w64 (of_z w64 c.cost-2.result)
    ≡ added_in c.args.self.now.table c.args.self.now.of c.args.group.now.counts
difference c =
    let joined = made_is _ _ _ c.with_one.ensures c.unwrap-joined.ensures in
    let plain : to_z w64 (of_z w64 c.cost.result) -ℤ to_z w64 (of_z w64 c.cost-2.result) ≡ c.cost.result -ℤ c.cost-2.result = omega (arith, ints) in
    plain ∙ ap₂ (λ x y. x -ℤ y) (c.cost.ensures ∙ ap (cost_in c.args.self.now.table) joined) c.cost-2.ensures

pub overflow_sub-result : goal.overflow_sub-result
overflow_sub-result c =
    let home = c.args.self.now in
    let small = added_between home.table home.of c.args.group.now.counts home.some (subst (λ n. Inside c.args.group.now.counts n) home.fewer c.requires) in
    rw (difference c) (between_fits w64 (2 * limit) _ (lit< tt) small)

pub returns : goal.returns
returns c = to_z-of_z w64 _ (overflow_sub-result c) ∙ difference c
