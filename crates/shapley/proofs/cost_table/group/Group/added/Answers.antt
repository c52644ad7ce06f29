use Rattle.std.proofs.Common.{◌≡◌, ℕ, ◌^◌, ◌+◌, ◌<◌, pos, ◌-ℤ◌, ◌∙◌, ap, ap₂, arith, lit<, w64, to_z, of_z, get_or}
use Rattle.std.proofs.lemmas.Int.{ints, to_z-of_z}
use Rattle.composition.proofs.Amounts.{between_fits}
use Rattle.composition.proofs.Places.{place_below, size_small}
use Rattle.composition.specs.Counts.{place, raised, size}
use Rattle.composition.specs.Types.{position}
use Rattle.shapley.specs.CostTables.{added_in}
use Rattle.shapley.proofs.Terms.{with_home, without_home, added_small}
use Rattle.shapley.proofs.cost_table.group.Group.added.Goals as goal

-- a step further stands the group with the home
further_below : (c : goal.After-step) → c.place-place.result + c.step.result < size c.args.self.now.home.now.table.homes.counts
further_below c =
    let group = c.args.self.now in
    omega
    (arith, c.place-place.ensures.value, c.step.ensures.further group.members.counts group.members.four, place_below _ _ (with_home group.home.now group.members.counts group.inside))

pub overflow_add-further : goal.overflow_add-further
overflow_add-further c =
    let homes = c.args.self.now.home.now.table.homes in
    record { fits = omega (arith, further_below c, size_small homes.counts homes.few) }

pub cost-requires : goal.cost-requires
cost-requires c = further_below c

pub cost-requires-2 : goal.cost-requires-2
cost-requires-2 c =
    let group = c.args.self.now in
    c.place-place.ensures.within (without_home group.home.now group.members.counts group.inside)

-- the two costs as they are read again from their bits
difference :
    (c : goal.After-cost-2)
    → to_z w64 (of_z w64 c.cost.result) -ℤ to_z w64 (of_z w64 c.cost-2.result)
    ≡ added_in c.args.self.now.home.now.table c.args.self.now.home.now.of c.args.self.now.members.counts
difference c =
    let group = c.args.self.now in
    let costs = group.home.now.table.costs.now in
    let further : c.place-place.result + c.step.result ≡ place group.home.now.table.homes.counts (raised (position group.home.now.of) group.members.counts) =
    omega (arith, c.place-place.ensures.value, c.step.ensures.further group.members.counts group.members.four) in
    let plain : to_z w64 (of_z w64 c.cost.result) -ℤ to_z w64 (of_z w64 c.cost-2.result) ≡ c.cost.result -ℤ c.cost-2.result = omega (arith, ints) in
    plain
    ∙ ap₂ (λ x y. x -ℤ y)
    (c.cost.ensures ∙ ap (λ (p : ℕ). get_or costs p (pos 0)) further)
    (c.cost-2.ensures ∙ ap (λ (p : ℕ). get_or costs p (pos 0)) c.place-place.ensures.value)

pub overflow_sub-result : goal.overflow_sub-result
overflow_sub-result c =
    let group = c.args.self.now in
    rw (difference c) (between_fits w64 (2 ^ 30) _ (lit< tt) (added_small group.home.now group.members.counts group.inside))

pub returns : goal.returns
returns c = to_z-of_z w64 _ (overflow_sub-result c) ∙ difference c
