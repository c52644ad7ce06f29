use Rattle.std.proofs.Common.{◌≡◌, ◌*◌, ◌/◌, ◌^◌, pos, sym, ap, ◌∙◌, subst, arith, w64, to_z, of_z, lit<, SFits}
use mir.Syntax.{w128}
use Rattle.std.proofs.lemmas.Int.{ints, to_z-of_z}
use Rattle.composition.proofs.Amounts.{between_fits}
use Rattle.composition.specs.Counts.{most, total}
use Rattle.cost_rules.specs.Limits.{limit}
use Rattle.rounding.proofs.Integers.{read_back}
use Rattle.shapley.proofs.CommonMultiples.{lcm_to_pos}
use Rattle.shapley.proofs.Terms.{share_fits}
use Rattle.shapley.specs.Combinations.{factorial}
use Rattle.shapley.specs.CostTables.{share_in}
use Rattle.every_group.proofs.Averages.{added_makes_share, divided_twice, orders_are, parted_at_first, parts_within}
use Rattle.every_group.proofs.Splitting.{gone_small, others_few}
use Rattle.every_group.proofs.newcomer.Newcomer.share.Goals as goal

pub behind_all-sums-requires : goal.behind_all-sums-requires
behind_all-sums-requires c = parted_at_first c.args.self.now c.of_nobody.result.members.counts c.of_nobody.result.out c.of_nobody.ensures.members c.of_nobody.ensures.out

pub nonzero_div-orders_a_part : goal.nonzero_div-orders_a_part
nonzero_div-orders_a_part c = omega (arith, c.from.ensures, c.lcm_to.ensures.value, lcm_to_pos (total c.args.self.now.table.homes.counts))

pub overflow_cast-orders_a_part : goal.overflow_cast-orders_a_part
overflow_cast-orders_a_part c =
    let home = c.args.self.now in
    let (some, few) = parts_within (total home.table.homes.counts) c.behind_all-sums.result.orders c.from.result home.table.homes.few
    (orders_are home c.of_nobody.result.members.counts c.behind_all-sums.result c.of_nobody.ensures.members c.behind_all-sums.ensures) (c.from.ensures ∙ c.lcm_to.ensures.value) in
    between_fits w128 (factorial most) (pos (c.behind_all-sums.result.orders / c.from.result)) (lit< tt) (omega (arith, ints), omega (arith, ints, few))

pub div_euclid-requires-clause-nonzero : goal.div_euclid-requires-clause-nonzero
div_euclid-requires-clause-nonzero c =
    let home = c.args.self.now in
    let (some, few) = parts_within (total home.table.homes.counts) c.behind_all-sums.result.orders c.from.result home.table.homes.few
    (orders_are home c.of_nobody.result.members.counts c.behind_all-sums.result c.of_nobody.ensures.members c.behind_all-sums.ensures) (c.from.ensures ∙ c.lcm_to.ensures.value) in
    omega (arith, ints, some, few)

pub div_euclid-requires-clause-no_overflow : goal.div_euclid-requires-clause-no_overflow
div_euclid-requires-clause-no_overflow c =
    let home = c.args.self.now in
    let (some, few) = parts_within (total home.table.homes.counts) c.behind_all-sums.result.orders c.from.result home.table.homes.few
    (orders_are home c.of_nobody.result.members.counts c.behind_all-sums.result c.of_nobody.ensures.members c.behind_all-sums.ensures) (c.from.ensures ∙ c.lcm_to.ensures.value) in
    λ e f. omega (arith, ints, some, few, e)

-- the quotient is the share
share_is : (c : goal.After-div_euclid) → to_z w128 (of_z w128 c.div_euclid.result) ≡ share_in c.args.self.now.table c.args.self.now.of
share_is c =
    let home = c.args.self.now in
    let sums = c.behind_all-sums.result in
    let none = c.of_nobody.ensures.members in
    let members = c.of_nobody.result.members.counts in
    let is_lcm = c.from.ensures ∙ c.lcm_to.ensures.value in
    let is_all = orders_are home members sums none c.behind_all-sums.ensures in
    let (some, few) = parts_within (total home.table.homes.counts) sums.orders c.from.result home.table.homes.few is_all is_lcm in
    let plain : to_z w128 (sums.orders / c.from.result) ≡ pos (sums.orders / c.from.result) = omega (arith, ints, few) in
    let first = c.of_nobody.result in
    let small = gone_small home.table home.of home.others.counts home.others.counts members first.out sums home.some home.fewer (others_few home) (home.others.four ∙ sym first.members.four)
    (parted_at_first home members first.out none c.of_nobody.ensures.out) c.behind_all-sums.ensures in
    let as_read : to_z w128 (of_z w128 sums.added) ≡ sums.added = to_z-of_z w128 sums.added (between_fits w128 (2 * limit * factorial most) sums.added (lit< tt) small.added_small) in
    let quotient = divided_twice (total home.table.homes.counts) (share_in home.table home.of) sums.added _ _ sums.orders c.from.result is_all is_lcm
    (added_makes_share home members sums none c.behind_all-sums.ensures) as_read plain in
    read_back w128 c.div_euclid.type_inv ∙ c.div_euclid.ensures ∙ quotient

pub overflow_cast-result : goal.overflow_cast-result
overflow_cast-result c =
    let home = c.args.self.now in
    subst (SFits w64) (sym (share_is c)) (share_fits home.table home.of home.some)

pub returns : goal.returns
returns c =
    let home = c.args.self.now in
    record { groups_are = c.behind_all-sums.ensures.groups_are ∙ ap (λ n. 2 ^ total n) home.fewer; share_is = to_z-of_z w64 _ (overflow_cast-result c) ∙ share_is c }
