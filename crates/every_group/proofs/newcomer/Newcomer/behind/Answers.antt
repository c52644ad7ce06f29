use Rattle.std.proofs.Common.{◌≡◌, ℕ, ◌*◌, ◌≤◌, ◌*ℤ◌, pos, sym, refl, ap, ap₂, ◌∙◌, subst, arith, to_z, of_z, lit<}
use mir.Syntax.{w128}
use Rattle.std.proofs.lemmas.Int.{ints, to_z-of_z}
use Rattle.composition.proofs.Amounts.{between_fits}
use Rattle.composition.specs.Amounts.{Between}
use Rattle.composition.specs.Counts.{most, total, Inside}
use Rattle.cost_rules.specs.Limits.{limit}
use Rattle.rounding.proofs.Integers.{read_back}
use Rattle.shapley.specs.Combinations.{factorial}
use Rattle.shapley.specs.CostTables.{added_in}
use Rattle.every_group.proofs.Orders.{added_fits, all_orders, few_orders}
use Rattle.every_group.proofs.Splitting.{added_between}
use Rattle.every_group.proofs.newcomer.Newcomer.behind.Goals as goal

pub overflow_cast-result : goal.overflow_cast-result
overflow_cast-result c =
    let split = c.args.split in
    let few : split.orders ≤ factorial most = subst (λ n. n ≤ factorial most) (sym split.all_orders) (few_orders (total split.members.counts) split.out (omega (arith, split.few))) in
    between_fits w128 (factorial most) (pos split.orders) (lit< tt) (omega (arith, ints), omega (arith, ints, few))

-- what is multiplied, as it is read again from its bits
added : (c : goal.After-from) → to_z w128 c.args.split.orders *ℤ to_z w128 (of_z w128 c.from.result) ≡ pos c.args.split.orders *ℤ added_in c.args.self.now.table c.args.self.now.of c.args.split.members.counts
added c =
    let split = c.args.split in
    let few : split.orders ≤ factorial most = subst (λ n. n ≤ factorial most) (sym split.all_orders) (few_orders (total split.members.counts) split.out (omega (arith, split.few))) in
    let plain : to_z w128 split.orders ≡ pos split.orders = omega (arith, ints, few) in
    let short : c.from.result ≡ c.added-added.result = omega (arith, ints, c.from.ensures) in
    ap₂ (λ x y. x *ℤ y) plain (read_back w128 c.from.type_inv ∙ short ∙ c.added-added.ensures)

small : (c : goal.After-from) → Between (2 * limit * factorial most) (to_z w128 c.args.split.orders *ℤ to_z w128 (of_z w128 c.from.result))
small c =
    let home = c.args.self.now in
    let split = c.args.split in
    let little = added_between home.table home.of split.members.counts home.some (subst (λ n. Inside split.members.counts n) home.fewer c.requires.inside) in
    rw (added c) (added_fits split.orders (total split.members.counts) split.out _ split.all_orders (omega (arith, split.few)) little)

pub overflow_mul-result : goal.overflow_mul-result
overflow_mul-result c = between_fits w128 (2 * limit * factorial most) _ (lit< tt) (small c)

pub returns : goal.returns
returns c = record {
  groups_are = refl;
  orders_are = all_orders c.args.split.orders (total c.args.split.members.counts) c.args.split.out _ c.args.split.all_orders c.requires.all;
  added_is =
      to_z-of_z w128 _ (overflow_mul-result c) ∙ added c
      ∙ ap (λ (n : ℕ). pos n *ℤ added_in c.args.self.now.table c.args.self.now.of c.args.split.members.counts)
      (all_orders c.args.split.orders (total c.args.split.members.counts) c.args.split.out _ c.args.split.all_orders c.requires.all);
}
