use Rattle.std.proofs.Common.{◌≡◌, ◌^◌, pos, ◌*ℤ◌, ◌∙◌, ap₂, arith, lit<, to_z, of_z}
use mir.Syntax.{w128}
use Rattle.std.proofs.lemmas.Int.{ints, to_z-of_z}
use Rattle.shapley.specs.CostTables.{term_in}
use Rattle.composition.proofs.Amounts.{between_fits}
use Rattle.shapley.proofs.Terms.{term_is, term_small}
use Rattle.shapley.proofs.cost_table.group.Group.term.Goals as goal

-- the two factors as they are read again from their bits
product :
    (c : goal.After-from-2)
    → to_z w128 (of_z w128 c.from.result) *ℤ to_z w128 (of_z w128 c.from-2.result)
    ≡ term_in c.args.self.now.home.now.table c.args.self.now.home.now.of c.args.self.now.members.counts
product c =
    let group = c.args.self.now in
    let left : to_z w128 (of_z w128 c.from.result) ≡ pos c.factor.result = omega (arith, ints) in
    let right : to_z w128 (of_z w128 c.from-2.result) ≡ c.added.result = omega (arith, ints) in
    ap₂ (λ x y. x *ℤ y) left (right ∙ c.added.ensures) ∙ term_is group.home.now group.members.counts group.inside c.factor.result c.factor.ensures

pub overflow_mul-result : goal.overflow_mul-result
overflow_mul-result c =
    let group = c.args.self.now in
    rw (product c) (between_fits w128 (2 ^ 86) _ (lit< tt) (term_small group.home.now group.members.counts group.inside))

pub returns : goal.returns
returns c = to_z-of_z w128 _ (overflow_mul-result c) ∙ product c
