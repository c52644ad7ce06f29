use Rattle.std.proofs.Common.{◌*◌, ◌^◌, ◌<◌, ◌≤◌, fold, ◌∙◌, pow_mono, refl, one-mul, arith, rules}
use Rattle.std.proofs.lemmas.Iterator.{YieldsList-from_map}
use Rattle.std.proofs.lemmas.Iterator.Adapters.{serves_from_places, total_from_yields_List}
use Rattle.std.proofs.lemmas.Iterator.Consumers.{YieldsList-at}
use Rattle.composition.proofs.Chains.{each_front}
use Rattle.composition.specs.Counts.{total}
use Rattle.shapley.proofs.Picks.{paired, pick, picks_allowed, products, products_small}
use Rattle.shapley.proofs.Terms.{others_few}
use Rattle.shapley.proofs.cost_table.group.Group.ways.Goals as goal

pub product-requires-clause-can : goal.product-requires-clause-can
product-requires-clause-can c =
    let group = c.args.self.now in (
      (tt, tt),
      serves_from_places (YieldsList-at c.map.ensures.source (paired group.home.now.others.counts group.members.counts (search rules) (search rules)))
          (λ x q e. refl)
          (λ x k below e. let (few, within) = picks_allowed _ _ (others_few group.home.now) group.inside k (x.0.now, x.1.now) below e in search rules),
    )

-- with at most 23 others, no more than 2 ^ 23
pub product-requires-clause-fits : goal.product-requires-clause-fits
product-requires-clause-fits c =
    let group = c.args.self.now in
    let others = group.home.now.others.counts in
    let few : total others ≤ 23 = omega (arith, others_few group.home.now) in
    let small : 2 ^ total others ≤ 2 ^ 23 = pow_mono few in
    each_front
    (YieldsList-from_map _ pick (YieldsList-at c.map.ensures.source (paired others group.members.counts (search rules) (search rules))) c.map.ensures.closure (λ x r q k. search rules))
    (λ xs. fold (λ a x. a * x) 1 xs < 2 ^ 64)
    (λ k below. omega (arith, products_small 1 k others group.members.counts))

pub returns : goal.returns
returns c =
    let group = c.args.self.now in
    let others = group.home.now.others.counts in
    total_from_yields_List (λ a x. a * x) 1 c.product.result c.product.ensures.ran
    (YieldsList-from_map _ pick (YieldsList-at c.map.ensures.source (paired others group.members.counts (search rules) (search rules))) c.map.ensures.closure (λ x r q k. search rules))
    ∙ products 1 others group.members.counts (omega arith) ∙ one-mul _
