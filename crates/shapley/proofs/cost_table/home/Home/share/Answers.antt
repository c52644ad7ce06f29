use Rattle.std.proofs.Common.{◌≡◌, ℕ, ◌^◌, ◌∙◌, ap, arith, rules, SFits, subst, sym, w64, to_z, of_z}
use mir.Syntax.{w128}
use Rattle.std.proofs.lemmas.Int.{to_z-of_z}
use Rattle.std.proofs.lemmas.Iterator.{YieldsList-from_map, YieldsList-from_range}
use Rattle.composition.proofs.Places.{at_place_inside, size_small}
use Rattle.composition.specs.Counts.{at_place}
use Rattle.shapley.specs.CostTables.{share_in, term_in}
use Rattle.rounding.proofs.Integers.{read_back}
use Rattle.shapley.proofs.Chains.{chain_fits, chain_sum}
use Rattle.shapley.proofs.Places.{place_sum}
use Rattle.shapley.proofs.Terms.{all_summed, share_fits, term_small}
use Rattle.shapley.proofs.cost_table.home.Home.share.Goals as goal

pub sum-sum-requires-clause-fits : goal.sum-sum-requires-clause-fits
sum-sum-requires-clause-fits c =
    let home = c.args.self.now in
    chain_fits c.size.result (λ p. term_in home.table home.of (at_place home.others.counts p))
    (YieldsList-from_map _ _ (YieldsList-from_range 0 _ _ c.map.ensures.source (omega arith)) c.map.ensures.closure (λ x r q k. search rules))
    (2 ^ 86)
    (λ p. term_small home (at_place home.others.counts p) (at_place_inside home.others.counts p))
    (omega (arith, size_small home.others.counts home.others.few))

-- the sum, as it is read again from its bits
summed : (c : goal.After-sum-sum) → to_z w128 (of_z w128 c.sum-sum.result) ≡ share_in c.args.self.now.table c.args.self.now.of
summed c =
    let home = c.args.self.now in
    let term = λ (p : ℕ). term_in home.table home.of (at_place home.others.counts p) in
    read_back w128 c.sum-sum.type_inv
    ∙ chain_sum c.size.result term
    (YieldsList-from_map _ _ (YieldsList-from_range 0 _ _ c.map.ensures.source (omega arith)) c.map.ensures.closure (λ x r q k. search rules))
    c.sum-sum.result c.sum-sum.ensures.ran
    ∙ ap (λ (n : ℕ). place_sum n term) c.size.ensures ∙ all_summed home

pub overflow_cast-result : goal.overflow_cast-result
overflow_cast-result c =
    let home = c.args.self.now in
    subst (SFits w64) (sym (summed c)) (share_fits home.table home.of home.some)

pub returns : goal.returns
returns c = to_z-of_z w64 _ (overflow_cast-result c) ∙ summed c
