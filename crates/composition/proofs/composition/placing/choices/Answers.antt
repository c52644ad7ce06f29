use Rattle.std.proofs.Common.{◌+◌, rules}
use Rattle.std.proofs.lemmas.Iterator.{YieldsList-from_map, YieldsList-from_slice}
use Rattle.composition.proofs.Chains.{chain_product, product_fits}
use Rattle.composition.proofs.composition.placing.choices.Goals as goal

pub product-requires-clause-fits : goal.product-requires-clause-fits
product-requires-clause-fits c =
    let counts = c.args.counts.now in
    product_fits counts
    (YieldsList-from_map _ (λ n. n + 1) (YieldsList-from_slice counts (cc)) c.map.ensures.closure (λ x r q k. search rules))
    c.requires

pub returns : goal.returns
returns c =
    let counts = c.args.counts.now in
    chain_product counts
    (YieldsList-from_map _ (λ n. n + 1) (YieldsList-from_slice counts (cc)) c.map.ensures.closure (λ x r q k. search rules))
    c.product.result c.product.ensures.ran
