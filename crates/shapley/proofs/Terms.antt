-- What a group of the others brings to a home's share: that it can be read off the tables, and that it is small.
use Rattle.std.proofs.Common.{◌≡◌, ℕ, ◌*◌, ◌^◌, ◌<◌, ◌≤◌, List, ℤ, pos, ◌*ℤ◌, neg_ℤ, ◌≤ℤ◌, ap, ◌∙◌, le_trans, mul-le-mul, arith, pow_mono, w64, SFits}
use Rattle.std.proofs.lemmas.Int.{ints}
use Rattle.composition.proofs.Amounts.{between_fits}
use Rattle.composition.proofs.Changes.{total_lowered}
use Rattle.composition.proofs.Places.{inside_lowered, inside_total, place_below, raised_inside}
use Rattle.composition.specs.Amounts.{Between}
use Rattle.composition.specs.Counts.{most, total, count, size, Inside, place, at_place, raised, lowered}
use Rattle.composition.specs.Types.{position}
use Rattle.composition.specs.declared.demand_type.DemandType.{DemandType}
use Rattle.cost_rules.specs.Limits.{limit, Within}
use Rattle.shapley.proofs.Combinatorics.{ways_le_power}
use Rattle.shapley.proofs.CommonMultiples.{lcm_to_small}
use Rattle.rounding.proofs.Integers.{scale_≤, *ℤ_negℤ}
use Rattle.shapley.proofs.Places.{place_sum, places_are_groups}
use Rattle.shapley.proofs.Shapley.{share_bounded_by_counts}
use Rattle.shapley.proofs.Weights.{weight_le_lcm}
use Rattle.shapley.specs.Combinations.{ways}
use Rattle.shapley.specs.CommonMultiple.{lcm_to}
use Rattle.shapley.specs.CostTables.{added_in, cost_in, share_in, term_in}
use Rattle.shapley.specs.Shares.{box_sum}
use Rattle.shapley.specs.Weights.{weight}
use Rattle.shapley.specs.declared.cost_table.CostTable.{CostTable}
use Rattle.shapley.specs.declared.cost_table.home.Home.{Home}

-- ---- how much a group counts

-- among 23 others there are no more ways than subsets
ways_small : (ms ns : List ℕ) → total ms ≤ 23 → ways ms ns ≤ 2 ^ 23
ways_small ms ns h = le_trans (ways_le_power ms ns) (pow_mono h)

-- a weight is at most the least common multiple, which is below 2 ^ 33
pub factor_small : (n j : ℕ) (ms ns : List ℕ) → n ≤ 24 → total ms ≤ 23 → weight n j * ways ms ns ≤ 2 ^ 56
factor_small n j ms ns h k =
    le_trans (mul-le-mul (le_trans (weight_le_lcm n j) (lcm_to_small n h)) (ways_small ms ns k)) (omega arith)

-- so many times what is at most 2 ^ 30, on either side of 0
pub times_small : (f : ℕ) (z : ℤ) → f ≤ 2 ^ 56 → Between (2 ^ 30) z → Between (2 ^ 86) (pos f *ℤ z)
times_small f z h (low, high) =
    let s : (pos f *ℤ neg_ℤ (pos (2 ^ 30))) ≤ℤ (pos f *ℤ z) = scale_≤ f (neg_ℤ (pos (2 ^ 30))) z low in
    let t : (pos f *ℤ z) ≤ℤ (pos f *ℤ pos (2 ^ 30)) = scale_≤ f z (pos (2 ^ 30)) high in
    let e : pos f *ℤ neg_ℤ (pos (2 ^ 30)) ≡ neg_ℤ (pos f *ℤ pos (2 ^ 30)) = *ℤ_negℤ (pos f) (pos (2 ^ 30)) in
    (omega (arith, ints), omega (arith, ints))

-- ---- a home, and a group of the others

-- the others are one home fewer
pub others_fewer : (h : Home) → total h.others.counts < total h.table.homes.counts
others_fewer h = omega (arith, total_lowered (position h.of) h.table.homes.counts h.some, ap total h.fewer)

pub others_few : (h : Home) → total h.others.counts < most
others_few h = let fewer : total h.others.counts < total h.table.homes.counts = others_fewer h in omega (arith, h.table.homes.few)

module _ (h : Home) (n : List ℕ) (inside : Inside n h.others.counts) where
  lies : Inside n (lowered (position h.of) h.table.homes.counts)
  lies = rw h.fewer at inside

  -- the group leaves a home over, so that its weight stands in the row
  pub members_fewer : total n < total h.table.homes.counts
  members_fewer = omega (arith, inside_total n h.others.counts inside, others_fewer h)

  -- the group lies inside the homes, and so it does with the home
  pub without_home : Inside n h.table.homes.counts
  without_home = inside_lowered (position h.of) n h.table.homes.counts lies

  pub with_home : Inside (raised (position h.of) n) h.table.homes.counts
  with_home = raised_inside (position h.of) n h.table.homes.counts h.some lies

  -- a group's cost is within the limits
  cost_within : (m : List ℕ) → Inside m h.table.homes.counts → Within (cost_in h.table m)
  cost_within m i = h.table.limits (place h.table.homes.counts m) (place_below h.table.homes.counts m i)

  -- and so is what the home adds to it
  pub added_small : Between (2 ^ 30) (added_in h.table h.of n)
  added_small =
      let a : Within (cost_in h.table (raised (position h.of) n)) = cost_within (raised (position h.of) n) with_home in
      let b : Within (cost_in h.table n) = cost_within n without_home in
      (omega (arith, ints), omega (arith, ints))

  -- how much the group counts
  pub counts_small : weight (total h.table.homes.counts) (total n) * ways h.others.counts n ≤ 2 ^ 56
  counts_small =
      factor_small (total h.table.homes.counts) (total n) h.others.counts n h.table.homes.few
      (omega (arith, others_few h))

  -- a product of the two is what the group brings
  pub term_is : (f : ℕ) → f ≡ weight (total h.table.homes.counts) (total n) * ways h.others.counts n → pos f *ℤ added_in h.table h.of n ≡ term_in h.table h.of n
  term_is f e = rw (e, h.fewer)

  pub term_small : Between (2 ^ 86) (term_in h.table h.of n)
  term_small = rw h.fewer at (times_small (weight (total h.table.homes.counts) (total n) * ways h.others.counts n) (added_in h.table h.of n) counts_small added_small)

-- ---- a home's share

-- what the groups at all places of the others bring, added up
pub all_summed : (h : Home) → place_sum (size h.others.counts) (λ p. term_in h.table h.of (at_place h.others.counts p)) ≡ share_in h.table h.of
all_summed h =
    places_are_groups h.others.counts (term_in h.table h.of) ∙ ap (λ (ms : List ℕ). box_sum ms (term_in h.table h.of)) h.fewer

-- by costs within their limits it fits: 24 homes' least common multiple times a thousand million is below 2 ^ 63
pub share_fits : (t : CostTable) (k : DemandType) → 0 < count (position k) t.homes.counts → SFits w64 (share_in t k)
share_fits t k some =
    let homes = t.homes in
    between_fits w64 (lcm_to (total homes.counts) * (2 * limit)) (share_in t k)
    (omega (arith, lcm_to_small (total homes.counts) homes.few))
    (share_bounded_by_counts limit (cost_in t) homes.counts k homes.four homes.few some
    (λ n inside. t.limits (place homes.counts n) (place_below homes.counts n inside)))
