-- A type's share by counts: over every group of the others, what one home more adds to the group's cost, weighted.
use Rattle.std.specs.Prelude.{ℕ, zero, suc, ◌*◌, List, [], ◌∷◌, ℤ, pos, ◌+ℤ◌, ◌-ℤ◌, ◌*ℤ◌}
use Rattle.composition.specs.Counts.{total, raised, lowered}
use Rattle.shapley.specs.Combinations.{ways}
use Rattle.shapley.specs.Weights.{weight}

-- f 0 + f 1 + .. + f n
abbrev pub range_sum : ℕ → (ℕ → ℤ) → ℤ
range_sum zero f = f zero
range_sum (suc n) f = range_sum n f +ℤ f (suc n)

-- the sum of f over every group inside the counts
abbrev pub box_sum : List ℕ → (List ℕ → ℤ) → ℤ
box_sum [] f = f []
box_sum (m ∷ ms) f = box_sum ms (λ ns. range_sum m (λ n. f (n ∷ ns)))

-- what one home more of the type at position i adds to the cost c of a group
abbrev pub marginal : (List ℕ → ℤ) → ℕ → List ℕ → ℤ
marginal c i n = c (raised i n) -ℤ c n

-- what one group n of the others brings to the share: what the home adds to it, weighted, as often as it can be picked
abbrev pub term : List ℕ → ℕ → (List ℕ → ℤ) → List ℕ → ℤ
term counts i c n = pos (weight (total counts) (total n) * ways (lowered i counts) n) *ℤ marginal c i n

-- the share of a home of the type at position i among homes with these counts, times the least common multiple:
-- over every group of the others
abbrev pub share : List ℕ → ℕ → (List ℕ → ℤ) → ℤ
share counts i c = box_sum (lowered i counts) (term counts i c)
