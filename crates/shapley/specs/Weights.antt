-- The weight of what a home adds to a group of others, as a whole number over the least common multiple.
use Rattle.std.specs.Prelude.{◌≡◌, ℕ, ◌-◌, ◌*◌, ◌/◌, ◌<◌, ◌≤◌}
use Rattle.composition.specs.Counts.{most}
use Rattle.shapley.specs.Combinations.{choose}
use Rattle.shapley.specs.CommonMultiple.{lcm_to}

-- among n homes, for a group of j others: one part in n, shared by all groups of that many others
abbrev pub weight : ℕ → ℕ → ℕ
weight n j = lcm_to n / (n * choose (n - 1) j)

-- there is a weight for 1 to 24 homes and a group of some of the others
abbrev pub HasWeight : ℕ → ℕ → Type 0
HasWeight n j = (1 ≤ n) × (n ≤ most) × (j < n)

-- the division leaves nothing over, for up to 24 homes
abbrev pub WeightsAreExact : Type 0
WeightsAreExact = (n j : ℕ) → HasWeight n j → weight n j * (n * choose (n - 1) j) ≡ lcm_to n
