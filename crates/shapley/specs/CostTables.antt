-- A table of costs, and the shares that it gives.
use Rattle.std.specs.Prelude.{◌≡◌, ℕ, ◌<◌, List, ℤ, pos, Some, None, Option, slice_index_or}
use Rattle.composition.specs.Counts.{count, place}
use Rattle.composition.specs.Types.{position}
use Rattle.composition.specs.declared.demand_type.DemandType.{DemandType}
use Rattle.shapley.specs.Shares.{marginal, share, term}
use Rattle.shapley.specs.declared.cost_table.CostTable.{CostTable}

-- the cost of a group in a list of costs by place
abbrev pub costs_by : List ℕ → List ℤ → List ℕ → ℤ
costs_by counts costs n = slice_index_or costs (place counts n) (pos 0)

-- the cost of a group in a table
abbrev pub cost_in : CostTable → List ℕ → ℤ
cost_in t = costs_by t.homes.counts t.costs.now

-- what one home more of a type adds to the cost of a group
abbrev pub added_in : CostTable → DemandType → List ℕ → ℤ
added_in t k = marginal (cost_in t) (position k)

-- what a group of the others brings to the share of a home of a type
abbrev pub term_in : CostTable → DemandType → List ℕ → ℤ
term_in t k = term t.homes.counts (position k) (cost_in t)

-- the share of a home of a type
abbrev pub share_in : CostTable → DemandType → ℤ
share_in t k = share t.homes.counts (position k) (cost_in t)

-- what a table answers as the share of a home of a type: the share by its costs, or nothing if there is no such home
abbrev pub SharedBy : CostTable → DemandType → Option ℤ → Type 0
SharedBy t k (Some h) = (0 < count (position k) t.homes.counts) × (h ≡ share_in t k)
SharedBy t k None = count (position k) t.homes.counts ≡ 0
