-- How all groups of a home's others are gone through. Only contracts inside the crate cite this.
use Rattle.std.specs.Prelude.{◌≡◌, ℕ, ◌+◌, ◌-◌, ◌*◌, ◌^◌, ◌≤◌, List, [], ◌∷◌, ℤ, pos, ◌*ℤ◌, ◌≤ℤ◌, Some, None, Option}
use Rattle.composition.specs.Amounts.{Between}
use Rattle.composition.specs.Counts.{most, total, raised, lowered, Inside}
use Rattle.composition.specs.Types.{position}
use Rattle.composition.specs.declared.composition.Composition.{Composition}
use Rattle.composition.specs.declared.demand_type.DemandType.{DemandType}
use Rattle.cost_rules.specs.Limits.{limit}
use Rattle.shapley.specs.Combinations.{factorial, ways}
use Rattle.shapley.specs.CostTables.{cost_in, share_in}
use Rattle.shapley.specs.Shares.{box_sum, marginal}
use Rattle.shapley.specs.declared.cost_table.CostTable.{CostTable}
use Rattle.every_group.specs.declared.by_groups.ByGroups.{ByGroups}
use Rattle.every_group.specs.declared.sums.Sums.{Sums}

-- a home of a group, and the rest of the group; or the group has no homes
abbrev pub Taken : List ℕ → Option (DemandType × Composition) → Type 0
Taken counts (Some p) = counts ≡ raised (position p.0) p.1.counts
Taken counts None = total counts ≡ 0

-- two groups together, count by count
abbrev pub together : List ℕ → List ℕ → List ℕ
together [] ns = ns
together (m ∷ ms) [] = m ∷ ms
together (m ∷ ms) (n ∷ ns) = (m + n) ∷ together ms ns

-- in how many orders a group can come, and then the rest of so many others
abbrev pub orders : ℕ → List ℕ → ℕ
orders others n = factorial (total n) * factorial (others - total n)

-- what a home of a type adds to a group's cost in all these orders
abbrev pub added_by : CostTable → DemandType → ℕ → List ℕ → ℤ
added_by t k others n = pos (orders others n) *ℤ marginal (cost_in t) (position k) n

-- the sum of f over all groups that some members and some of those left make up, each as often as it can be picked
abbrev pub over : List ℕ → List ℕ → (List ℕ → ℤ) → ℤ
over left members f = box_sum left (λ n. pos (ways left n) *ℤ f (together members n))

-- among the others some are members of a group, so many stay out of it, and some are left
pub record Parted (others left members : List ℕ) (out : ℕ) : Type 0 where
  pub all : total left + (total members + out) ≡ total others
  pub inside : Inside (together members left) others
  -- all orders of the groups that are still to come are at most those of 24 homes
  pub room : over left members (λ n. pos (orders (total others) n)) ≤ℤ pos (factorial most)

-- what going through all groups of these members and of some of those left comes to
pub record GoneThrough (t : CostTable) (k : DemandType) (others left members : List ℕ) (s : Sums) : Type 0 where
  pub groups_are : s.groups ≡ 2 ^ total left
  pub orders_are : pos s.orders ≡ over left members (λ n. pos (orders (total others) n))
  pub added_is : s.added ≡ over left members (added_by t k (total others))

-- and what one group comes to
pub record Behind (t : CostTable) (k : DemandType) (others members : List ℕ) (s : Sums) : Type 0 where
  pub groups_are : s.groups ≡ 1
  pub orders_are : s.orders ≡ orders (total others) members
  pub added_is : s.added ≡ added_by t k (total others) members

-- what all groups of the others come to, as the share by counts has it
pub record FromAll (t : CostTable) (k : DemandType) (r : ByGroups) : Type 0 where
  pub groups_are : r.groups ≡ 2 ^ total (lowered (position k) t.homes.counts)
  pub share_is : r.share ≡ share_in t k

-- no more than the groups of 23 homes come to, at the limits of costs
pub record Small (s : Sums) : Type 0 where
  pub groups_small : s.groups ≤ 2 ^ 23
  pub orders_small : s.orders ≤ factorial most
  pub added_small : Between (2 * limit * factorial most) s.added
