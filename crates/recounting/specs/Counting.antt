-- How every type's share is counted by groups. Only contracts inside the crate cite this.
use Rattle.std.specs.Prelude.{List, None, Option, slice_index_or}
use Rattle.composition.specs.Types.{position}
use Rattle.composition.specs.declared.demand_type.DemandType.{DemandType}
use Rattle.shapley.specs.declared.cost_table.CostTable.{CostTable}
use Rattle.every_group.specs.ByGroups.{AsDrafted, SharedByGroups}
use Rattle.every_group.specs.declared.by_groups.ByGroups.{ByGroups}

-- a type's share by groups, out of a table
pub record Counted (t : CostTable) (k : DemandType) (r : Option ByGroups) : Type 0 where
  pub from_subsets : SharedByGroups t k r
  pub as_drafted : AsDrafted t k r

-- and that of every type
abbrev pub AllCounted : CostTable → List (Option ByGroups) → Type 0
AllCounted t rs = (k : DemandType) → Counted t k (slice_index_or rs (position k) None)
