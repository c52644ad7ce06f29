-- Taking costs as the table of some homes.
use Rattle.std.specs.Prelude.{◌≡◌, ℕ, ◌<◌, ◌≤◌, List, length, take, ℤ, Some, Ok, Err, Result}
use Rattle.composition.specs.Counts.{size}
use Rattle.cost_rules.specs.Filled.{FirstOutside}
use Rattle.shapley.specs.declared.cost_table.CostTable.{CostTable}
use Rattle.shapley.specs.declared.refusals.TableRefusal.{TableRefusal}
use Rattle.shapley.specs.declared.refusals.TableRefusal.TheVariants.{TooShort, OutsideLimits}

-- costs as the table of homes with these counts. Taken, it has these homes and costs, and what else a table is its type carries. Refused, there are fewer entries than groups
-- inside the homes; or else the first outside the limits among these entries is named.
abbrev pub TableMade : List ℕ → List ℤ → Result CostTable TableRefusal → Type 0
TableMade counts costs (Ok t) = (t.homes.counts ≡ counts) × (t.costs.now ≡ costs)
TableMade counts costs (Err TooShort) = length costs < size counts
TableMade counts costs (Err (OutsideLimits p)) = (size counts ≤ length costs) × FirstOutside (take (size counts) costs) (Some p)
