-- What a group of homes demands.
use Rattle.std.specs.Prelude.{ℕ, ◌*◌, List, sum_by}
use Rattle.std.specs.List.{zip}
use Rattle.composition.specs.Counts.{total}

-- all homes together, where a home of each type has its demand
abbrev pub demand_of : List ℕ → List ℕ → ℕ
demand_of counts each = sum_by (λ p. p.0 * p.1) (zip counts each)

-- a group as a walk sees it: how many homes' part of turbine and battery it has, and how its demand is made of that of one home of each type
pub record Group : Type 0 where
  pub homes : ℕ
  pub demand : List ℕ → ℕ

-- a composition as such a group
abbrev pub group_of : List ℕ → Group
group_of counts = record { homes = total counts; demand = demand_of counts }
