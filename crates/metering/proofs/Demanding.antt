-- What a group demands, type by type.
use Rattle.std.proofs.Common.{ℕ, suc, ◌*◌, ◌≤◌, List, [], ◌∷◌, arith}
use Rattle.std.proofs.lemmas.List.Sums.{sum_by-cons}
use Rattle.std.proofs.lemmas.Nat.{mul-le}
use Rattle.std.specs.List.{zip}
use Rattle.composition.specs.Counts.{total}
use Rattle.metering.specs.Demands.{demand_of}
use Rattle.metering.specs.Tallies.{DemandsSmall}
use Rattle.period.specs.Limits.{most_value}

-- it is at most what so many homes can demand
pub demand_small : (counts each : List ℕ) → DemandsSmall each → demand_of counts each ≤ total counts * most_value
demand_small [] each small = omega arith
demand_small (n ∷ counts) [] small = omega arith
demand_small (n ∷ counts) (d ∷ each) small =
    rw (sum_by-cons (λ (p : ℕ × ℕ). p.0 * p.1) (n, d) (zip counts each))
    (omega (arith, mul-le n d n most_value (omega arith) (small 0 0 (omega arith)), demand_small counts each (λ k e within. small (suc k) e (omega (arith, within)))))
