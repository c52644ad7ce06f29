-- The four demand types: their numbers, and where their counts stand.
use Rattle.std.specs.Prelude.{◌≡◌, ℕ, ◌+◌, Ok, Err, Result, ◌≢◌}
use Rattle.composition.specs.declared.demand_type.DemandType.{DemandType}
use Rattle.composition.specs.declared.demand_type.DemandType.TheVariants.{One, Two, Three, Four}
use Rattle.composition.specs.declared.refusals.NoSuchType.{NoSuchType}

-- where the count of a type stands in a list of four counts
abbrev pub position : DemandType → ℕ
position One = 0
position Two = 1
position Three = 2
position Four = 3

-- the number that people know a type by
abbrev pub number_of : DemandType → ℕ
number_of k = position k + 1

-- no type has this number
abbrev pub NoType : ℕ → Type 0
NoType n = (k : DemandType) → n ≢ number_of k

-- what asking for the type with a number answers: the type that has it, or that none has
abbrev pub Numbered : ℕ → Result DemandType NoSuchType → Type 0
Numbered n (Ok k) = n ≡ number_of k
Numbered n (Err e) = NoType n
