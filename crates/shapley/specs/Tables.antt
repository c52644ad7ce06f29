-- What is read off the table of weights.
use Rattle.std.specs.Prelude.{◌≡◌, ℕ, ◌-◌, ◌*◌, Some, None, Option}
use Rattle.shapley.specs.Combinations.{choose}
use Rattle.shapley.specs.CommonMultiple.{lcm_to}
use Rattle.shapley.specs.Weights.{weight, HasWeight}

-- what looking a weight up answers: the weight, which divides the multiple and leaves nothing over, or nothing where there is none
abbrev pub LookedUp : ℕ → ℕ → Option ℕ → Type 0
LookedUp n j (Some w) = HasWeight n j × (w ≡ weight n j) × (w * (n * choose (n - 1) j) ≡ lcm_to n)
LookedUp n j None = HasWeight n j → ⊥
