-- What a cost rule means, and what every rule owes.
use Rattle.std.specs.Prelude.{◌≡◌, ℕ, ◌≤◌, List, length, ℤ, pos, Ok, Result}
use Rattle.composition.specs.Counts.{most, total, nobody}
use Rattle.cost_rules.specs.Limits.{Within}
use Rattle.cost_rules.specs.declared.fault.Fault.{Fault}

-- for every composition, given by its counts, a cost or a fault
abbrev pub Meaning : Type 0
Meaning = List ℕ → Result ℤ Fault

-- nobody costs nothing
abbrev pub Free : Meaning → Type 0
Free f = f nobody ≡ Ok (pos 0)

-- every composition that has a cost has one within the limits
abbrev pub Limited : Meaning → Type 0
Limited f = (n : List ℕ) → length n ≡ 4 → total n ≤ most → (c : ℤ) → f n ≡ Ok c → Within c

-- what every rule owes
pub record Lawful (f : Meaning) : Type 0 where
  pub free : Free f
  pub limited : Limited f
