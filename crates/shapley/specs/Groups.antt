-- A group inside another, as a type carries it.
use Rattle.std.specs.Prelude.{ℕ, List, [], ◌∷◌}
use Rattle.std.specs.Coded.{×_prop, Unit-prop, le_prop}
use mathlib.Core.HLevel.{⊥_prop}
use Rattle.composition.specs.Counts.{Inside}

-- a group lies inside another in one way
pub Inside_prop : (ns ms : List ℕ) → IsProp (Inside ns ms)
Inside_prop [] [] = Unit-prop
Inside_prop [] (m ∷ ms) = ⊥_prop
Inside_prop (n ∷ ns) [] = ⊥_prop
Inside_prop (n ∷ ns) (m ∷ ms) = ×_prop le_prop (Inside_prop ns ms)
