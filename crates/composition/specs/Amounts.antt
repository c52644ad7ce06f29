-- Amounts for each home of a type, added up over all homes of a group.
use Rattle.std.specs.Prelude.{ℕ, List, [], ◌∷◌, ℤ, pos, ◌+ℤ◌, ◌*ℤ◌, neg_ℤ, ◌≤ℤ◌}

-- for each type its count times its amount, added up
abbrev pub weighted : List ℕ → List ℤ → ℤ
weighted [] amounts = pos 0
weighted (n ∷ ns) [] = pos 0
weighted (n ∷ ns) (x ∷ xs) = pos n *ℤ x +ℤ weighted ns xs

-- z is at most m away from 0
abbrev pub Between : ℕ → ℤ → Type 0
Between m z = (neg_ℤ (pos m) ≤ℤ z) × (z ≤ℤ pos m)
