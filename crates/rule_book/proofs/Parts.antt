-- The costs of a sum's parts, as 64 bits hold them.
use Rattle.std.proofs.Common.{◌≡◌, ℕ, ◌≤◌, List, length, ℤ, ◌+ℤ◌, Ok, Result, sym, ap, ◌∙◌, arith, FitsSigned, w64, to_z, of_z}
use Rattle.std.proofs.lemmas.Int.{ints}
use Rattle.composition.specs.Counts.{total}
use Rattle.cost_rules.specs.Limits.{Within}
use Rattle.cost_rules.specs.Prices.{priced}
use Rattle.cost_rules.specs.Sums.{both}
use Rattle.cost_rules.specs.declared.fault.Fault.{Fault}
use Rattle.rule_book.specs.Meanings.{means}
use Rattle.rule_book.specs.Owed.{means_limited}
use Rattle.rule_book.specs.declared.definition.Definition.{Definition}

-- a rule's cost lies within the limits
pub part_within :
    (ds : List Definition) (i : ℕ) (n : List ℕ) (r : Result ℤ Fault) (x : ℤ)
    → length n ≡ 4
    → total n ≤ 24
    → r ≡ means ds i n
    → r ≡ Ok x
    → Within x
part_within ds i n r x four few answered passed = means_limited ds i n four few x (sym answered ∙ passed)

pub parts_fit : (x y : ℤ) → Within x → Within y → FitsSigned w64 (to_z w64 (of_z w64 x) +ℤ to_z w64 (of_z w64 y))
parts_fit x y p q = omega (arith, ints, p.0, p.1, q.0, q.1)

parts_added : (x y : ℤ) → Within x → Within y → to_z w64 (of_z w64 (to_z w64 (of_z w64 x) +ℤ to_z w64 (of_z w64 y))) ≡ x +ℤ y
parts_added x y p q = omega (arith, ints, p.0, p.1, q.0, q.1)

-- so that the price of the two is that of the sum
pub parts_priced :
    (x y : ℤ) (r s z : Result ℤ Fault)
    → Within x
    → Within y
    → r ≡ Ok x
    → s ≡ Ok y
    → z ≡ priced (to_z w64 (of_z w64 (to_z w64 (of_z w64 x) +ℤ to_z w64 (of_z w64 y))))
    → z ≡ both r s
parts_priced x y r s z p q left right price = rw (left, right) (price ∙ ap priced (parts_added x y p q))
