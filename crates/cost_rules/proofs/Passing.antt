-- What a sum knows of a cost that a part has passed on.
use Rattle.std.proofs.Common.{◌≡◌, ℕ, ◌≤◌, List, length, ℤ, Ok, Result, sym, ◌∙◌, arith, w64, to_z, of_z}
use Rattle.std.proofs.lemmas.Int.{ints}
use Rattle.composition.specs.Counts.{total}
use Rattle.cost_rules.specs.Limits.{Within}
use Rattle.cost_rules.specs.Meanings.{Meaning, Limited}
use Rattle.cost_rules.specs.declared.fault.Fault.{Fault}

-- a part's cost lies within the limits, as the sum reads it from 64 bits
pub passed_within :
    (f : Meaning) (n : List ℕ) (r : Result ℤ Fault) (x : ℤ)
    → Limited f
    → length n ≡ 4
    → total n ≤ 24
    → r ≡ f n
    → r ≡ Ok x
    → Within (to_z w64 (of_z w64 x))
passed_within f n r x limited four few answered passed =
    let within : Within x = limited n four few x (sym answered ∙ passed) in
    (omega (arith, ints, within.0, within.1), omega (arith, ints, within.0, within.1))
