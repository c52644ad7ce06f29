-- What is known of answers.
use Rattle.std.proofs.Common.{◌≡◌, ℕ, ◌<◌, ◌≤◌, ◌⊎◌, List, replicate, ℤ, None, Option, Result, get_or, inl, inr, arith}
use Rattle.std.proofs.lemmas.Bool.{cases_lt}
use Rattle.std.proofs.lemmas.List.{get_or-replicate, get_or_past, length-replicate}
use Rattle.cost_rules.specs.declared.fault.Fault.{Fault}
use Rattle.rule_book.specs.Asked.{Known}
use Rattle.rule_book.specs.declared.definition.Definition.{Definition}

-- at first, nothing
pub nothing_known : (ds : List Definition) (n : List ℕ) (size : ℕ) → Known ds n (replicate size None)
nothing_known ds n size i answer found =
    let none : get_or (replicate size None) i None ≡ None = go (cases_lt i size) in
    cc
  where
    none : Option (Result ℤ Fault)
    none = None

    go : (i < size) ⊎ (size ≤ i) → get_or (replicate size none) i none ≡ none
    go (inl below) = get_or-replicate size i none none below
    go (inr past) = get_or_past (replicate size none) i none (omega (arith, past, length-replicate size none))
