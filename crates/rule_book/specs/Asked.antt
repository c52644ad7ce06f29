-- What is known of the rules' answers while a book is asked. Only contracts inside the crate cite this.
use Rattle.std.specs.Prelude.{◌≡◌, ℕ, List, ℤ, Some, None, Option, Result, slice_index_or}
use Rattle.cost_rules.specs.declared.fault.Fault.{Fault}
use Rattle.rule_book.specs.Meanings.{means}
use Rattle.rule_book.specs.declared.definition.Definition.{Definition}

-- every answer that is kept under a number is what that rule means for a composition
abbrev pub Known : List Definition → List ℕ → List (Option (Result ℤ Fault)) → Type 0
Known ds n known = (i : ℕ) (answer : Result ℤ Fault) → slice_index_or known i None ≡ Some answer → answer ≡ means ds i n

-- every answer that was kept stands where it stood, and as it was. With this, a rule whose answer is kept when it is told is worked out at most once for a question, so that the work grows with the rules that are reached, and not with the ways to them
abbrev pub Keeps : List (Option (Result ℤ Fault)) → List (Option (Result ℤ Fault)) → Type 0
Keeps old new = (i : ℕ) (answer : Result ℤ Fault) → slice_index_or old i None ≡ Some answer → slice_index_or new i None ≡ Some answer
